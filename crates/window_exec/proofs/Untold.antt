-- The proof of `EqualIsUntold`: two sequences are equal exactly where no state tells them apart.
use Rattle.std.proofs.Common.{◌≡◌, ◌∙◌, ◌==◌, ℕ, List, sym, inl, inr, true≢false, eq-eqb, eqb-true}
use Rattle.std.specs.Prelude.{◌↔◌}
use Rattle.std.proofs.lemmas.Bool.{cases_Bool}
use Rattle.thumb_instr.specs.declared.instr.Instr.{Instr}
use Rattle.thumb_instr.specs.Items.{has, one_of}
use Rattle.thumb_model.specs.Effect.{Values, AreWords, after_all, Equal}
use Rattle.window_exec.specs.State.{Tells}

pub equal_is_untold : (left right : List Instr) (items : List ℕ) (mask : ℕ) → ((x : ℕ) → has mask x ≡ one_of x items) → Equal left right items ↔ ((v : Values) → AreWords v → Tells v left right mask → ⊥)
equal_is_untold left right items mask same = (
  λ equal v words t. t.2 (equal v words t.0 (sym (same t.0) ∙ t.1)),
  λ untold v words x among. elim (cases_Bool (after_all left v x == after_all right v x)) [
    | inl e ↦ eqb-true _ _ e
    | inr e ↦ absurd (untold v words (x, same x ∙ among, λ h. true≢false (sym (eq-eqb _ _ h) ∙ e)))
  ],
)
