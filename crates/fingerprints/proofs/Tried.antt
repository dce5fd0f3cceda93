-- The loop over trials, from the last to the first.
use Rattle.std.proofs.Common.{◌≡◌, ℕ, ◌+◌, ◌-◌, ◌<◌, ◌≤◌, ◌↔◌, inl, inr, ap, ◌∙◌, arith, List, length, get_or, sym, subst, Bool, IsTrue}
use Rattle.std.specs.List.{Any}
use Rattle.std.proofs.lemmas.Bool.{cases_lt}
use Rattle.std.proofs.lemmas.List.{get_or_default}
use Rattle.thumb_model.specs.Effect.{Values}
use Rattle.window_exec.specs.State.{Differ}

-- ---- none of a list so far, or one of it ----

pub any_at : {X : Type 0} (P : X → Type 0) (xs : List X) (i : ℕ) (d : X) → i < length xs → P (get_or xs i d) → Any P xs
any_at P xs i d low here = (i, get_or xs i d, low, get_or_default xs i (get_or xs i d) d low, here)

-- a test against a state is a test against its values
pub beside : (a b v : Values) (mask : ℕ) (r : Bool) → b ≡ v → IsTrue r ↔ Differ a b mask → IsTrue r ↔ Differ a v mask
beside a b v mask r e h = subst (λ w. IsTrue r ↔ Differ a w mask) e h

-- one more of the last trials doesn't tell
pub one_more_passed : {X : Type 0} (P : X → Type 0) (xs : List X) (passed : ℕ) (d : X) → passed < length xs
    → ((k : ℕ) (x : X) → length xs ≤ k + passed → k < length xs → get_or xs k x ≡ x → P x → ⊥) → (P (get_or xs (length xs - 1 - passed) d) → ⊥)
    → (k : ℕ) (x : X) → length xs ≤ k + (passed + 1) → k < length xs → get_or xs k x ≡ x → P x → ⊥
one_more_passed P xs passed d some none here k x past low at does = elim (cases_lt (length xs) (k + passed + 1)) [
  | inl h ↦ none k x (omega arith) low at does
  | inr h ↦ (
      let is : k ≡ length xs - 1 - passed = omega arith in
      here (subst P (sym at ∙ get_or_default xs k x d low ∙ ap (λ n. get_or xs n d) is) does)
      )
]
