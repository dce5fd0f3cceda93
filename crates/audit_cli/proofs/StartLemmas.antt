-- The fixed start of a trace: the list of answers, built one by one, and the items of the start state.
use Rattle.std.proofs.Common.{◌≡◌, ◌∙◌, inl, inr, ℕ, suc, ◌+◌, ◌-◌, ◌<◌, ◌==◌, List, [], ◌∷◌, ◌++◌, replicate, refl, sym, ap, arith, append_assoc, eqb-true, if◌then◌else◌}
use Rattle.std.specs.Prelude.{nat_lt, slice_index}
use Rattle.std.proofs.lemmas.Bool.{cases_Bool}
use Rattle.thumb_model.specs.Effect.{sp, lr, n_flag, z_flag, c_flag, v_flag}
use Rattle.std.proofs.lemmas.List.{map-append}
use Rattle.thumb_model.specs.States as model
use Rattle.thumb_machine.specs.declared.answers.Answer.{Answer}
use Rattle.thumb_machine.specs.Outside.{answer_of, answers_of}
use Rattle.audit_cli.specs.Trace.{answers_from, numbered_answer, start_values}
use Rattle.kept_places.proofs.Bits.{zero_in}

-- one more answer than before
pub answers_more : (before after : List Answer) (a : Answer) (n : ℕ) → n < 257 → after ≡ before ++ a ∷ [] → answer_of a ≡ numbered_answer n
    → answers_of before ++ answers_from n (257 - n) ≡ answers_from 1 256 → answers_of after ++ answers_from (n + 1) (257 - (n + 1)) ≡ answers_from 1 256
unfolding answers_from
answers_more before after a n lt pushed is far =
    let left : 257 - n ≡ suc (257 - (n + 1)) = omega (arith, lt) in
    ap (λ (l : List model.Answer). l ++ answers_from (n + 1) (257 - (n + 1)))
    (ap answers_of pushed ∙ map-append answer_of before (a ∷ []) ∙ ap (λ (x : model.Answer). answers_of before ++ x ∷ []) is)
    ∙ append_assoc (answers_of before) (numbered_answer n ∷ []) (answers_from (n + 1) (257 - (n + 1)))
    ∙ ap (λ (k : ℕ). answers_of before ++ answers_from n k) (sym left)
    ∙ far

pub no_answers : (n : ℕ) → answers_from n 0 ≡ []
unfolding answers_from
no_answers n = refl

-- ---- the items at the start ----

-- every item but sp and lr holds 0
pub items_at : (x : ℕ) → ◌≡◌ {A = ℕ} (if x == n_flag then 0 else if x == z_flag then 0 else if x == c_flag then 0 else if x == v_flag then 0 else if x == sp then 536875008 else if x == lr then 4294967295
    else if nat_lt x 13 then slice_index (replicate 13 0) x else 0) (start_values x)
items_at x = elim (cases_Bool (x == n_flag)) [
  | inl h ↦ let e : x ≡ n_flag = eqb-true x n_flag h in rw e refl
  | inr n ↦ elim (cases_Bool (x == z_flag)) [
    | inl h ↦ let e : x ≡ z_flag = eqb-true x z_flag h in rw e refl
    | inr z ↦ elim (cases_Bool (x == c_flag)) [
      | inl h ↦ let e : x ≡ c_flag = eqb-true x c_flag h in rw e refl
      | inr c ↦ elim (cases_Bool (x == v_flag)) [
        | inl h ↦ let e : x ≡ v_flag = eqb-true x v_flag h in rw e refl
        | inr v ↦ rw (n, z, c, v) (ap (λ (r : ℕ). if x == sp then 536875008 else if x == lr then 4294967295 else r) (elim (cases_Bool (nat_lt x 13)) [
          | inl h ↦ rw h (zero_in 13 x)
          | inr h ↦ rw h refl
        ]))
      ]
    ]
  ]
]
