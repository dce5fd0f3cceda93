-- Which places are due at first: where a branch stands, or an instruction that isn't reached and is no call.
use Rattle.std.proofs.Common.{◌≡◌, ◌↔◌, ◌∙◌, ℕ, zero, suc, ◌+◌, ◌<◌, ◌||◌, Bool, true, false, not, List, [], ◌∷◌, ◌++◌, length, Option, Some, refl, subst, ap, inl, inr, arith}
use Rattle.std.specs.Prelude.{slice_get}
use Rattle.std.proofs.lemmas.Bool.{cases_lt}
use Rattle.thumb_instr.specs.declared.instr.Instr.{Instr}
use Rattle.thumb_model.specs.Listing.{Mention, Op, Code, is_call_instr}
use Rattle.thumb_model.specs.Flow.{Reached}
use Rattle.flow_tidy.specs.Tidying.{is_branch, Cause, ToNext, ToEnd, Idle, HasCause, IsIdle}
use Rattle.flow_tidy.specs.DuePlaces.{may_change, IsCaused}

branch_may : (code : Code) (p : ℕ) (mark : Bool) (i : Instr) (mention : Option Mention) → slice_get code.places p ≡ Some (Op i mention) → is_branch i ≡ true → may_change (slice_get code.places p) mark ≡ true
branch_may code p mark i mention e b = ap (λ o. may_change o mark) e ∙ ap (λ (x : Bool). x || not (mark || is_call_instr i)) b

idle_may : (code : Code) (p : ℕ) (mark : Bool) → (mark ≡ true) ↔ Reached code p → IsIdle code p → may_change (slice_get code.places p) mark ≡ true
idle_may code p true m h = absurd (h.unreached (m.0 refl))
idle_may code p false m h = ap (λ o. may_change o false) h.stands ∙ ap (λ (x : Bool). is_branch h.i || not (false || x)) h.no_call ∙ elim (is_branch h.i) as (λ b. (b || true) ≡ true) [ true ↦ refl | false ↦ refl ]

may_by : (code : Code) (p : ℕ) (mark : Bool) (cause : Cause) → (mark ≡ true) ↔ Reached code p → HasCause code p cause → may_change (slice_get code.places p) mark ≡ true
may_by code p mark ToNext m h = branch_may code p mark h.i h.mention h.stands h.branch
may_by code p mark (ToEnd label) m h = branch_may code p mark h.i (Some h.mention) h.stands h.branch
may_by code p mark Idle m h = idle_may code p mark m h

-- a change has its cause only where one may
pub caused_may : (code : Code) (p : ℕ) (mark : Bool) → (mark ≡ true) ↔ Reached code p → IsCaused code p → may_change (slice_get code.places p) mark ≡ true
caused_may code p mark m h = may_by code p mark h.cause m h.is

get_before : (xs : List Bool) (b : Bool) (p : ℕ) → p < length xs → slice_get (xs ++ b ∷ []) p ≡ slice_get xs p
get_before [] b p h = absurd (omega arith)
get_before (x ∷ xs) b zero h = refl
get_before (x ∷ xs) b (suc p) h = get_before xs b p (omega arith)

get_last : (xs : List Bool) (b : Bool) (p : ℕ) → p ≡ length xs → slice_get (xs ++ b ∷ []) p ≡ Some b
get_last [] b zero h = refl
get_last [] b (suc p) h = absurd (omega arith)
get_last (x ∷ xs) b zero h = absurd (omega arith)
get_last (x ∷ xs) b (suc p) h = get_last xs b p (omega arith)

-- one more place is due where a change has its cause there
pub one_more_due : (code : Code) (xs new : List Bool) (n : ℕ) (b : Bool) → length xs ≡ n → new ≡ xs ++ b ∷ [] → ((p : ℕ) → p < n → IsCaused code p → slice_get xs p ≡ Some true) → (IsCaused code n → b ≡ true)
    → (p : ℕ) → p < n + 1 → IsCaused code p → slice_get new p ≡ Some true
one_more_due code xs new n b many e h here p l c = elim (cases_lt p n) [
  | inl less ↦ (ap (λ (ys : List Bool). slice_get ys p) e ∙ get_before xs b p (omega arith) ∙ h p less c)
  | inr more ↦ (
      let same : p ≡ n = omega arith in
      let now : IsCaused code n = subst (IsCaused code) same c in
      ap (λ (ys : List Bool). slice_get ys p) e ∙ get_last xs b p (omega arith) ∙ ap Some (here now))
]
