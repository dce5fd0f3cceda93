-- The loop invariant of a program's rows: one more row for one more place.
use Rattle.std.proofs.Common.{◌≡◌, inl, inr, ℕ, zero, suc, ◌+◌, ◌<◌, List, [], ◌∷◌, ◌++◌, Option, Some, None, length, take, sym, subst, arith, if◌then◌else◌}
use Rattle.std.specs.Prelude.{slice_get}
use Rattle.std.proofs.lemmas.Bool.{cases_lt, cases_Bool}
use Rattle.std.proofs.lemmas.Option.{slice_get_past, same_Some}
use Rattle.thumb_model.specs.Listing.{Code, Place, call_count, is_call}
use Rattle.thumb_model.specs.Naming.{Naming}
use Rattle.thumb_model.proofs.Lists.{get_back}
use Rattle.thumb_machine.specs.declared.program.PlaceContents.{PlaceContents}
use Rattle.thumb_machine.specs.Running.{IsPlaceContents}
use Rattle.common_lemmas.proofs.Lists.{get_front}

pub call_next : (xs : List Place) (p : ℕ) (x : Place) → slice_get xs p ≡ Some x → call_count (take (suc p) xs) ≡ call_count (take p xs) + (if is_call x then 1 else 0)
call_next [] p x h = absurd (cc)
call_next (y ∷ ys) zero x h = rw (same_Some y x h) (elim (cases_Bool (is_call x)) [ inl e ↦ rw e (omega arith) | inr e ↦ rw e (omega arith) ])
call_next (y ∷ ys) (suc p) x h =
    let e : call_count (take (suc p) ys) ≡ call_count (take p ys) + (if is_call x then 1 else 0) = call_next ys p x h in
    elim (cases_Bool (is_call y)) [ inl t ↦ rw t (omega (arith, e)) | inr t ↦ rw t e ]

-- what holds of each row so far holds with one row more
pub row_next : (names : Naming) (code : Code) (rows : List PlaceContents) (r : PlaceContents) (n : ℕ) → length rows ≡ n → ((p : ℕ) → p < n → IsPlaceContents names code p (slice_get code.places p) (slice_get rows p)) → IsPlaceContents names code n (slice_get code.places n) (Some r)
    → (p : ℕ) → p < n + 1 → IsPlaceContents names code p (slice_get code.places p) (slice_get (rows ++ r ∷ []) p)
row_next names code rows r n len before here p h = elim (cases_lt p n) [
  | inl l ↦ subst (λ (o : Option PlaceContents). IsPlaceContents names code p (slice_get code.places p) o) (sym (get_front rows (r ∷ []) p (omega (arith, len)))) (before p l)
  | inr l ↦
      let e : p ≡ n = omega arith in
      let at_end : slice_get (rows ++ r ∷ []) n ≡ Some r = get_back rows (r ∷ []) 0 n (omega (arith, len)) in
      rw (e, at_end) here
]

-- there is no row past the last place
pub row_past : (names : Naming) (code : Code) (rows : List PlaceContents) (n : ℕ) → length rows ≡ n → length code.places ≡ n → ((p : ℕ) → p < n → IsPlaceContents names code p (slice_get code.places p) (slice_get rows p))
    → (p : ℕ) → IsPlaceContents names code p (slice_get code.places p) (slice_get rows p)
row_past names code rows n len places before p = elim (cases_lt p n) [
  | inl l ↦ before p l
  | inr l ↦
      let a : slice_get code.places p ≡ None = slice_get_past code.places p (omega (arith, places)) in
      let b : slice_get rows p ≡ None = slice_get_past rows p (omega (arith, len)) in
      rw (a, b) tt
]
