-- The code's comparison of states, word by word, is equality with the state that a table lists at a place.
use Rattle.std.proofs.Common.{◌≡◌, ℕ, ◌<◌, ◌≤◌, ◌&&◌, length, get_or, ◌↔◌, Bool, true, IsTrue, List, Some, None, slice_get, map, sym, ◌∙◌, ap, refl, eqb, inl, inr}
use Rattle.std.specs.Option.{option_map}
use Rattle.std.proofs.lemmas.Option.{slice_get-map, slice_get-get_or, slice_get_past, same_Some}
use Rattle.std.proofs.lemmas.Bool.{and_parts, eqb-true, eq-eqb, cases_Bool}
use Rattle.std.specs.Cmp.Lexicographic.{pointwise, same_text, other_text}
use Rattle.window_exec.specs.declared.state.WState.{WState}
use Rattle.window_exec.specs.State.{seen, Seen}

equal : (a b : WState) → (pointwise eqb a.r b.r && eqb a.nzcv b.nzcv) ≡ true → seen a ≡ seen b
equal a b h =
    let parts = and_parts (pointwise eqb a.r b.r) (eqb a.nzcv b.nzcv) h in
    let words : a.r ≡ b.r = same_text a.r b.r (sym parts.0) in
    let flags : a.nzcv ≡ b.nzcv = eqb-true a.nzcv b.nzcv parts.1 in
    cc

same_words : (xs ys : List ℕ) → xs ≡ ys → pointwise eqb xs ys ≡ true
same_words xs ys e = elim (cases_Bool (pointwise eqb xs ys)) [
  | inl h ↦ h
  | inr h ↦ absurd (other_text xs ys (sym h) e)
]

found : (a b : WState) → seen a ≡ seen b → (pointwise eqb a.r b.r && eqb a.nzcv b.nzcv) ≡ true
found a b e =
    let words : pointwise eqb a.r b.r ≡ true = same_words a.r b.r (ap (λ s. s.r) e) in
    let flags : eqb a.nzcv b.nzcv ≡ true = eq-eqb a.nzcv b.nzcv (ap (λ s. s.nzcv) e) in
    rw (words, flags) refl

-- a test of the state at a place tells whether it is the other
pub there : (states : List WState) (place : ℕ) (other state : WState) (r : Bool) → slice_get states place ≡ Some other
    → r ≡ (pointwise eqb other.r state.r && eqb other.nzcv state.nzcv) → IsTrue r ↔ (slice_get (map seen states) place ≡ Some (seen state))
there states place other state r at is =
    let listed : slice_get (map seen states) place ≡ Some (seen other) = slice_get-map seen states place ∙ ap (option_map seen) at in (
      λ h. listed ∙ ap Some (equal other state (sym is ∙ h)),
      λ h. is ∙ found other state (same_Some _ _ (sym listed ∙ h)),
    )

-- a listed state by its place
pub seen_at : (states : List WState) (place : ℕ) (d : WState) → place < length states → slice_get (map seen states) place ≡ Some (seen (get_or states place d))
seen_at states place d low = slice_get-map seen states place ∙ ap (option_map seen) (slice_get-get_or states place d low)

pub seen_past : (states : List WState) (place : ℕ) (s : Seen) → length states ≤ place → slice_get (map seen states) place ≡ Some s → ⊥
seen_past states place s past h =
    let none : slice_get (map seen states) place ≡ None = slice_get-map seen states place ∙ ap (option_map seen) (slice_get_past states place past) in
    let no : None ≡ Some s = sym none ∙ h in
    absurd (cc)
