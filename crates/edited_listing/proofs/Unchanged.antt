-- A listing of which nothing is changed.
use Rattle.std.proofs.Common.{◌≡◌, ℕ, zero, suc, ◌+◌, ◌<◌, ◌≤◌, ◌==◌, true, List, [], ◌∷◌, ◌++◌, length, length-append, drop, replicate, Some, refl, sym, ap, ◌∙◌, inl, inr, arith, true≢false}
use Rattle.std.specs.Prelude.{slice_get, Option, is_some}
use Rattle.std.proofs.lemmas.Bool.{cases_Bool, eq-eqb}
use Rattle.thumb_instr.specs.declared.instr.Instr.{Instr}
use Rattle.thumb_model.specs.Listing.{ListingLine, Place, places_in, places_of}
use Rattle.thumb_model.specs.Replaced.{is_op}
use Rattle.thumb_model.proofs.Lists.{present_at}
use Rattle.edited_listing.specs.declared.standing.Standing.TheVariants as standing
use Rattle.edited_listing.specs.Items.{Item, items_from, AreSorted}
use Rattle.edited_listing.specs.Emitting.{line_at, lines_from}
use Rattle.edited_listing.specs.Giving.{is_word}
use Rattle.edited_listing.specs.Places.{AreHome}
use Rattle.edited_listing.specs.Edited.{IsEdited, unchanged}
use Rattle.edited_listing.proofs.Emitted.{op_takes}

drop_given : (k p n m : ℕ) → n ≡ k + m → drop k (items_from p (replicate n standing.Given)) ≡ items_from (p + k) (replicate m standing.Given)
drop_given zero p n m e = ap (λ j. items_from p (replicate j standing.Given)) (let z : n ≡ m = omega arith in z) ∙ ap (λ j. items_from j (replicate m standing.Given)) (let z : p ≡ p + 0 = omega arith in z)
drop_given (suc k) p zero m e = absurd (omega arith)
drop_given (suc k) p (suc n) m e = drop_given k (suc p) n m (omega arith) ∙ ap (λ j. items_from j (replicate m standing.Given)) (let z : suc p + k ≡ p + suc k = omega arith in z)

given_line : (write : Instr → List ℕ) (p n m : ℕ) (l : ListingLine) (behind : List Item → List ListingLine) → n ≡ suc m → line_at write p l (items_from p (replicate n standing.Given)) behind ≡ l ∷ behind (items_from (suc p) (replicate m standing.Given))
given_line write p zero m l behind e = absurd (omega arith)
given_line write p (suc n) m l behind e = let here : (p == p) ≡ true = eq-eqb p p refl in rw here (ap (λ j. l ∷ behind (items_from (suc p) (replicate j standing.Given))) (let z : n ≡ m = omega arith in z))

pub lines_unchanged : (write : Instr → List ℕ) (ls : List ListingLine) (p : ℕ) → lines_from write p (items_from p (replicate (length (places_of ls)) standing.Given)) ls ≡ ls
lines_unchanged write [] p = refl
lines_unchanged write (l ∷ ls) p =
    let all = length-append (places_in l.statement) (places_of ls) in
    elim (cases_Bool (is_op l.statement)) [
      | inl h ↦
          let one = op_takes l.statement h in
          rw h (given_line write p (length (places_in l.statement ++ places_of ls)) (length (places_of ls)) l (λ ys. lines_from write (suc p) ys ls) (omega arith) ∙ ap (λ xs. l ∷ xs) (lines_unchanged write ls (suc p)))
      | inr h ↦
          let k : ℕ = length (places_in l.statement) in
          rw h (ap (λ ys. l ∷ lines_from write (p + k) ys ls) (drop_given k p (length (places_in l.statement ++ places_of ls)) (length (places_of ls)) all) ∙ ap (λ xs. l ∷ xs) (lines_unchanged write ls (p + k)))
    ]

sorted_given : (n p q : ℕ) → q ≤ p → AreSorted q q (items_from p (replicate n standing.Given))
sorted_given zero p q h = tt
sorted_given (suc n) p q h = (h, sorted_given n (suc p) (suc p) (omega arith))

home_given : (at : ℕ → Option Place) (n p : ℕ) → ((k : ℕ) → k < n → is_some (at (p + k)) ≡ true) → AreHome at (items_from p (replicate n standing.Given))
home_given at zero p h = tt
home_given at (suc n) p h = (ap (λ j. is_some (at j)) (let z : p ≡ p + 0 = omega arith in z) ∙ h 0 (omega arith), home_given at n (suc p) (λ k l. ap (λ j. is_some (at j)) (let z : suc p + k ≡ p + suc k = omega arith in z) ∙ h (suc k) (omega arith)))

given_at : (n p : ℕ) → p < n → slice_get (replicate n standing.Given) p ≡ Some standing.Given
given_at zero p h = absurd (omega arith)
given_at (suc n) zero h = refl
given_at (suc n) (suc p) h = given_at n p (omega arith)

word_within : (ps : List Place) (k : ℕ) → is_word (slice_get ps k) ≡ true → k < length ps
word_within [] k e = absurd (true≢false (sym e))
word_within (x ∷ ps) zero e = omega arith
word_within (x ∷ ps) (suc k) e = let h = word_within ps k e in omega arith

pub length_given : (n : ℕ) → length (replicate n standing.Given) ≡ n
length_given zero = refl
length_given (suc n) = ap suc (length_given n)

pub unchanged_edited : (ls : List ListingLine) → IsEdited (unchanged ls)
unchanged_edited ls = record {
  as_many = length_given (length (places_of ls));
  sorted = sorted_given (length (places_of ls)) 0 0 (omega arith);
  home = home_given (slice_get (places_of ls)) (length (places_of ls)) 0 (λ k h. let at = present_at (places_of ls) k h in ap (λ j. is_some (slice_get (places_of ls) j)) (let z : 0 + k ≡ k = omega arith in z) ∙ ap is_some at.1);
  words = λ p w. given_at (length (places_of ls)) p (word_within (places_of ls) p w);
}
