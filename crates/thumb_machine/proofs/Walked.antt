-- A test of all code points line by line is that of the model's list, which has all labels before all return points.
use Rattle.std.proofs.Common.{◌≡◌, ◌∙◌, ℕ, ◌+◌, ◌&&◌, ◌≤◌, Bool, true, false, List, [], ◌∷◌, ◌++◌, inl, inr, length, map, refl, sym, ap, ap₂, arith, if◌then◌else◌}
use Rattle.std.specs.List.{list_all}
use Rattle.std.proofs.lemmas.Bool.{cases_Bool}
use Rattle.std.proofs.lemmas.List.Folds.{list_all-append}
use Rattle.thumb_model.specs.Listing.{Value, Word, Statement, Nothing, Instruction, Words, Aligns, Sets, ListingLine, Place, call_count, code_of, is_call, labels_at, labels_from, places_in, places_of}
use Rattle.thumb_model.specs.Naming.{ends_in_call, Naming, points, points_of, returns_from}
use Rattle.thumb_model.proofs.Moved.{returns_append}
use Rattle.thumb_model.proofs.Returns.{statement_calls}
use Rattle.thumb_machine.specs.Walking.{all_pass, points_from}
use Rattle.thumb_machine.proofs.PointsMade.{points_append}
use Rattle.common_lemmas.proofs.Booleans.{and_assoc}

-- four tests with the middle two exchanged
crossed : (a b c d : Bool) → ((a && b) && (c && d)) ≡ (a && (c && (b && d)))
crossed false b c d = refl
crossed true true c d = refl
crossed true false true d = refl
crossed true false false d = refl

-- the return point of one statement
pub return_of : (names : Naming) (k p : ℕ) (s : Statement) (b : Bool) → ends_in_call s ≡ b → returns_from names k p (places_in s) ≡ (if b then (names.return_word k, p + 1) ∷ [] else [])
return_of names k p (Instruction i mention) b e = rw e refl
return_of names k p (Words vs) b e = none p vs ∙ ap (λ c. if c then (names.return_word k, p + 1) ∷ [] else []) e where
  none : (p : ℕ) (vs : List Value) → returns_from names k p (map Word vs) ≡ []
  none p [] = refl
  none p (v ∷ vs) = none (p + 1) vs
return_of names k p Nothing b e = ap (λ c. if c then (names.return_word k, p + 1) ∷ [] else []) e
return_of names k p (Aligns size most) b e = ap (λ c. if c then (names.return_word k, p + 1) ∷ [] else []) e
return_of names k p (Sets name address) b e = ap (λ c. if c then (names.return_word k, p + 1) ∷ [] else []) e

pub calls_of : (s : Statement) (b : Bool) → ends_in_call s ≡ b → call_count (places_in s) ≡ (if b then 1 else 0)
calls_of s b e = statement_calls s ∙ ap (λ c. if c then 1 else 0) e

-- there are no more calls than places
pub calls_few : (xs : List Place) → call_count xs ≤ length xs
calls_few [] = omega arith
calls_few (x ∷ xs) = let few = calls_few xs in elim (cases_Bool (is_call x)) [ inl e ↦ rw e (omega arith) | inr e ↦ rw e (omega arith) ]

module _ (f : ℕ × ℕ → Bool) (names : Naming) where
  walked_from : (places : List Place) (k p : ℕ) (ls : List ListingLine)
      → (list_all f (points_of names places (labels_from p ls)) && list_all f (returns_from names k p (places_of ls))) ≡ list_all f (points_from names places k p ls)
  walked_from places k p [] = refl
  walked_from places k p (l ∷ ls) =
      let q = p + length (places_in l.statement) in
      let m = k + call_count (places_in l.statement) in
      let labels = points_of names places (labels_at p l.names) in
      let returns = returns_from names k p (places_in l.statement) in
      let rest = points_from names places m q ls in
      ap₂ (λ a b. a && b)
      (ap (list_all f) (points_append names places (labels_at p l.names) (labels_from q ls)) ∙ list_all-append f labels (points_of names places (labels_from q ls)))
      (ap (list_all f) (returns_append names k p m q (places_in l.statement) (places_of ls) refl refl) ∙ list_all-append f returns (returns_from names m q (places_of ls)))
      ∙ crossed (list_all f labels) (list_all f (points_of names places (labels_from q ls))) (list_all f returns) (list_all f (returns_from names m q (places_of ls)))
      ∙ ap (λ b. list_all f labels && (list_all f returns && b)) (walked_from places m q ls)
      ∙ sym (list_all-append f (labels ++ returns) rest ∙ ap (λ b. b && list_all f rest) (list_all-append f labels returns) ∙ and_assoc (list_all f labels) (list_all f returns) (list_all f rest))

  pub walked : (lines : List ListingLine) → list_all f (points names (code_of lines)) ≡ list_all f (points_from names (places_of lines) 0 0 lines)
  walked lines = list_all-append f (points_of names (places_of lines) (labels_from 0 lines)) (returns_from names 0 0 (places_of lines)) ∙ walked_from (places_of lines) 0 0 lines

-- a test whose state never changes tests each code point alone
pub steady : {T : Type 0} (passes : T → ℕ → ℕ → Bool) (t : T) (xs : List (ℕ × ℕ)) → all_pass passes (λ t w p. t) t xs ≡ list_all (λ x. passes t x.0 x.1) xs
steady passes t [] = refl
steady passes t (x ∷ xs) = ap (λ b. passes t x.0 x.1 && b) (steady passes t xs)
