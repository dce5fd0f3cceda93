-- What a list of texts by name holds after a text is replaced or appended.
use Rattle.std.proofs.Common.{◌≡◌, ◌∙◌, inl, inr, ℕ, suc, ◌<◌, ◌≤◌, ◌+◌, Bool, true, false, List, [], ◌∷◌, ◌++◌, length, get_or, Option, Some, None, option_map, refl, sym, ap, subst, arith, cond, ltb-true, ltb-false, le-ltb}
use Rattle.std.proofs.Math.ListN.{set}
use Rattle.std.proofs.lemmas.List.Folds.{find-set, find_past, find-append}
use Rattle.std.proofs.lemmas.List.Quantifiers.{position-Some}
use Rattle.std.specs.Prelude.{find, nat_lt, string_bytes}
use Rattle.std.specs.List.{position, position_or_len}
use Rattle.std.specs.Option.{option_or}
use Rattle.std.specs.Str.{bytes_eq}
use Rattle.outer_store.specs.Entries.{NamedText, is_named, text_in}
use Rattle.std.proofs.lemmas.Bool.{cases_Bool}
use Rattle.common_lemmas.proofs.Lists.{same_bytes}

module _ {X : Type 0} (p : X → Bool) (f : X → List ℕ) where
  -- one more element at the end
  at_end : (xs : List X) (x : X) (hit : Bool) → p x ≡ hit → (hit ≡ true → find p xs ≡ None) → option_map f (find p (xs ++ x ∷ [])) ≡ cond hit (Some (f x)) (option_map f (find p xs))
  at_end xs x true is none = rw (find-append p xs (x ∷ []), none refl, is) refl
  at_end xs x false is none = rw (find-append p xs (x ∷ []), is) (ap (option_map f) (or_none (find p xs))) where
    or_none : (o : Option X) → option_or o None ≡ o
    or_none None = refl
    or_none (Some y) = refl

  -- another element at a place
  at_place : (xs : List X) (i : ℕ) (y d : X) (hit : Bool) → p y ≡ hit → p (get_or xs i d) ≡ hit → (hit ≡ true → i ≡ position_or_len p xs) → i < length xs
      → option_map f (find p (set xs i y)) ≡ cond hit (Some (f y)) (option_map f (find p xs))
  at_place xs i y d true is was first lt = ap (option_map f) (find-set p xs i y (first refl) lt is)
  at_place xs i y d false is was first lt = ap (option_map f) (find_past p xs i y d was is)

module _ {X : Type 0} (p : X → Bool) where
  place_is : (xs : List X) (i : ℕ) → position p xs ≡ Some i → (i ≡ position_or_len p xs) × (i < length xs)
  place_is xs i e = elim (cases_Bool (nat_lt (position_or_len p xs) (length xs))) [
    | inl lt ↦ let some : Some (position_or_len p xs) ≡ Some i = rw lt at e in let same : position_or_len p xs ≡ i = cc in (sym same, rw (← same) (ltb-true _ _ lt))
    | inr no' ↦ absurd (let bad : None ≡ Some i = rw no' at e in cc)
  ]

  past_len : (xs : List X) → nat_lt (position_or_len p xs) (length xs) ≡ false → find p xs ≡ None
  past_len [] e = refl
  past_len (x ∷ xs) e = elim (cases_Bool (p x)) [
    | inl yes' ↦ absurd (let le : suc (length xs) ≤ 0 = ltb-false 0 (suc (length xs)) (rw yes' at e) in omega arith)
    | inr no' ↦ rw no' (past_len xs (le-ltb (position_or_len p xs) (length xs) (let le : suc (length xs) ≤ 1 + position_or_len p xs = ltb-false (1 + position_or_len p xs) (suc (length xs)) (rw no' at e) in omega arith)))
  ]

  not_found : (xs : List X) → position p xs ≡ None → find p xs ≡ None
  not_found xs e = elim (cases_Bool (nat_lt (position_or_len p xs) (length xs))) [
    | inl lt ↦ absurd (let bad : Some (position_or_len p xs) ≡ None = rw lt at e in cc)
    | inr no' ↦ past_len xs no'
  ]

-- a name that isn't there, put at the end
pub pushed : (es : List NamedText) (e : NamedText) (m n : List ℕ) → position (is_named m) es ≡ None → string_bytes e.0 ≡ m
    → text_in (es ++ e ∷ []) n ≡ cond (bytes_eq m n) (Some e.1.items) (text_in es n)
pushed es e m n none same = at_end (is_named n) (λ (x : NamedText). x.1.items) es e (bytes_eq m n) (ap (λ s. bytes_eq s n) same)
    (λ hit. subst (λ (k : List ℕ). find (is_named k) es ≡ None) (same_bytes m n hit) (not_found (is_named m) es none))

-- another text at a name that is there
pub written : (es : List NamedText) (i : ℕ) (y d : NamedText) (m n : List ℕ) → position (is_named m) es ≡ Some i → d ≡ get_or es i d → y.0 ≡ d.0
    → text_in (set es i y) n ≡ cond (bytes_eq m n) (Some y.1.items) (text_in es n)
written es i y d m n found is same =
    let at = position-Some (is_named m) es i d found in
    let named : string_bytes d.0 ≡ m = same_bytes (string_bytes d.0) m (ap (is_named m) is ∙ at.1) in
    let place = place_is (is_named m) es i found in
    at_place (is_named n) (λ (x : NamedText). x.1.items) es i y d (bytes_eq m n)
    (ap (λ s. bytes_eq s n) (ap (λ s. string_bytes s) same ∙ named)) (ap (λ (x : NamedText). bytes_eq (string_bytes x.0) n) (sym is) ∙ ap (λ s. bytes_eq s n) named)
    (λ hit. subst (λ (k : List ℕ). i ≡ position_or_len (is_named k) es) (same_bytes m n hit) place.0) place.1
