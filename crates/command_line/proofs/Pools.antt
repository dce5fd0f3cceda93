-- Reading the text of a pool: what is accepted is a pool, and each pool is accepted.
use Rattle.std.proofs.Common.{Bor, ◌≡◌, ◌∙◌, ◌↔◌, ◌⊎◌, inl, inr, ◌≤◌, ◌<◌, ℕ, zero, suc, true, false, List, [], ◌∷◌, length, map, Option, Some, None, refl, sym, ap, arith, subst, if◌then◌else◌, option_map, get_or, IsTrue, true≢false}
use Rattle.std.specs.Prelude.{All, IfSome, IsSome, option_and_then}
use Rattle.std.specs.List.{list_all}
use Rattle.std.proofs.lemmas.List.Elements.{All-cons, All-head, All-tail}
use Rattle.seq_enum.specs.Alphabet.{ascends_from, is_pool, inside}
use Rattle.seq_enum.proofs.Bounds.{bounds}
use Rattle.ascii_scan.specs.Numeral.{decimal}
use Rattle.command_line.specs.Words.{Text}
use Rattle.command_line.specs.CommandLine.{all_given, between_commas, pool_of}
use Rattle.std.proofs.lemmas.Bool.{and_parts, cases_Bool}
use Rattle.rule_table.proofs.ListTexts.{inside_most as small}

-- ---- bytes ----

stops : (ns : List ℕ) (i : ℕ) (d : Option ℕ) → All (λ n. n ≤ 255) ns → i < length (map (λ n. Some n) ns) → get_or (map (λ n. Some n) ns) i d ≡ d → ((n : ℕ) → n ≤ 255 → d ≡ Some n → ⊥) → ⊥
stops [] i d all lt e none = absurd (omega arith)
stops (n ∷ ns) zero d all lt e none = none n (All-head (λ m. m ≤ 255) n ns all) (sym e)
stops (n ∷ ns) (suc i) d all lt e none = stops ns i d (All-tail (λ m. m ≤ 255) n ns all) (omega arith) e none

-- a part that is no byte ends the reading
pub no_byte : (ns : List ℕ) (ds : List (Option ℕ)) (i : ℕ) (d : Option ℕ) → i < length ds → get_or ds i d ≡ d → ((n : ℕ) → n ≤ 255 → d ≡ Some n → ⊥)
    → All (λ n. n ≤ 255) ns → map (λ n. Some n) ns ≡ ds → ⊥
no_byte ns ds i d lt here none all e =
    stops ns i d all (subst (λ (es : List (Option ℕ)). i < length es) (sym e) lt) (ap (λ (es : List (Option ℕ)). get_or es i d) e ∙ here) none

all_small : (ns : List ℕ) → list_all (inside 0 256) ns ≡ true → All (λ n. n ≤ 255) ns
all_small [] e = λ k d lt. absurd (omega arith)
all_small (n ∷ ns) e =
    let parts = and_parts (inside 0 256 n) (list_all (inside 0 256) ns) e in
    All-cons (λ m. m ≤ 255) n ns (small n parts.0) (all_small ns parts.1)

-- ---- values that are all there ----

pub all_some : {A : Type 0} (xs : List A) → all_given (map (λ x. Some x) xs) ≡ Some xs
all_some [] = refl
all_some (x ∷ xs) = ap (option_map (λ (k : List _). x ∷ k)) (all_some xs)

onto : {A : Type 0} (x : A) (o : Option (List A)) (xs : List A) → option_map (λ (k : List A). x ∷ k) o ≡ Some xs → (k : List A) × (o ≡ Some k) × (x ∷ k ≡ xs)
onto x None xs e = absurd (let bad : None ≡ Some xs = e in cc)
onto x (Some k) xs e = (k, refl, let is : Some (x ∷ k) ≡ Some xs = e in cc)

some_all : {A : Type 0} (os : List (Option A)) (xs : List A) → all_given os ≡ Some xs → map (λ x. Some x) xs ≡ os
some_all [] xs e = let is : [] ≡ xs = cc in ap (map (λ x. Some x)) (sym is)
some_all (None ∷ os) xs e = absurd (let bad : None ≡ Some xs = e in cc)
some_all (Some x ∷ os) xs e = let f = onto x (all_given os) xs e in ap (map (λ y. Some y)) (sym f.2) ∙ ap (λ (k : List (Option _)). Some x ∷ k) (some_all os f.0 f.1)

-- ---- pools ----

-- the pool of some numbers, where they are one
pub made : (r : Option (List ℕ)) (ns : List ℕ) → (IsSome r ↔ IsTrue (is_pool ns)) → IfSome r (λ p. p ≡ ns) → option_map (λ p. p) r ≡ (if is_pool ns then Some ns else None)
made None ns valid value = go (cases_Bool (is_pool ns)) where
  go : (is_pool ns ≡ true) ⊎ (is_pool ns ≡ false) → None ≡ (if is_pool ns then Some ns else None)
  go (inl is) = absurd (true≢false (sym (valid.1 is)))
  go (inr other) = rw other refl
made (Some p) ns valid value = rw (valid.0 refl) (ap (λ (k : List ℕ). Some k) value)

pub default_made : (r : Option (List ℕ)) → (IsSome r ↔ IsTrue (is_pool (0 ∷ 1 ∷ 2 ∷ 4 ∷ 8 ∷ 16 ∷ 24 ∷ 31 ∷ 255 ∷ []))) → IfSome r (λ p. p ≡ 0 ∷ 1 ∷ 2 ∷ 4 ∷ 8 ∷ 16 ∷ 24 ∷ 31 ∷ 255 ∷ [])
    → (o : Option Text) → o ≡ None → option_map (λ p. p) r ≡ pool_of o
unfolding is_pool ascends_from
default_made r valid value o e = made r (0 ∷ 1 ∷ 2 ∷ 4 ∷ 8 ∷ 16 ∷ 24 ∷ 31 ∷ 255 ∷ []) valid value ∙ ap pool_of (sym e)

-- the numerals of a text's parts
cut : (v : Text) (bs : List (Bor Text)) → map (λ w. w.now) bs ≡ between_commas v → map (λ w. decimal w.now) bs ≡ map decimal (between_commas v)
cut v bs e = sym (fused bs) ∙ ap (map decimal) e where
  fused : (cs : List (Bor Text)) → map decimal (map (λ w. w.now) cs) ≡ map (λ w. decimal w.now) cs
  fused [] = refl
  fused (c ∷ cs) = ap (λ (k : List (Option ℕ)). decimal c.now ∷ k) (fused cs)

-- the pool of a text's numbers
pub text_made : (v : Text) (bs : List (Bor Text)) (ns : List ℕ) (r : Option (List ℕ)) → map (λ w. w.now) bs ≡ between_commas v → map (λ n. Some n) ns ≡ map (λ w. decimal w.now) bs
    → option_map (λ p. p) r ≡ (if is_pool ns then Some ns else None) → (o : Option Text) → o ≡ Some v → option_map (λ p. p) r ≡ pool_of o
text_made v bs ns r parts read is o e =
    is ∙ sym (ap (option_and_then (λ ms. if is_pool ms then Some ms else None)) (ap all_given (sym (read ∙ cut v bs parts)) ∙ all_some ns)) ∙ ap pool_of (sym e)

-- a text whose parts aren't the numbers of a pool
pub text_lost : (v : Text) (bs : List (Bor Text)) → map (λ w. w.now) bs ≡ between_commas v
    → ((ns : List ℕ) → length ns ≤ 16 → All (λ n. n ≤ 255) ns → map (λ n. Some n) ns ≡ map (λ w. decimal w.now) bs → ⊥) → (o : Option Text) → o ≡ Some v → None ≡ pool_of o
text_lost v bs parts none o is = go (all_given (map decimal (between_commas v))) refl ∙ ap pool_of (sym is) where
  no_pool : (ns : List ℕ) → all_given (map decimal (between_commas v)) ≡ Some ns → is_pool ns ≡ false
  no_pool ns e = elim (cases_Bool (is_pool ns)) [
    | inr other ↦ other
    | inl is ↦ let b = bounds ns is in absurd (none ns b.few (all_small ns b.bytes) (some_all (map decimal (between_commas v)) ns e ∙ sym (cut v bs parts)))
  ]

  go : (p : Option (List ℕ)) → all_given (map decimal (between_commas v)) ≡ p → None ≡ pool_of (Some v)
  go None e = rw e refl
  go (Some ns) e = rw (e, no_pool ns e) refl
