-- Registers in order of first appearance are pairwise different.
use Rattle.std.proofs.Common.{◌≡◌, ℕ, ◌==◌, ◌||◌, Bool, true, false, List, [], ◌∷◌, ◌++◌, cond, refl, sym, ◌∙◌, eq-eqb}
use Rattle.std.proofs.lemmas.Bool.{true≢false, ne_eqb, or_parts}
use Rattle.std.proofs.lemmas.List.Folds.{list_any-append}
use Rattle.rule_table.specs.Canonical.{has, with_first, firsts}

abbrev pub AreDistinct : List ℕ → Type 0
AreDistinct [] = Unit {0}
AreDistinct (x ∷ xs) = (has xs x ≡ false) × AreDistinct xs

pub has_append : (xs ys : List ℕ) (x : ℕ) → has (xs ++ ys) x ≡ (has xs x || has ys x)
has_append xs ys x = list_any-append (λ y. y == x) xs ys

distinct_push : (xs : List ℕ) (r : ℕ) → has xs r ≡ false → AreDistinct xs → AreDistinct (xs ++ r ∷ [])
distinct_push [] r h d = (refl, tt)
distinct_push (x ∷ xs) r h d =
    let parts = or_parts (x == r) (has xs r) h in
    let other : (r == x) ≡ false = ne_eqb r x (λ e. true≢false (sym (eq-eqb x r (sym e)) ∙ parts.0)) in
    let new : (has xs x || (r == x || false)) ≡ false = rw (d.0, other) refl in
    (has_append xs (r ∷ []) x ∙ new, distinct_push xs r parts.1 d.1)

distinct_first : (seen : List ℕ) (r : ℕ) → AreDistinct seen → AreDistinct (with_first seen r)
distinct_first seen r d = by (has seen r) refl
  where
    by : (b : Bool) → has seen r ≡ b → AreDistinct (cond b seen (seen ++ r ∷ []))
    by true h = d
    by false h = distinct_push seen r h d

pub firsts_distinct : (seen rs : List ℕ) → AreDistinct seen → AreDistinct (firsts seen rs)
unfolding firsts
firsts_distinct seen [] d = d
firsts_distinct seen (r ∷ rs) d = firsts_distinct (with_first seen r) rs (distinct_first seen r d)
