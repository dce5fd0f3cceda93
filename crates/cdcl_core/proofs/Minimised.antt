-- Which literals minimising keeps: cases of none, one, and two halves.
use Rattle.std.proofs.Common.{◌≡◌, ℕ, ◌≤◌, ◌⊎◌, List, [], ◌++◌, length, get_or, take, append-nil, append_assoc, refl, sym, ◌∙◌, ap, inl, inr, arith, Option, subst}
use Rattle.std.specs.Prelude.{All, Contains}
use Rattle.std.proofs.lemmas.List.{take_at, get_or_default}
use Rattle.std.proofs.lemmas.List.Elements.{All-nil, All-contains, All-weaker, All-append, All-contains_itself, Contains-append_left, Contains-append_right}
use Rattle.clause_model.specs.Clauses.{IsFalse, AllFalse, IsFreed}
use Rattle.clause_arena.specs.Contents.{Content}
use Rattle.cdcl_core.specs.Implied.{Level, BeginsAtRoot, IsSettled, IsRefutable}
use Rattle.cdcl_core.specs.Assumed.{CanFalsify}
use Rattle.cdcl_core.specs.Minimal.{AreNeeded}
use Rattle.cdcl_core.proofs.Lists.{All-left, All-right}

-- each of xs is one of ys
abbrev pub Within : List ℕ → List ℕ → Type 0
Within xs ys = All (Contains ys) xs

pub within_left : (xs ys : List ℕ) → Within xs (xs ++ ys)
within_left xs ys = All-weaker (Contains xs) (Contains (xs ++ ys)) (λ l p. Contains-append_left xs ys l p) xs (All-contains_itself xs)

pub within_right : (xs ys : List ℕ) → Within ys (xs ++ ys)
within_right xs ys = All-weaker (Contains ys) (Contains (xs ++ ys)) (λ l p. Contains-append_right xs ys l p) ys (All-contains_itself ys)

pub within_trans : (xs ys zs : List ℕ) → Within xs ys → Within ys zs → Within xs zs
within_trans xs ys zs h k = All-weaker (Contains ys) (Contains zs) (λ l p. All-contains (Contains zs) ys l k p) xs h

module _ (clauses : List (List ℕ)) (size : ℕ) (base : List ℕ) (xs ys : List ℕ) (w : Within ys xs) where
  pub Freed-within : (l : ℕ) → IsFreed clauses xs l → IsFreed clauses ys l
  Freed-within l f = (
    f.0,
    record {
      consistent = f.1.consistent;
      others = All-weaker (Contains xs) (λ m. (m ≡ l) ⊎ IsFalse f.0 m) (λ m p. All-contains (λ m. (m ≡ l) ⊎ IsFalse f.0 m) xs m f.1.others p) ys w;
      closed = f.1.closed;
    },
  )

  pub CanFalsify-within : CanFalsify size base xs → CanFalsify size base ys
  CanFalsify-within h = record {
    under = h.under;
    consistent = h.consistent;
    bounded = h.bounded;
    contains = h.contains;
    falsifies = All-weaker (Contains xs) (IsFalse h.under) (λ m p. All-contains (IsFalse h.under) xs m h.falsifies p) ys w;
  }

  pub Refutable-within : IsRefutable clauses ys → IsRefutable clauses xs
  Refutable-within r a h o f = r a h o (All-weaker (Contains xs) (IsFalse a) (λ m p. All-contains (IsFalse a) xs m f p) ys w)

-- where nothing follows from the contraries of all others, a single literal is needed
pub single_needed : (clauses : List (List ℕ)) (others literals part a : List ℕ) → length literals ≤ 1 → part ≡ literals → IsRefutable clauses (others ++ literals) → IsSettled clauses a → AllFalse a others → AreNeeded clauses others part
single_needed clauses others literals part a b e r s f = rw e record {
  refutable = r;
  freed = λ k d i.
      let l : ℕ = get_or literals k d in
      let P : ℕ → Type 0 = λ m. (m ≡ l) ⊎ IsFalse a m in (
        a,
        record {
          consistent = s.consistent;
          others = All-append P others literals (All-weaker (IsFalse a) P (λ m p. inr p) others f) (λ n c j.
              let same : n ≡ k = omega arith in
              inl (ap (λ (x : ℕ). get_or literals x c) same ∙ get_or_default literals k c d i));
          closed = s.closed;
        },
      );
}

-- where the others alone are refutable, no literal is needed
pub none_needed : (clauses : List (List ℕ)) (others part : List ℕ) → part ≡ [] → IsRefutable clauses others → AreNeeded clauses others part
none_needed clauses others part e r = rw e record {
  refutable = subst (IsRefutable clauses) (sym (append-nil others)) r;
  freed = All-nil (IsFreed clauses (others ++ []));
}

-- the first half is tried with the second false, then the second with the kept part of the first false
module _ (clauses : List (List ℕ)) (others first second : List ℕ) (r : IsRefutable clauses (others ++ (first ++ second))) where
  pub first_refutable : IsRefutable clauses ((others ++ second) ++ first)
  first_refutable =
      let whole : List ℕ = (others ++ second) ++ first in
      let front : Within (others ++ second) whole = within_left (others ++ second) first in
      Refutable-within clauses 0 [] whole (others ++ (first ++ second)) (All-append (Contains whole) others (first ++ second) (All-left (Contains whole) others second front)
      (All-append (Contains whole) first second (within_right (others ++ second) first) (All-right (Contains whole) others second front))) r

  module _ (part : List ℕ) (h : AreNeeded clauses (others ++ second) part) where
    pub second_refutable : IsRefutable clauses ((others ++ part) ++ second)
    second_refutable =
        let whole : List ℕ = (others ++ part) ++ second in
        let front : Within (others ++ part) whole = within_left (others ++ part) second in
        Refutable-within clauses 0 [] whole ((others ++ second) ++ part) (All-append (Contains whole) (others ++ second) part
        (All-append (Contains whole) others second (All-left (Contains whole) others part front) (within_right (others ++ part) second)) (All-right (Contains whole) others part front)) h.refutable

    pub halves_needed : (rest : List ℕ) → Within rest second → AreNeeded clauses (others ++ part) rest → AreNeeded clauses others (part ++ rest)
    halves_needed rest w k =
        let whole : List ℕ = others ++ (part ++ rest) in
        let all : List ℕ = (others ++ second) ++ part in
        let front : Within (others ++ second) all = within_left (others ++ second) part in
        let there : Within whole all =
        All-append (Contains all) others (part ++ rest) (All-left (Contains all) others second front)
        (All-append (Contains all) part rest (within_right (others ++ second) part) (within_trans rest second all w (All-right (Contains all) others second front))) in
        let here : Within whole ((others ++ part) ++ rest) = subst (λ (xs : List ℕ). Within whole xs) (sym (append_assoc others part rest)) (All-contains_itself whole) in
        record {
          refutable = subst (IsRefutable clauses) (append_assoc others part rest) k.refutable;
          freed = All-append (IsFreed clauses whole) part rest
              (All-weaker (IsFreed clauses all) (IsFreed clauses whole) (Freed-within clauses 0 [] all whole there) part h.freed)
              (All-weaker (IsFreed clauses ((others ++ part) ++ rest)) (IsFreed clauses whole) (Freed-within clauses 0 [] ((others ++ part) ++ rest) whole here) rest k.freed);
        }

-- a clause that begins with what was kept from the first
module _ (clauses : List (List ℕ)) (first literals part kept : List ℕ) (e : kept ≡ first ++ part) (w : Within part literals) (h : AreNeeded clauses first part) where
  pub kept_refutable : IsRefutable clauses kept
  kept_refutable = rw e h.refutable

  pub kept_freed : All (λ l. Contains first l ⊎ IsFreed clauses kept l) kept
  kept_freed = rw e (All-append (λ l. Contains first l ⊎ IsFreed clauses (first ++ part) l) first part
      (All-weaker (Contains first) (λ l. Contains first l ⊎ IsFreed clauses (first ++ part) l) (λ l p. inl p) first (All-contains_itself first))
      (All-weaker (IsFreed clauses (first ++ part)) (λ l. Contains first l ⊎ IsFreed clauses (first ++ part) l) (λ l p. inr p) part h.freed))

  pub kept_within : Within kept (first ++ literals)
  kept_within = rw e (All-append (Contains (first ++ literals)) first part (within_left first literals) (within_trans part literals (first ++ literals) w (within_right first literals)))

  pub kept_begins : take (length first) kept ≡ first
  kept_begins = rw e (take_at first part (length first) refl)

-- what the next trial requires, stated for the present arena and trail
pub falsifiable_here : (level : Level) (content : Content) (reasons : List (Option ℕ)) (trail literals : List ℕ) → BeginsAtRoot level content reasons trail → CanFalsify level.size level.base literals → CanFalsify (length content.chains) (take level.low trail) literals
falsifiable_here level content reasons trail literals g h = rw (g.size, g.base) h
