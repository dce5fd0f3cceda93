-- The learnt clause is asserting once it has been minimised.
use Rattle.std.proofs.Common.{◌≡◌, ℕ, ◌<◌, ◌⊎◌, List, [], ◌∷◌, ◌++◌, length, get_or, take, refl, sym, ◌∙◌, ap, inl, inr, arith, Option, subst}
use Rattle.std.specs.Prelude.{All, Contains}
use Rattle.std.proofs.lemmas.List.{length-take, get_or-take}
use Rattle.std.proofs.lemmas.List.Elements.{All-cons, All-contains, All-weaker, All-contains_itself, Contains-get_or}
use Rattle.clause_model.specs.Clauses.{negated, IsFalse, IsConsistent, Frees, IsFreed, IsAsserting}
use Rattle.clause_model.proofs.Scans.{Contains-take}
use Rattle.clause_arena.specs.Contents.{Content, HasLiteral}
use Rattle.cdcl_core.specs.Implied.{clauses_of, Level, level_of, BeginsAtRoot, IsRefutable}
use Rattle.cdcl_core.specs.Assumed.{CanFalsify}
use Rattle.cdcl_core.specs.Analysed.{AtConflict, LearnsFrom}
use Rattle.cdcl_core.proofs.Minimised.{Within, CanFalsify-within, Freed-within}

-- a clause with the same literals in another order
pub same_asserting : (clauses : List (List ℕ)) (xs ys : List ℕ) → Within ys xs → Within xs ys → IsAsserting clauses xs → IsAsserting clauses ys
same_asserting clauses xs ys w v s = (
  All-weaker (Contains xs) (IsFreed clauses ys) (λ m p. Freed-within clauses 0 [] xs ys w m (All-contains (IsFreed clauses xs) xs m s.0 p)) ys w,
  (
    s.1.0,
    s.1.1,
    All-contains (Contains ys) xs s.1.0 v s.1.2,
    record {
      consistent = s.1.3.consistent;
      others = All-weaker (Contains xs) (λ m. (m ≡ s.1.0) ⊎ IsFalse s.1.1 m) (λ m p. All-contains (λ x. (x ≡ s.1.0) ⊎ IsFalse s.1.1 x) xs m s.1.3.others p) ys w;
      closed = s.1.3.closed;
    },
    s.1.4,
  ),
)

module _ (content : Content) (reasons : List (Option ℕ)) (trail : List ℕ) (low start conflict : ℕ) (g : BeginsAtRoot (level_of content trail low) content reasons trail) (h : AtConflict content reasons trail low start conflict) (consistent : IsConsistent trail)
    (u : ℕ) (others : List ℕ) (l : LearnsFrom (clauses_of content) trail low start u others) (first : List ℕ) (e : first ≡ [] ++ u ∷ []) where
  abbrev clauses : List (List ℕ)
  clauses = clauses_of content

  pub whole_falsifiable : CanFalsify (length content.chains) (take low trail) (first ++ others)
  whole_falsifiable = rw e record {
    under = trail;
    consistent = consistent;
    bounded = g.literals;
    contains = All-weaker (Contains (take low trail)) (Contains trail) (λ x p. Contains-take x low trail p) (take low trail) (All-contains_itself (take low trail));
    falsifies = All-cons (IsFalse trail) u others l.falsified (All-weaker (IsFalse (take start trail)) (IsFalse trail) (λ m p. Contains-take (negated m) start trail p) others l.lower);
  }

  pub whole_refutable : IsRefutable clauses (first ++ others)
  whole_refutable = rw e l.refutable

  module _ (kept : List ℕ) (w : Within kept (first ++ others)) (f : All (λ m. Contains first m ⊎ IsFreed clauses kept m) kept) (b : take (length first) kept ≡ first) where
    pub kept_falsifiable : CanFalsify (length content.chains) (take low trail) kept
    kept_falsifiable = CanFalsify-within clauses (length content.chains) (take low trail) (first ++ others) kept w whole_falsifiable

    pub kept_fresh : All (λ m. IsFalse (take low trail) m → ⊥) kept
    kept_fresh = All-weaker (Contains (first ++ others)) (λ m. IsFalse (take low trail) m → ⊥) (λ m p. All-contains (λ x. IsFalse (take low trail) x → ⊥) (u ∷ others) m l.fresh (subst (λ (xs : List ℕ). Contains (xs ++ others) m) e p)) kept w

    lower : All (λ m. (m ≡ u) ⊎ IsFalse (take start trail) m) kept
    lower = let P : ℕ → Type 0 = λ m. (m ≡ u) ⊎ IsFalse (take start trail) m in
        let all : All P (u ∷ others) = All-cons P u others (inl refl) (All-weaker (IsFalse (take start trail)) P (λ m p. inr p) others l.lower) in
        All-weaker (Contains (first ++ others)) P (λ m p. All-contains P (u ∷ others) m all (subst (λ (xs : List ℕ). Contains (xs ++ others) m) e p)) kept w

    prefix_frees : Frees clauses kept u (take start trail)
    prefix_frees = record {
      consistent = λ x p q. consistent x (Contains-take x start trail p) (Contains-take (negated x) start trail q);
      others = lower;
      closed = h.closed;
    }

    first_is : get_or kept 0 0 ≡ u
    first_is =
        let k : length first ≡ 1 = ap length e in
        let x : take 1 kept ≡ u ∷ [] = subst (λ (n : ℕ). take n kept ≡ u ∷ []) k (b ∙ e) in
        let z : 0 < 1 = omega arith in
        sym (get_or-take 1 kept 0 0 z) ∙ ap (λ (xs : List ℕ). get_or xs 0 0) x

    one : 0 < length kept
    one = let k : length first ≡ 1 = ap length e in omega (arith, ap length b, length-take {A = ℕ})

    member : Contains kept u
    member = subst (Contains kept) first_is (let z : 0 < length kept = one in Contains-get_or kept 0 0 z)

    only_first : (m : ℕ) → Contains first m → m ≡ u
    only_first m p = let q : Contains (u ∷ []) m = subst (λ (xs : List ℕ). Contains xs m) e p in go q
      where
        go : Contains (u ∷ []) m → m ≡ u
        go q = let k : q.0 ≡ 0 = omega arith in sym q.2 ∙ ap (λ (i : ℕ). get_or (u ∷ []) i m) k

    pub learnt_asserting : IsAsserting clauses kept
    learnt_asserting = (
      All-weaker (λ m. Contains first m ⊎ IsFreed clauses kept m) (IsFreed clauses kept)
          (λ m s. elim s [ inl p ↦ subst (IsFreed clauses kept) (sym (only_first m p)) (take start trail, prefix_frees) | inr z ↦ z ]) kept f,
      (u, take start trail, member, prefix_frees, l.unset),
    )

-- literals known to the arena after certifying were known before
pub known_there : (level : Level) (content content' : Content) (reasons : List (Option ℕ)) (trail literals : List ℕ) → BeginsAtRoot level content' reasons trail → length content.chains ≡ level.size → All (HasLiteral content') literals → All (HasLiteral content) literals
known_there level content content' reasons trail literals g e h = All-weaker (HasLiteral content') (HasLiteral content) (λ l b. omega (arith, b, e, g.size)) literals h
