-- What the held clauses show holds of all clauses, since the dropped ones are true before any decision.
use Rattle.std.proofs.Common.{◌≡◌, ℕ, ◌+◌, ◌-◌, ◌<◌, ◌⊎◌, List, [], ◌∷◌, ◌++◌, length, get_or, length-append, refl, sym, ◌∙◌, ap, inl, inr, arith, Option, Some, subst, pos, nat_eq, true, false, Bool, None}
use Rattle.std.specs.Prelude.{All, Any, Contains, slice_get, map, cond}
use Rattle.std.proofs.lemmas.Bool.{cases_eq, cases_lt}
use Rattle.std.proofs.lemmas.Bool.Decides.{nat_tests}
use Rattle.std.proofs.lemmas.List.{get_or_push, get_or_append_left}
use Rattle.std.proofs.lemmas.Option.{slice_get_within, slice_get-get_or, get_or_from_slice_get}
use Rattle.std.proofs.lemmas.List.Elements.{All-nil, All-push, All-contains, All-weaker, Contains-push, Contains-append_left}
use Rattle.clause_model.specs.Clauses.{IsConsistent, IsOpen, IsClosed, Frees, IsFreed, IsAsserting, numbered}
use Rattle.lrat_check.specs.declared.line.Addition.{Addition}
use Rattle.cdcl_core.specs.Held.{AreNumbered, Covers}
use Rattle.cdcl_core.specs.Solved.{TidyPropagation, Adds}
use Rattle.cdcl_core.specs.Searched.{IsModelOf}

any_within : (a b clause : List ℕ) → All (Contains b) a → Any (Contains a) clause → Any (Contains b) clause
any_within a b clause w t = (t.0, t.1, t.2, t.3, All-contains (Contains b) a t.1 w t.4)

-- where each held clause is open and what is true before any decision is true, each clause is open
module _ (clauses held : List (List ℕ)) (ids base : List ℕ) (c : Covers clauses held ids base) where
  pub all_closed : (a : List ℕ) → All (Contains a) base → IsClosed held a → IsClosed clauses a
  all_closed a w o = All-weaker (λ clause. Contains held clause ⊎ Any (Contains base) clause) (IsOpen a) (λ clause k. elim k [
    | inl h ↦ All-contains (IsOpen a) held clause o h
    | inr t ↦ inl (any_within base a clause w t)
  ]) clauses c.kept

  pub all_true : (a : List ℕ) → All (Contains a) base → IsModelOf held a → IsModelOf clauses a
  all_true a w m = record {
    consistent = m.consistent;
    holds = All-weaker (λ clause. Contains held clause ⊎ Any (Contains base) clause) (λ clause. Any (Contains a) clause) (λ clause k. elim k [
      | inl h ↦ All-contains (λ x. Any (Contains a) x) held clause m.holds h
      | inr t ↦ any_within base a clause w t
    ]) clauses c.kept;
  }

  -- what closed assignments of the held clauses show of a clause, they show over all clauses
  module _ (forced : (a : List ℕ) → IsConsistent a → IsClosed held a → All (Contains a) base) (literals : List ℕ) where
    frees : (l : ℕ) (a : List ℕ) → Frees held literals l a → Frees clauses literals l a
    frees l a f = record { consistent = f.consistent; others = f.others; closed = all_closed a (forced a f.consistent f.closed) f.closed }

    pub all_asserting : IsAsserting held literals → IsAsserting clauses literals
    all_asserting s = (
      All-weaker (IsFreed held literals) (IsFreed clauses literals) (λ l f. (f.0, frees l f.0 f.1)) literals s.0,
      (s.1.0, s.1.1, s.1.2, frees s.1.0 s.1.1 s.1.3, s.1.4),
    )

  pub adds_over : (line : Addition) (id : ℕ) → line.id ≡ id → id ≡ length clauses + 1
      → ((live : ℕ → Option (List ℕ)) → AreNumbered live held ids → (hints : List ℕ) × (line.hints.items ≡ map pos hints) × TidyPropagation live line.literals.items hints) → Adds clauses line
  adds_over line id e f w =
      let t : (hints : List ℕ) × (line.hints.items ≡ map pos hints) × TidyPropagation (numbered clauses) line.literals.items hints = w (numbered clauses) c.numbers in
      record { id = e ∙ f; hints = t.0; hints_are = t.1; tidy = t.2 }

  -- more literals may become true before any decision
  pub covers_grown : (a : List ℕ) → All (Contains a) base → Covers clauses held ids a
  covers_grown a w = record {
    aligned = c.aligned;
    numbers = c.numbers;
    kept = All-weaker (λ clause. Contains held clause ⊎ Any (Contains base) clause) (λ clause. Contains held clause ⊎ Any (Contains a) clause) (λ clause k. elim k [
      | inl h ↦ inl h
      | inr t ↦ inr (any_within base a clause w t)
    ]) clauses c.kept;
  }

  -- one more clause gets the next id
  pub covers_more : (a : List ℕ) → All (Contains a) base → (clause : List ℕ) (id : ℕ) → id ≡ length clauses + 1 → Covers (clauses ++ clause ∷ []) (held ++ clause ∷ []) (ids ++ id ∷ []) a
  covers_more a w clause id e = record {
    aligned = omega (arith, length-append ids (id ∷ []), length-append held (clause ∷ []), c.aligned);
    numbers = λ k b. elim (cases_lt k (length held)) [
      | inl m ↦
          let mi : k < length ids = omega (arith, m, c.aligned) in
          rw (get_or_append_left ids (id ∷ []) 0 k mi, get_or_append_left held (clause ∷ []) [] k m) (older clauses clause (get_or ids k 0) (get_or held k []) (c.numbers k m))
      | inr m ↦
          let is : k ≡ length held = omega (arith, m, b, length-append held (clause ∷ [])) in
          let isi : k ≡ length ids = omega (arith, is, c.aligned) in
          rw (get_or_push ids id 0 k (sym isi), get_or_push held clause [] k (sym is), e) (newest clauses clause)
    ];
    kept = All-push (λ x. Contains (held ++ clause ∷ []) x ⊎ Any (Contains a) x) clauses clause
        (All-weaker (λ x. Contains held x ⊎ Any (Contains base) x) (λ x. Contains (held ++ clause ∷ []) x ⊎ Any (Contains a) x) (λ x k. elim k [
          | inl h ↦ inl (Contains-append_left held (clause ∷ []) x h)
          | inr t ↦ inr (any_within base a x w t)
        ]) clauses c.kept)
        (inl (Contains-push held clause));
  }
    where
      older : (cs : List (List ℕ)) (x : List ℕ) (n : ℕ) (y : List ℕ) → numbered cs n ≡ Some y → numbered (cs ++ x ∷ []) n ≡ Some y
      older cs x n y q = elim (cases_eq n 0) [
        | inl e ↦
            let z : nat_eq n 0 ≡ true = grind (arith, nat_tests) in
            let f : None ≡ Some y = subst (λ (b : Bool). cond b None (slice_get cs (n - 1)) ≡ Some y) z q in
            absurd cc
        | inr e ↦
            let z : nat_eq n 0 ≡ false = grind (arith, nat_tests) in
            let f : slice_get cs (n - 1) ≡ Some y = subst (λ (b : Bool). cond b None (slice_get cs (n - 1)) ≡ Some y) z q in
            let b : n - 1 < length cs = slice_get_within cs (n - 1) y f in
            let d : n - 1 < length (cs ++ x ∷ []) = omega (arith, b, length-append cs (x ∷ [])) in
            rw z (slice_get-get_or (cs ++ x ∷ []) (n - 1) [] d ∙ ap (λ (v : List ℕ). Some v) (get_or_append_left cs (x ∷ []) [] (n - 1) b ∙ get_or_from_slice_get cs (n - 1) y [] f))
      ]

      newest : (cs : List (List ℕ)) (x : List ℕ) → numbered (cs ++ x ∷ []) (length cs + 1) ≡ Some x
      newest cs x =
          let z : nat_eq (length cs + 1) 0 ≡ false = grind (arith, nat_tests) in
          let j : length cs + 1 - 1 ≡ length cs = omega arith in
          let d : length cs < length (cs ++ x ∷ []) = omega (arith, length-append cs (x ∷ [])) in
          rw (z, j) (slice_get-get_or (cs ++ x ∷ []) (length cs) [] d ∙ ap (λ (v : List ℕ). Some v) (get_or_push cs x [] (length cs) refl))

-- the case without clauses
pub covers_none : (base : List ℕ) → Covers [] [] [] base
covers_none base = record { aligned = refl; numbers = λ k b. absurd (omega (arith, b)); kept = All-nil (λ clause. Contains [] clause ⊎ Any (Contains base) clause) }
