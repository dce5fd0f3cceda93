use Rattle.std.proofs.Common.{◌≡◌, ◌<◌, ◌-◌, ◌+◌, ℕ, ℤ, List, [], ◌∷◌, ◌++◌, map, length, get_or, refl, sym, ◌∙◌, ap, subst, Option, Some, None, arith}
use Rattle.std.specs.Prelude.{All, Contains, pos}
use Rattle.std.proofs.lemmas.List.Elements.{All-nil, All-contains}
use Rattle.clause_model.specs.Clauses.{negated, HasDistinctVariables}
use Rattle.clause_model.proofs.Scans.{never}
use Rattle.clause_arena.specs.Contents.{literals_of}
use Rattle.cdcl_core.specs.Analysed.{Sees}
use Rattle.cdcl_core.proofs.Lists.{reason_of}
use Rattle.cdcl_core.proofs.Conflicts.{sees_clause, read_at}
use Rattle.cdcl_core.proofs.Hints.{Certified, Certified-begun, Certified-skip, Certified-given, Certified-next, Certified-ends, Noted, named_at, insert_front, negations_distinct, negations_bounded}
use Rattle.cdcl_core.proofs.solver.Solver.derive.Goals as goal

noted_at : (live : ℕ → Option (List ℕ)) (trail givens : List ℕ) (at at' : ℕ) (seen : List ℕ) (hints : List ℤ) (numbers : List ℕ) → at' ≡ at → hints ≡ map pos numbers → Certified live trail givens at seen numbers → Noted live trail givens at' seen hints
noted_at live trail givens at at' seen hints numbers e f r = record { numbers = numbers; same = f; certified = subst (λ (x : ℕ). Certified live trail givens x seen numbers) (sym e) r }

one_hint : (old new : List ℤ) (hint : ℤ) (k : ℕ) → new ≡ old ++ hint ∷ [] → old ≡ [] → hint ≡ pos k → new ≡ map pos (k ∷ [])
one_hint old new hint k e f g = e ∙ (ap (λ (xs : List ℤ). xs ++ hint ∷ []) f ∙ ap (λ (z : ℤ). z ∷ []) g)

more_hints : (old new : List ℤ) (numbers : List ℕ) (hint : ℤ) (k : ℕ) → new ≡ hint ∷ old → old ≡ map pos numbers → hint ≡ pos k → new ≡ map pos (k ∷ numbers)
more_hints old new numbers hint k e f g = e ∙ (ap (λ (xs : List ℤ). hint ∷ xs) f ∙ ap (λ (z : ℤ). z ∷ map pos numbers) g)

pub see-requires : goal.see-requires
see-requires c = subst (All (Contains c.args.self.now.trail)) (sym c.truncate.ensures) (All-nil (Contains c.args.self.now.trail))

pub loop-at-init : goal.loop-at-init
loop-at-init c =
    let s : Sees c.args.self.now.trail (literals_of c.args.self.now.arena c.args.conflict) [] c.see.new.seen = sees_clause c.args.self.now.trail (literals_of c.args.self.now.arena c.args.conflict) c.lits.result.now c.truncate.new.self c.see.new.seen c.truncate.ensures c.lits.ensures c.in_ok-see.ensures in
    let n : ℕ = get_or c.args.self.now.ids.items c.hint_of.ensures.0 0 in
    record {
      within = omega (arith, c.len-at.ensures.value);
      part = s.part;
      noted = λ live a. noted_at live c.args.self.now.trail c.args.givens.now (length c.args.self.now.trail) c.len-at.result c.see.new.seen c.push.new.self.items (n ∷ []) c.len-at.ensures.value
          (one_hint c.new-hints.result.items c.push.new.self.items c.hint_of.result n c.in_ok-push.ensures.items c.new-hints.ensures.items c.hint_of.ensures.2)
          (Certified-begun live c.args.self.now.arena c.args.self.now.reasons.items c.args.self.now.trail c.args.givens.now c.args.conflict c.requires.reasons c.literals-trues.ensures.consistent c.literals-trues.ensures.distinct c.see.new.seen n s
          (named_at live c.args.self.now.arena c.literals-whole.ensures.whole c.args.self.now.refs.items c.args.self.now.ids.items c.hint_of.ensures.0 c.args.conflict a c.requires.refs c.hint_of.ensures.1));
    }

pub loop-at-preserved-then-not-is_true : goal.loop-at-preserved-then-not-is_true
loop-at-preserved-then-not-is_true c =
    let n : ℕ = c.loop-at.at - 1 in
    let e : n + 1 ≡ c.loop-at.at = omega arith in
    let b : n < length c.args.self.now.trail = omega (arith, c.loop-at.invariant.within) in
    let u : c.index-trues-at.result ≡ get_or c.args.self.now.trail n 0 = read_at c.literals-trues.result.now c.args.self.now.trail n c.index-trues-at.result b c.literals-trues.ensures.value c.index-trues-at.is in
    record {
      within = omega arith;
      part = c.loop-at.invariant.part;
      noted = λ live a.
          let w = c.loop-at.invariant.noted live a in
          record {
            numbers = w.numbers;
            same = w.same;
            certified = Certified-skip live c.args.self.now.arena c.args.self.now.reasons.items c.args.self.now.trail c.args.givens.now c.args.conflict c.requires.reasons c.literals-trues.ensures.consistent c.literals-trues.ensures.distinct c.loop-at.at n c.loop-at.seen w.numbers e w.certified (λ p. never c.if-not-is_true.ensures.1 (subst (Contains c.loop-at.seen) (sym u) p));
          };
    }

pub loop-at-preserved : goal.loop-at-preserved
loop-at-preserved c =
    let n : ℕ = c.loop-at.at - 1 in
    let e : n + 1 ≡ c.loop-at.at = omega arith in
    let b : n < length c.args.self.now.trail = omega (arith, c.loop-at.invariant.within) in
    let d : n < length c.args.self.now.reasons.items = omega (arith, c.requires.reasons.aligned) in
    record {
      within = omega arith;
      part = c.loop-at.invariant.part;
      noted = λ live a.
          let w = c.loop-at.invariant.noted live a in
          record {
            numbers = w.numbers;
            same = w.same;
            certified = Certified-given live c.args.self.now.arena c.args.self.now.reasons.items c.args.self.now.trail c.args.givens.now c.args.conflict c.requires.reasons c.literals-trues.ensures.consistent c.literals-trues.ensures.distinct c.loop-at.at n c.loop-at.seen w.numbers e w.certified (reason_of c.args.self.now.reasons.items n c.index-reason.result.now None d c.index-reason.ensures c.in-None.is);
          };
    }

pub lits-requires-in-Some : goal.lits-requires-in-Some
lits-requires-in-Some c =
    let n : ℕ = c.loop-at.at - 1 in
    let e : n + 1 ≡ c.loop-at.at = omega arith in
    let b : n < length c.args.self.now.trail = omega (arith, c.loop-at.invariant.within) in
    let d : n < length c.args.self.now.reasons.items = omega (arith, c.requires.reasons.aligned) in
    (c.requires.reasons.because n c.in-Some.number (reason_of c.args.self.now.reasons.items n c.index-reason.result.now (Some c.in-Some.number) d c.index-reason.ensures c.in-Some.is)).clause

pub see-requires-in-Some : goal.see-requires-in-Some
see-requires-in-Some c = c.loop-at.invariant.part

pub hint_of-requires-in-Some-clause-within : goal.hint_of-requires-in-Some-clause-within
hint_of-requires-in-Some-clause-within c =
    let n : ℕ = c.loop-at.at - 1 in
    let e : n + 1 ≡ c.loop-at.at = omega arith in
    let b : n < length c.args.self.now.trail = omega (arith, c.loop-at.invariant.within) in
    let d : n < length c.args.self.now.reasons.items = omega (arith, c.requires.reasons.aligned) in
    subst (λ (xs : List ℕ). Contains xs c.in-Some.number) (sym c.requires.refs) (c.requires.reasons.because n c.in-Some.number (reason_of c.args.self.now.reasons.items n c.index-reason.result.now (Some c.in-Some.number) d c.index-reason.ensures c.in-Some.is)).clause

pub loop-at-preserved-in-Continue-branch-5 : goal.loop-at-preserved-in-Continue-branch-5
loop-at-preserved-in-Continue-branch-5 c =
    let n : ℕ = c.loop-at.at - 1 in
    let e : n + 1 ≡ c.loop-at.at = omega arith in
    let b : n < length c.args.self.now.trail = omega (arith, c.loop-at.invariant.within) in
    let d : n < length c.args.self.now.reasons.items = omega (arith, c.requires.reasons.aligned) in
    let u : c.index-trues-at.result ≡ get_or c.args.self.now.trail n 0 = read_at c.literals-trues.result.now c.args.self.now.trail n c.index-trues-at.result b c.literals-trues.ensures.value c.index-trues-at.is in
    let h = c.hint_of-in-Some.ensures in
    let m : ℕ = get_or c.args.self.now.ids.items h.0 0 in
    let s : Sees c.args.self.now.trail (literals_of c.args.self.now.arena c.in-Some.number) c.loop-at.seen c.see-in-Some.new.seen = subst (λ (xs : List ℕ). Sees c.args.self.now.trail xs c.loop-at.seen c.see-in-Some.new.seen) c.lits-in-Some.ensures c.in_ok-see-in-Some.ensures in
    record {
      within = omega arith;
      part = s.part;
      noted = λ live a.
          let w = c.loop-at.invariant.noted live a in
          record {
            numbers = m ∷ w.numbers;
            same = more_hints c.loop-at.hints.items c.insert.new.self.items w.numbers c.hint_of-in-Some.result m (c.in_ok-insert-in-Some.ensures.items ∙ insert_front c.hint_of-in-Some.result c.loop-at.hints.items) w.same h.2;
            certified = Certified-next live c.args.self.now.arena c.args.self.now.reasons.items c.args.self.now.trail c.args.givens.now c.args.conflict c.requires.reasons c.literals-trues.ensures.consistent c.literals-trues.ensures.distinct c.loop-at.at n c.loop-at.seen w.numbers e w.certified c.in-Some.number m c.see-in-Some.new.seen (reason_of c.args.self.now.reasons.items n c.index-reason.result.now (Some c.in-Some.number) d c.index-reason.ensures c.in-Some.is)
                (named_at live c.args.self.now.arena c.literals-whole.ensures.whole c.args.self.now.refs.items c.args.self.now.ids.items h.0 c.in-Some.number a c.requires.refs h.1)
                (subst (Contains c.loop-at.seen) u (c.if-not-is_true.ensures.0 refl))
                s;
          };
    }

pub invariant_of-result : goal.invariant_of-result
invariant_of-result c = record {
  within = subst (All (λ l. l < 400000)) (sym c.in_ok-literals.ensures) (negations_bounded c.args.givens.now c.requires.bounded);
  distinct = subst HasDistinctVariables (sym c.in_ok-literals.ensures) (negations_distinct c.args.givens.now (λ l p q. c.literals-trues.ensures.consistent l (All-contains (Contains c.args.self.now.trail) c.args.givens.now l c.requires.reasons.part p) (All-contains (Contains c.args.self.now.trail) c.args.givens.now (negated l) c.requires.reasons.part q)) c.requires.distinct);
}

pub returns-clause-hints : goal.returns-clause-hints
returns-clause-hints c = λ live a.
    let w = c.loop-at.invariant.noted live a in
    (w.numbers, w.same, Certified-ends live c.args.self.now.arena c.args.self.now.reasons.items c.args.self.now.trail c.args.givens.now c.args.conflict c.requires.reasons c.literals-trues.ensures.consistent c.literals-trues.ensures.distinct c.loop-at.at c.loop-at.seen w.numbers c.loop-at-test.false w.certified)
