use Rattle.std.proofs.Common.{◌≤◌, ◌+◌, length, refl, inl, inr, map, arith}
use Rattle.std.specs.Prelude.{unsigned_abs}
use Rattle.std.proofs.lemmas.List.{length-map}
use Rattle.clause_model.proofs.Runs.{Continues-dead, Continues-open, Continues-conflict, Continues-unit, hint_lengths-step}
use Rattle.lrat_check.proofs.Views.{hint_within, hint_names}
use Rattle.lrat_check.proofs.Looked.{Looked-all, Looked-dead, Looked-ends, Looked-unit}
use Rattle.lrat_check.proofs.Sufficing.{GoesOn-conflict, GoesOn-unit, Spends-unit, Spends-looked, Spends-all, end_from_Suffice}
use Rattle.clause_model.specs.Clauses.{dead, unfit}
use Rattle.lrat_check.proofs.propagation.refute.Goals as goal

pub returns-in-None-clause-err : goal.returns-in-None-clause-err
returns-in-None-clause-err g c =
    let b = c.loop-hint-test.true in
    let is = c.hint-item.is in
    let e = c.id.ensures in
    inr (dead (c.loop-hint.place + 1), rw c.loop-hint.invariant.0 (Continues-dead _ _ _ _ _ (hint_within _ _ _ _ b is e) c.loop-hint.invariant.1 (hint_names _ _ _ _ b is e (g.C.Clauses.at c.args.live.now) _ c.in-None.ensures)), refl)

pub returns-in-Conflict-clause-ok : goal.returns-in-Conflict-clause-ok
returns-in-Conflict-clause-ok g c =
    let b = c.loop-hint-test.true in
    let is = c.hint-item.is in
    let e = c.id.ensures in
    Continues-conflict _ _ _ _ _ (hint_within _ _ _ _ b is e) c.loop-hint.invariant.1 _ (hint_names _ _ _ _ b is e (g.C.Clauses.at c.args.live.now) _ c.in-Some.ensures) c.in-Conflict.ensures.standing

pub returns-in-Open-clause-err : goal.returns-in-Open-clause-err
returns-in-Open-clause-err g c =
    let b = c.loop-hint-test.true in
    let is = c.hint-item.is in
    let e = c.id.ensures in
    inr (unfit (c.loop-hint.place + 1), rw c.loop-hint.invariant.0 (Continues-open _ _ _ _ _ (hint_within _ _ _ _ b is e) c.loop-hint.invariant.1 _ (hint_names _ _ _ _ b is e (g.C.Clauses.at c.args.live.now) _ c.in-Some.ensures) c.in-Open.ensures.standing), refl)

pub returns-in-Conflict-clause-used : goal.returns-in-Conflict-clause-used
returns-in-Conflict-clause-used g c =
    let b = c.loop-hint-test.true in
    let is = c.hint-item.is in
    let e = c.id.ensures in
    rw c.loop-hint.invariant.0 (GoesOn-conflict _ _ _ _ _ (hint_within _ _ _ _ b is e) c.loop-hint.invariant.4 _ (hint_names _ _ _ _ b is e (g.C.Clauses.at c.args.live.now) _ c.in-Some.ensures) c.in-Conflict.ensures.standing)

pub loop-hint-preserved : goal.loop-hint-preserved
loop-hint-preserved g c =
    let b = c.loop-hint-test.true in
    let is = c.hint-item.is in
    let e = c.id.ensures in
    let some = hint_names _ _ _ _ b is e (g.C.Clauses.at c.args.live.now) _ c.in-Some.ensures in
    let step = hint_lengths-step (g.C.Clauses.at c.args.live.now) (map unsigned_abs c.args.hints.now) c.loop-hint.hint-index c.in-Some.clause.now (hint_within _ _ _ _ b is e) some in (
      rw c.loop-hint.invariant.0 refl,
      rw c.in_ok-set-in-Unit.ensures.ok (Continues-unit _ _ _ _ _ (hint_within _ _ _ _ b is e) c.loop-hint.invariant.1 _ _ some c.in-Unit.ensures.standing),
      omega (arith, c.counted_standing_of.ensures.cost.1, c.loop-hint.invariant.2, step),
      rw c.in_ok-set-in-Unit.ensures.ok (Looked-unit _ _ _ _ _ _ _ (hint_within _ _ _ _ b is e) c.loop-hint.invariant.3 _ some _ c.counted_standing_of.ensures.cost _ c.in-Unit.ensures.standing),
      rw c.in_ok-set-in-Unit.ensures.ok (GoesOn-unit _ _ _ _ _ (hint_within _ _ _ _ b is e) c.loop-hint.invariant.4 _ some _ c.in-Unit.ensures.standing),
      λ later part. rw c.in_ok-set-in-Unit.ensures.ok (Spends-unit _ _ _ _ _ _ _ (hint_within _ _ _ _ b is e) (c.loop-hint.invariant.5 later part) _ (part _ _ some) _ c.counted_standing_of.ensures.cost.1 _ c.in-Unit.ensures.standing),
    )

pub returns-in-Conflict-clause-cost : goal.returns-in-Conflict-clause-cost
returns-in-Conflict-clause-cost g c =
    let b = c.loop-hint-test.true in
    let is = c.hint-item.is in
    let e = c.id.ensures in
    let step = hint_lengths-step (g.C.Clauses.at c.args.live.now) (map unsigned_abs c.args.hints.now) c.loop-hint.hint-index c.in-Some.clause.now (hint_within _ _ _ _ b is e) (hint_names _ _ _ _ b is e (g.C.Clauses.at c.args.live.now) _ c.in-Some.ensures) in
    omega (arith, c.counted_standing_of.ensures.cost.1, c.loop-hint.invariant.2, step)

pub returns-in_err-set-in-Unit-clause-cost : goal.returns-in_err-set-in-Unit-clause-cost
returns-in_err-set-in-Unit-clause-cost g c =
    let b = c.loop-hint-test.true in
    let is = c.hint-item.is in
    let e = c.id.ensures in
    let step = hint_lengths-step (g.C.Clauses.at c.args.live.now) (map unsigned_abs c.args.hints.now) c.loop-hint.hint-index c.in-Some.clause.now (hint_within _ _ _ _ b is e) (hint_names _ _ _ _ b is e (g.C.Clauses.at c.args.live.now) _ c.in-Some.ensures) in
    omega (arith, c.counted_standing_of.ensures.cost.1, c.loop-hint.invariant.2, step)

pub returns-in-Open-clause-cost : goal.returns-in-Open-clause-cost
returns-in-Open-clause-cost g c =
    let b = c.loop-hint-test.true in
    let is = c.hint-item.is in
    let e = c.id.ensures in
    let step = hint_lengths-step (g.C.Clauses.at c.args.live.now) (map unsigned_abs c.args.hints.now) c.loop-hint.hint-index c.in-Some.clause.now (hint_within _ _ _ _ b is e) (hint_names _ _ _ _ b is e (g.C.Clauses.at c.args.live.now) _ c.in-Some.ensures) in
    omega (arith, c.counted_standing_of.ensures.cost.1, c.loop-hint.invariant.2, step)

pub returns-in-None-clause-fault_count : goal.returns-in-None-clause-fault_count
returns-in-None-clause-fault_count g c =
    let b = c.loop-hint-test.true in
    let is = c.hint-item.is in
    let e = c.id.ensures in
    inr (Looked-dead _ _ _ _ _ _ _ (hint_within _ _ _ _ b is e) c.loop-hint.invariant.3 (hint_names _ _ _ _ b is e (g.C.Clauses.at c.args.live.now) _ c.in-None.ensures))

pub returns-in-Conflict-clause-count : goal.returns-in-Conflict-clause-count
returns-in-Conflict-clause-count g c =
    let b = c.loop-hint-test.true in
    let is = c.hint-item.is in
    let e = c.id.ensures in
    Looked-ends _ _ _ _ _ _ _ (hint_within _ _ _ _ b is e) c.loop-hint.invariant.3 _ (hint_names _ _ _ _ b is e (g.C.Clauses.at c.args.live.now) _ c.in-Some.ensures) _ c.counted_standing_of.ensures.cost (inl c.in-Conflict.ensures.standing)

pub returns-in-Open-clause-fault_count : goal.returns-in-Open-clause-fault_count
returns-in-Open-clause-fault_count g c =
    let b = c.loop-hint-test.true in
    let is = c.hint-item.is in
    let e = c.id.ensures in
    inr (Looked-ends _ _ _ _ _ _ _ (hint_within _ _ _ _ b is e) c.loop-hint.invariant.3 _ (hint_names _ _ _ _ b is e (g.C.Clauses.at c.args.live.now) _ c.in-Some.ensures) _ c.counted_standing_of.ensures.cost (inr c.in-Open.ensures.standing))

pub returns-clause-fault_count : goal.returns-clause-fault_count
returns-clause-fault_count g c =
    let end : length (map unsigned_abs c.args.hints.now) ≤ c.loop-hint.hint-index = rw (length-map c.args.hints.now unsigned_abs) c.loop-hint-test.false in
    inr (Looked-all _ _ _ _ c.loop-hint.hint-index _ _ end c.loop-hint.invariant.3)

pub returns-in-Conflict-clause-fewest : goal.returns-in-Conflict-clause-fewest
returns-in-Conflict-clause-fewest g c = λ later n part s.
    let b = c.loop-hint-test.true in
    let is = c.hint-item.is in
    let e = c.id.ensures in
    let some = hint_names _ _ _ _ b is e (g.C.Clauses.at c.args.live.now) _ c.in-Some.ensures in
    Spends-looked _ _ _ _ _ _ _ (hint_within _ _ _ _ b is e) (c.loop-hint.invariant.5 later part) _ (part _ _ some) _ c.counted_standing_of.ensures.cost.1 n (end_from_Suffice _ _ _ n s)

pub returns-in-Open-clause-fewest : goal.returns-in-Open-clause-fewest
returns-in-Open-clause-fewest g c = λ later n part s.
    let b = c.loop-hint-test.true in
    let is = c.hint-item.is in
    let e = c.id.ensures in
    let some = hint_names _ _ _ _ b is e (g.C.Clauses.at c.args.live.now) _ c.in-Some.ensures in
    Spends-looked _ _ _ _ _ _ _ (hint_within _ _ _ _ b is e) (c.loop-hint.invariant.5 later part) _ (part _ _ some) _ c.counted_standing_of.ensures.cost.1 n (end_from_Suffice _ _ _ n s)

pub returns-in_err-set-in-Unit-clause-fewest : goal.returns-in_err-set-in-Unit-clause-fewest
returns-in_err-set-in-Unit-clause-fewest g c = λ later n part s.
    let b = c.loop-hint-test.true in
    let is = c.hint-item.is in
    let e = c.id.ensures in
    let some = hint_names _ _ _ _ b is e (g.C.Clauses.at c.args.live.now) _ c.in-Some.ensures in
    Spends-looked _ _ _ _ _ _ _ (hint_within _ _ _ _ b is e) (c.loop-hint.invariant.5 later part) _ (part _ _ some) _ c.counted_standing_of.ensures.cost.1 n (end_from_Suffice _ _ _ n s)

pub returns-in-None-clause-fewest : goal.returns-in-None-clause-fewest
returns-in-None-clause-fewest g c = λ later n part s. Spends-all _ _ _ _ _ _ _ (c.loop-hint.invariant.5 later part) n (end_from_Suffice _ _ _ n s)

pub returns-clause-fewest : goal.returns-clause-fewest
returns-clause-fewest g c = λ later n part s. Spends-all _ _ _ _ _ _ _ (c.loop-hint.invariant.5 later part) n (end_from_Suffice _ _ _ n s)
