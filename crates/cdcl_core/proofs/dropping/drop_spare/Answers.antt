use Rattle.std.proofs.Common.{◌≡◌, ◌<◌, ◌≤◌, length, subst, sym, refl, arith}
use Rattle.std.specs.Prelude.{AllPairs, Any, Contains}
use Rattle.clause_model.proofs.Scans.{never}
use Rattle.cdcl_core.specs.Dropped.{AreDropped}
use Rattle.cdcl_core.proofs.Sparing.{dropping_begun, dropping_skip, dropping_more, not_marked, is_marked}
use Rattle.cdcl_core.proofs.dropping.drop_spare.Goals as goal
use Rattle.cdcl_core.proofs.dropping.drop_spare.Goals.{then-is_spare, else-is_spare}

pub loop-place-init : goal.loop-place-init
loop-place-init c = dropping_begun c.args.arena.now c.args.refs.now c.args.reasons.now c.args.trail.now c.requires.base

pub loop-place-preserved : goal.loop-place-preserved
loop-place-preserved c =
    let b : c.loop-place.place < length c.args.refs.now = c.loop-place-test.true in
    let up : AllPairs (λ r s. r < s) c.args.refs.now = subst (AllPairs (λ r s. r < s)) (sym c.requires.base.numbered_by) c.literals-whole.ensures.whole.apart in
    elim c.if-is_spare.branch [
      | then-is_spare w ↦
          let t = w.if-is_spare.ensures.0 refl in
          rw w.arena-is
          (dropping_more c.args.arena.now c.args.refs.now c.args.reasons.now c.args.trail.now c.loop-place.arena c.loop-place.place c.loop-place.invariant c.index-refs-place.result b c.index-refs-place.is
          (not_marked c.args.refs.now c.args.reasons.now up c.loop-place.place c.index-refs-place.result b c.index-refs-place.is c.in_ok-marks.marks.items c.index-is_reason.result.now (omega (arith, b, c.in_ok-marks.ensures.length)) c.index-is_reason.ensures t.0 c.in_ok-marks.ensures.marked, subst (Any (Contains c.args.trail.now)) c.lits.ensures t.1) w.drop_clause.new.self w.drop_clause.ensures)
      | else-is_spare w ↦
          rw w.arena-is
          (dropping_skip c.args.arena.now c.args.refs.now c.args.reasons.now c.args.trail.now c.loop-place.arena c.loop-place.place c.loop-place.invariant c.index-refs-place.result b c.index-refs-place.is (λ s. never w.if-is_spare.ensures.1
          (is_marked c.args.refs.now c.args.reasons.now c.loop-place.place c.index-refs-place.result b c.index-refs-place.is c.in_ok-marks.marks.items c.index-is_reason.result.now (omega (arith, b, c.in_ok-marks.ensures.length)) c.index-is_reason.ensures c.in_ok-marks.ensures.only s.0, subst (Any (Contains c.args.trail.now)) (sym c.lits.ensures) s.1)))
    ]

pub returns-clause-dropped : goal.returns-clause-dropped
returns-clause-dropped c =
    let u : c.loop-place.place ≤ length c.args.refs.now = c.loop-place.auto.place-end in
    let e : c.loop-place.place ≡ length c.args.refs.now = omega (arith, c.loop-place-test.false) in
    subst (AreDropped c.loop-place.arena c.args.refs.now c.args.reasons.now c.args.trail.now) e c.loop-place.invariant.dropped
