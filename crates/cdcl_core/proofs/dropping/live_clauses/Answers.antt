use Rattle.std.proofs.Common.{◌≡◌, ℕ, ◌<◌, ◌≤◌, length, subst, sym, arith}
use Rattle.std.specs.Prelude.{AllPairs}
use Rattle.cdcl_core.specs.Dropped.{Remains}
use Rattle.cdcl_core.proofs.Sparing.{remains_without, remains_with}
use Rattle.cdcl_core.proofs.dropping.live_clauses.Goals as goal

pub loop-place-preserved-then-is_dropped : goal.loop-place-preserved-then-is_dropped
loop-place-preserved-then-is_dropped c =
    let b : c.loop-place.place < length c.args.refs.now = c.loop-place-test.true in
    remains_without c.args.arena.now c.args.refs.now c.args.ids.now c.loop-place.place c.loop-place.kept.items c.loop-place.names.items c.loop-place.invariant c.index-refs-place.result b c.index-refs-place.is (sym c.if-is_dropped.ensures)

pub loop-place-preserved : goal.loop-place-preserved
loop-place-preserved c =
    let b : c.loop-place.place < length c.args.refs.now = c.loop-place-test.true in
    let up : AllPairs (λ r s. r < s) c.args.refs.now = subst (AllPairs (λ r s. r < s)) (sym c.requires.refs) c.literals-whole.ensures.whole.apart in
    remains_with c.args.arena.now c.args.refs.now c.args.ids.now c.loop-place.place c.loop-place.kept.items c.loop-place.names.items c.loop-place.invariant c.index-refs-place.result b c.index-refs-place.is
    (sym c.if-is_dropped.ensures) up c.index-ids-place.result (omega (arith, b, c.requires.ids)) c.index-ids-place.is c.push.new.self.items c.push-in-loop-place.new.self.items c.in_ok-push.ensures.items c.in_ok-push-2.ensures.items

pub returns : goal.returns
returns c =
    let u : c.loop-place.place ≤ length c.args.refs.now = c.loop-place.auto.place-end in
    let e : c.loop-place.place ≡ length c.args.refs.now = omega (arith, c.loop-place-test.false) in
    subst (λ (n : ℕ). Remains c.args.arena.now c.args.refs.now c.args.ids.now n c.loop-place.kept.items c.loop-place.names.items) e c.loop-place.invariant
