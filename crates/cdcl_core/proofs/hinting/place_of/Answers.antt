use Rattle.std.proofs.Common.{◌≡◌, ℕ, ◌<◌, ◌+◌, ◌-◌, ◌/◌, length, Some, subst, arith}
use Rattle.std.specs.Prelude.{slice_get}
use Rattle.cdcl_core.proofs.Places.{some_place, not_before, not_after}
use Rattle.cdcl_core.proofs.hinting.place_of.Goals as goal

pub loop-high-init : goal.loop-high-init
loop-high-init c = let w = some_place c.args.refs.now c.args.at c.requires.within in (w.0, omega arith, omega (arith, w.1), omega arith, w.2)

pub returns : goal.returns
returns c =
    let i = c.loop-high.invariant in
    let e : i.0 ≡ c.loop-high.low = omega (arith, i.1, i.2) in
    subst (λ (k : ℕ). slice_get c.args.refs.now k ≡ Some c.args.at) e i.4

pub loop-high-preserved-then-offset : goal.loop-high-preserved-then-offset
loop-high-preserved-then-offset c =
    let i = c.loop-high.invariant in
    let b : c.loop-high.low + (c.loop-high.high - c.loop-high.low) / 2 < length c.args.refs.now = omega (arith, i.1, i.2, i.3, c.loop-high-test.true) in
    (i.0, not_before c.args.refs.now c.requires.ascending i.0 c.args.at (c.loop-high.low + (c.loop-high.high - c.loop-high.low) / 2) c.index-refs-middle.result i.4 b c.index-refs-middle.is (omega (arith, c.if-offset.true, c.offset.ensures, c.offset-in-loop-high.ensures)), i.2, i.3, i.4)

pub loop-high-preserved : goal.loop-high-preserved
loop-high-preserved c =
    let i = c.loop-high.invariant in
    let b : c.loop-high.low + (c.loop-high.high - c.loop-high.low) / 2 < length c.args.refs.now = omega (arith, i.1, i.2, i.3, c.loop-high-test.true) in
    (i.0, i.1, not_after c.args.refs.now c.requires.ascending i.0 c.args.at (c.loop-high.low + (c.loop-high.high - c.loop-high.low) / 2) c.index-refs-middle.result i.4 b c.index-refs-middle.is (omega (arith, c.if-offset.false, c.offset.ensures, c.offset-in-loop-high.ensures)), omega (arith, b), i.4)
