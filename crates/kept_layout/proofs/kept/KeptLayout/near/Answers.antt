use Rattle.std.proofs.Common.{◌∙◌, ◌-◌, ap, sym, arith}
use Rattle.std.specs.Prelude.{slice_get}
use Rattle.kept_layout.specs.Moves.{starts_of}
use Rattle.kept_layout.proofs.ShrinkingPlaces.{address_is}
use Rattle.kept_layout.proofs.Skipping.{far_found}
use Rattle.kept_layout.proofs.Walls.{bounds}
use Rattle.kept_layout.proofs.kept.KeptLayout.near.Goals as goal

pub returns-then-saturating_sub-gt-REACH : goal.returns-then-saturating_sub-gt-REACH
returns-then-saturating_sub-gt-REACH c =
    let k = c.args.self.now in
    let laid = c.requires in
    let wall = c.wall-wall.ensures in
    let b = bounds k laid in
    let within = b.within in
    let from = c.loop-number.invariant.from in
    let until = c.loop-number.invariant.until in
    let end = address_is k c.wall-wall.result c.address-end.result laid (omega arith) c.address-end.ensures in
    let at = address_is k (c.loop-number.number - 1) c.address-at.result laid (omega arith) c.address-at.ensures in
    let sub = c.saturating_sub.ensures in
    far_found k c.args.bytes c.args.moved.now.by c.loop-number.number (c.loop-number.number - 1) c.address-at.result c.address-end.result from (omega arith) (omega arith) at (ap (slice_get (starts_of k)) (sym wall) ∙ end) (omega arith) (c.is_small.ensures c.if-not-is_small.false)
