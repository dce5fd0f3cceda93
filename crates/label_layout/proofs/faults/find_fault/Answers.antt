use Rattle.std.proofs.Common.{◌+◌, ◌^◌, map, drop, ap, arith}
use Rattle.thumb_model.specs.Layout.{size_at, end_of}
use Rattle.listing_parser.specs.Views.{line_view, statement_view}
use Rattle.label_layout.proofs.Sums.{at_end, fits}
use Rattle.label_layout.proofs.faults.find_fault.Goals as goal
use Rattle.listing_parser.proofs.Shared.{next_line}

pub next_address-requires : goal.next_address-requires
next_address-requires c =
    let h = at_end c.loop-line.at (map line_view (drop c.loop-line.line-index c.lines-line-items.result.now)) in
    omega (arith, c.loop-line.invariant.end, c.end.ensures.value, c.end.ensures.in_code)

pub unreachable-requires : goal.unreachable-requires
unreachable-requires c =
    let at = c.loop-line.at in
    let here = statement_view c.line-item.result.statement in
    let rest = map line_view (drop (c.loop-line.line-index + 1) c.lines-line-items.result.now) in
    let split = next_line c.lines-line-items.result.now c.loop-line.line-index c.line-item.result c.loop-line-test.true c.line-item.is in
    let whole = ap (end_of at) split in
    let h = at_end (at + size_at here at) rest in
    fits (at + size_at here at) (2 ^ 29) c.in-None.ensures (omega (arith, whole, c.loop-line.invariant.end, c.end.ensures.value, c.end.ensures.in_code))
