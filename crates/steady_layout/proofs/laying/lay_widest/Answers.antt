use Rattle.std.proofs.Common.{◌∙◌, ◌+◌, ◌^◌, List, map, drop, sym, ap, arith}
use Rattle.thumb_model.specs.Listing.{ListingLine}
use Rattle.listing_parser.specs.Views.{line_view, statement_view}
use Rattle.steady_layout.specs.declared.starts.Start.{Start}
use Rattle.steady_layout.specs.Steady.{behind, first, widest_end}
use Rattle.steady_layout.proofs.Steps.{at_end, fits}
use Rattle.steady_layout.proofs.laying.lay_widest.Goals as goal
use Rattle.listing_parser.proofs.Shared.{next_line}

pub returns-then-base-gt-CODE_END : goal.returns-then-base-gt-CODE_END
returns-then-base-gt-CODE_END c = λ h.
    let g = at_end (first c.args.base) (map line_view c.args.lines.now) in
    omega (arith, c.if-base-gt-CODE_END.true)

pub returns-in_default : goal.returns-in_default
returns-in_default c = λ e.
    let here = c.loop-line.here in
    let s = statement_view c.line-item.result.statement in
    let rest = map line_view (drop (c.loop-line.line-index + 1) c.args.lines.now) in
    let split = next_line c.args.lines.now c.loop-line.line-index c.line-item.result c.loop-line-test.true c.line-item.is in
    let whole = ap (λ (ls : List ListingLine). (widest_end here ls).at) split in
    let h = at_end (behind here s) rest in
    fits here s (2 ^ 29) (sym c.in_default.is ∙ c.next_start.ensures) (omega (arith, whole, ap (λ (s : Start). s.at) c.loop-line.invariant.end, e))
