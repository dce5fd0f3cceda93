use Rattle.std.proofs.Common.{◌∙◌, ◌<◌, map, length, sym}
use Rattle.std.proofs.lemmas.List.{map-append}
use Rattle.listing_parser.specs.Views.{line_view}
use Rattle.listing_parser.proofs.ReplaceLemmas.{kept_step}
use Rattle.listing_parser.proofs.replacing.add_without.Goals as goal

pub loop-line-preserved : goal.loop-line-preserved
loop-line-preserved c =
    let within : c.loop-line.line-index < length c.args.lines.now = c.loop-line-test.true in
    rw (c.in_ok-push.ensures.items, map-append)
    (kept_step line_view (map line_view c.loop-line.out.items) _ c.args.lines.now c.loop-line.line-index c.loop-line.left c.line-item.result (line_view c.in_ok-line.line) within c.line-item.is
    (sym c.is_skipped.ensures ∙ c.if-is_skipped.false) c.in_ok-line.ensures.line c.loop-line.invariant)
