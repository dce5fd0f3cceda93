use Rattle.std.proofs.Common.{map}
use Rattle.std.proofs.lemmas.List.{map-append}
use Rattle.ascii_scan.specs.Source.{lines_left, line_view as source_view}
use Rattle.listing_parser.specs.ToldView.{read_view}
use Rattle.listing_parser.proofs.ReadingLemmas.{read_ok, read_err, read_end}
use Rattle.listing_parser.proofs.reading.read_lines.Goals as goal

pub loop-source-preserved : goal.loop-source-preserved
loop-source-preserved c =
    rw (c.in_ok-push-in-Ok.ensures.items, map-append)
    (read_ok (map read_view c.loop-source.lines.items) (lines_left c.loop-source.source-iterator) (lines_left c.next.new.self) (source_view c.in-Some.source) (read_view c.in-Ok.line) _
    c.in-Some.ensures.steps c.in-Ok.ensures c.loop-source.invariant)

pub returns-in-Err : goal.returns-in-Err
returns-in-Err c =
    read_err (map read_view c.loop-source.lines.items) (lines_left c.loop-source.source-iterator) (lines_left c.next.new.self) (source_view c.in-Some.source) c.in-Err.error _
    c.in-Some.ensures.steps c.in-Err.ensures c.loop-source.invariant

pub returns : goal.returns
returns c = read_end (map read_view c.loop-source.lines.items) (lines_left c.loop-source.source-iterator) _ c.in-None.ensures.steps.0 c.loop-source.invariant
