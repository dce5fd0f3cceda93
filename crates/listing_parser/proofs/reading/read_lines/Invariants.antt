use Rattle.std.proofs.Common.{◌≡◌, map}
use Rattle.ascii_scan.specs.Lines.{lines_in}
use Rattle.ascii_scan.specs.Source.{lines_left}
use Rattle.listing_parser.specs.Grammar.{read_lines, with_front}
use Rattle.listing_parser.specs.ToldView.{read_view}
use Rattle.listing_parser.proofs.reading.read_lines.Given as goal

abbrev pub invariant-loop-source : goal.invariant-loop-source
invariant-loop-source l = with_front (map read_view l.lines.items) (read_lines (lines_left l.source-iterator)) ≡ read_lines (lines_in l.text)
