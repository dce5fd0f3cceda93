-- The lines that an iterator over a source has still to yield, as values of the specification.
use Rattle.std.specs.Prelude.{◌+◌, List}
use Rattle.ascii_scan.specs.Lines.{lines_of, Placed, placed_from}
use Rattle.ascii_scan.specs.declared.source.SourceLine.{SourceLine}
use Rattle.ascii_scan.specs.declared.source.Lines.{Lines}

abbrev pub line_view : SourceLine → Placed
line_view l = record { number = l.number; start = l.start; end = l.end; text = l.text.now; is_ended = l.is_ended }

abbrev pub lines_left : Lines → List Placed
lines_left s = placed_from (s.passed + 1) s.start (lines_of s.rest.now)
