-- The code's marks of functions, statements and lines as those of the grammar's definitions.
use Rattle.listing_parser.specs.declared.line.FunctionMark.{FunctionMark as Marks}
use Rattle.listing_parser.specs.declared.line.FunctionMark.TheVariants as mark
use Rattle.listing_parser.specs.declared.line.ListingLine.{ListingLine as Lines}
use Rattle.listing_parser.specs.declared.statement.Told.{Told as Tolds}
use Rattle.listing_parser.specs.Grammar.{Read, said_of, bare}
use Rattle.listing_parser.specs.Directives.{FunctionMark, Unmarked, NextMarked, NameMarked, Told}
use Rattle.listing_parser.specs.Views.{statement_view, line_view}

abbrev pub mark_view : Marks → FunctionMark
mark_view mark.Nothing = Unmarked
mark_view mark.Next = NextMarked
mark_view (mark.Named name) = NameMarked name.items

abbrev pub told_view : Tolds → Told
told_view t = record { said = said_of (statement_view t.statement); mark = mark_view t.mark }

abbrev pub read_view : Lines → Read
read_view l = record { line = bare (line_view l); mark = mark_view l.mark }
