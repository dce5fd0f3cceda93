-- The code's lines, statements and places as those of the model.
use Rattle.std.specs.Prelude.{List, map, option_map}
use Rattle.thumb_model.specs.Listing.{Name, Mention, Value, Number, OfName, Statement, Nothing, Instruction, Words, Aligns, Sets, ListingLine, Place, Op, Word}
use Rattle.listing_parser.specs.declared.line.Mention.{Mention as Mentions}
use Rattle.listing_parser.specs.declared.line.Value.{Value as Values}
use Rattle.listing_parser.specs.declared.line.Value.TheVariants as value
use Rattle.listing_parser.specs.declared.line.Statement.{Statement as Statements}
use Rattle.listing_parser.specs.declared.line.Statement.TheVariants as statement
use Rattle.listing_parser.specs.declared.line.ListingLine.{ListingLine as Lines}
use Rattle.listing_parser.specs.declared.line.Place.{Place as Places}
use Rattle.listing_parser.specs.declared.line.Place.TheVariants as place
use Rattle.listing_parser.specs.Grammar.{front_of}

abbrev pub mention_view : Mentions → Mention
mention_view m = record { name = m.name.items; plus = m.plus }

abbrev pub value_view : Values → Value
value_view (value.Number n) = Number n
value_view (value.OfName m) = OfName (mention_view m)

abbrev pub statement_view : Statements → Statement
statement_view statement.Nothing = Nothing
statement_view (statement.Instruction i m) = Instruction i (option_map mention_view m)
statement_view (statement.Words vs) = Words (map value_view vs.items)
statement_view (statement.Aligns size most) = Aligns size most
statement_view (statement.Sets name address) = Sets name.items address

abbrev pub names_view : Lines → List Name
names_view l = map (λ name. name.items) l.names.items

abbrev pub line_view : Lines → ListingLine
line_view l = record {
  names = names_view l;
  statement = statement_view l.statement;
  text = l.text.items;
  front = front_of (names_view l) l.front l.text.items;
}

abbrev pub place_view : Places → Place
place_view (place.Op i m) = Op i (option_map (λ r. mention_view r.now) m)
place_view (place.Word v) = Word (value_view v.now)
