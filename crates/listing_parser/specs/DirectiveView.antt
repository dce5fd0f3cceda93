-- A row of the code's table of directives by its content: the bytes of the name, and not where they lie in memory.
use Rattle.std.specs.Prelude.{ℕ, List}
use Rattle.listing_parser.specs.declared.directive.Named.{Named}
use Rattle.listing_parser.specs.declared.directive.Directive.{Directive}

abbrev pub row_of : Named → List ℕ × Directive
row_of n = (n.name.now, n.directive)
