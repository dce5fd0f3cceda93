use Rattle.std.proofs.Common.{◌≡◌, map, drop}
use Rattle.listing_parser.specs.Directives.{directive_in}
use Rattle.listing_parser.specs.DirectiveView.{row_of}
use Rattle.listing_parser.proofs.directive.directive_in.Given as goal

abbrev pub invariant-loop-row : goal.invariant-loop-row
invariant-loop-row l = directive_in (map row_of (drop l.row-index l.rows)) l.word ≡ directive_in (map row_of l.rows) l.word
