-- The operands that are still to be read as one list: those scanned in advance, and those of the remaining bytes.
use Rattle.std.specs.Prelude.{List, ◌++◌, map}
use Rattle.ascii_scan.specs.Tokens.{tokens}
use Rattle.thumb_syntax.specs.declared.left.Left.{Left}
use Rattle.thumb_syntax.specs.Operands.{Operand, operand}
use Rattle.thumb_syntax.specs.Views.{view}

abbrev pub left : Left → List Operand
left l = map view l.ahead.now ++ map operand (tokens l.bytes.now)
