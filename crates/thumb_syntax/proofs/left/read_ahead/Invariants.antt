use Rattle.std.proofs.Common.{◌≡◌, ◌≤◌, ◌++◌, map, length}
use Rattle.ascii_scan.specs.Tokens.{tokens}
use Rattle.thumb_syntax.specs.Operands.{operand}
use Rattle.thumb_syntax.specs.Views.{view}
use Rattle.thumb_syntax.proofs.left.read_ahead.Given as goal

abbrev pub invariant-loop-turn : goal.invariant-loop-turn
invariant-loop-turn l = record {
  room : length l.ahead.items ≤ l._turn;
  same : map view l.ahead.items ++ map operand (tokens l.rest) ≡ map operand (tokens l.bytes);
}
