use Rattle.std.proofs.Common.{◌≡◌, ◌≤◌, drop}
use Rattle.seq_enum.specs.Alphabet.{ascends_from}
use Rattle.seq_enum.proofs.pool.ascends.Given as goal

abbrev pub invariant-loop-x : goal.invariant-loop-x
invariant-loop-x l = record { left : ascends_from l.low (drop l.x-index l.numbers) ≡ ascends_from 0 l.numbers; small : l.low ≤ 256 }
