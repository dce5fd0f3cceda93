use Rattle.std.proofs.Common.{◌≡◌, take}
use Rattle.seq_enum.specs.Alphabet.{alphabet}
use Rattle.seq_enum.proofs.walk.alphabet_instrs.Given as goal

abbrev pub invariant-loop-place : goal.invariant-loop-place
invariant-loop-place l = l.instrs.items ≡ take l.place (alphabet l.k l.pool)
