use Rattle.std.proofs.Common.{ℕ, List, length}
use Rattle.clause_arena.specs.Contents.{chain_of}
use Rattle.unit_propagation.proofs.Walks.{IsOn, tail_from}
use Rattle.unit_propagation.proofs.watching.walk.Given as goal

abbrev pub invariant-loop-next : goal.invariant-loop-next
invariant-loop-next l = (seen : List (ℕ × ℕ)) × ((later : List (ℕ × ℕ)) × IsOn l.fn.arena l.fn.assignment l.fn.reasons.items l.arena l.assignment l.reasons.items l.falsified l.before l.next seen later)

abbrev pub decreases-loop-next : goal.decreases-loop-next
decreases-loop-next l = length (tail_from (chain_of l.arena l.falsified) l.next)
