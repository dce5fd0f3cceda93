use Rattle.std.proofs.Common.{ℕ, take, drop, List, Option}
use Rattle.lrat_check.specs.Live.{clause_at}
use Rattle.lrat_check.proofs.Deletions.{Deleting, HasSeen}
use Rattle.lrat_check.proofs.deletion.find_dead.Given as goal

abbrev pub invariant-loop-i : goal.invariant-loop-i
invariant-loop-i l = HasSeen l.seen (take l.i l.ids) × ((now : ℕ → Option (List ℕ)) × Deleting (clause_at l.live) l.ids now (take l.i l.ids) (drop l.i l.ids) l.i)
