use Rattle.std.proofs.Common.{take}
use Rattle.lrat_check.specs.Live.{clause_at}
use Rattle.lrat_check.specs.Text.{IsAfter}
use Rattle.lrat_check.proofs.deletion.delete.Given as goal

abbrev pub invariant-loop-id : goal.invariant-loop-id
invariant-loop-id l = IsAfter (clause_at l.initial.live) (take l.id-index l.ids) (clause_at l.live)
