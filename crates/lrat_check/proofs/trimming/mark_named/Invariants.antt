use Rattle.std.proofs.Common.{◌<◌, take, map}
use Rattle.std.specs.Prelude.{AllPairs, unsigned_abs}
use Rattle.lrat_check.specs.Shown.{MarksNamed}
use Rattle.lrat_check.proofs.trimming.mark_named.Given as goal

abbrev pub invariant-loop-hint : goal.invariant-loop-hint
invariant-loop-hint l = AllPairs (λ id later. id < later) l.ids → MarksNamed l.ids (map unsigned_abs (take l.hint-index l.hints)) l.initial.marks l.marks
