use Rattle.std.proofs.Common.{◌≡◌, map, take}
use Rattle.lrat_check.specs.Ending.{clause_of, slices_in}
use Rattle.lrat_check.proofs.meanings.clauses_of.Given as goal

abbrev pub invariant-loop-addition : goal.invariant-loop-addition
invariant-loop-addition l = slices_in l.clauses.items ≡ map clause_of (take l.addition-index l.additions)
