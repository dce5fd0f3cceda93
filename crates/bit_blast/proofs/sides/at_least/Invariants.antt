use Rattle.std.proofs.Common.{◌≡◌, ◌-◌}
use Rattle.bit_blast.specs.Differences.{at_least, at_least_from}
use Rattle.bit_blast.proofs.sides.at_least.Given as goal

-- the clauses of the remaining places, added to what is built, give the same end as those of all places
abbrev pub invariant-loop-i : goal.invariant-loop-i
invariant-loop-i l = at_least_from l.bits l.least (8 - l.i) l.higher.items l.builder ≡ at_least l.bits l.least l.fn.builder
