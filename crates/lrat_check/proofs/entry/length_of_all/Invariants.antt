use Rattle.std.proofs.Common.{◌≡◌, ◌+◌, take, map, length}
use Rattle.lrat_check.specs.Text.{spaced}
use Rattle.lrat_check.proofs.entry.length_of_all.Given as goal

abbrev pub invariant-loop-entry : goal.invariant-loop-entry
invariant-loop-entry g l = l.total ≡ l.initial.before + length (spaced (map g.E.ProofNumber.text (take l.entry-index l.entries)))
