use Rattle.std.proofs.Common.{◌≡◌, ◌++◌, take, map}
use Rattle.lrat_check.specs.Text.{spaced}
use Rattle.lrat_check.proofs.entry.write_all.Given as goal

abbrev pub invariant-loop-entry : goal.invariant-loop-entry
invariant-loop-entry g l = l.out.items ≡ l.initial.out.items ++ spaced (map g.E.ProofNumber.text (take l.entry-index l.entries))
