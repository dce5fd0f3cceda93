use Rattle.std.proofs.Common.{◌≡◌, ◌++◌, drop}
use Rattle.std.specs.String.{string_bytes}
use Rattle.std.specs.List.{flat_map}
use Rattle.cnf_gates.specs.Cnf.{clause_line, dimacs}
use Rattle.cnf_gates.proofs.dimacs.write_dimacs.Given as goal

abbrev pub invariant-loop-place : goal.invariant-loop-place
invariant-loop-place l = string_bytes l.text ++ flat_map clause_line (drop l.place l.formula.clauses) ≡ dimacs l.formula
