use Rattle.std.proofs.Common.{◌≡◌, ◌++◌, drop}
use Rattle.std.specs.String.{string_bytes}
use Rattle.std.specs.List.{flat_map}
use Rattle.cnf_gates.specs.Cnf.{literal_text}
use Rattle.cnf_gates.proofs.dimacs.push_clause.Given as goal

abbrev pub invariant-loop-literal : goal.invariant-loop-literal
invariant-loop-literal l = string_bytes l.text ++ flat_map literal_text (drop l.literal-index l.clause) ≡ string_bytes l.initial.text ++ flat_map literal_text l.clause
