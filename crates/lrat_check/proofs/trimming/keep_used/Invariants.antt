use Rattle.std.proofs.Common.{◌≡◌, ℕ, List, [], reverse}
use Rattle.lrat_check.specs.Text.{Content}
use Rattle.lrat_check.specs.Runs.{contents_of}
use Rattle.lrat_check.specs.Meant.{IsMeant}
use Rattle.lrat_check.proofs.Backward.{Going}
use Rattle.lrat_check.proofs.trimming.keep_used.Given as goal

abbrev pub invariant-loop-place : goal.invariant-loop-place
invariant-loop-place g l = record {
  unset : l.assignment ≡ [];
  goes : (clauses : List (List ℕ)) (lines : List Content) (m : IsMeant clauses lines l.meanings) → Going clauses lines m.refutes m.open' (reverse (contents_of l.kept.items)) l.marks.items l.place l.initial.steps l.steps;
}
