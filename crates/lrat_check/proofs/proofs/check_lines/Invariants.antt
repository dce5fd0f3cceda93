use Rattle.std.proofs.Common.{◌≡◌, ◌≤◌, ◌+◌, ◌++◌, [], drop, take}
use Rattle.std.specs.Prelude.{Any, IsTrue, ◌↔◌}
use Rattle.step_ledger.specs.Counts.{RisesByAtLeast}
use Rattle.clause_model.specs.Clauses.{codes_of}
use Rattle.lrat_check.specs.declared.proof_fault.ProofFault.TheVariants.{Line as LineOf}
use Rattle.lrat_check.specs.Proofs.{started, additions, LinesVerdict}
use Rattle.lrat_check.specs.ProofCosts.{lines_cost}
use Rattle.lrat_check.specs.Checked.{known_of}
use Rattle.lrat_check.specs.Runs.{contents_of}
use Rattle.lrat_check.proofs.Checks.{LinesRest}
use Rattle.lrat_check.proofs.proofs.check_lines.Given as goal

abbrev pub invariant-loop-place : goal.invariant-loop-place
invariant-loop-place g l = record {
  rest : LinesRest LineOf (known_of l.checker) (l.place + 1) (drop l.place (contents_of l.lines)) (LinesVerdict LineOf (started (codes_of l.formula.clauses)) 1 (contents_of l.lines));
  refuted : IsTrue l.checker.refuted ↔ Any (λ clause. clause ≡ []) (codes_of l.formula.clauses ++ additions (take l.place (contents_of l.lines)));
  cost : l.steps + lines_cost (known_of l.checker) (drop l.place (contents_of l.lines)) ≤ l.initial.steps + lines_cost (started (codes_of l.formula.clauses)) (contents_of l.lines);
  rises : RisesByAtLeast l.initial.steps l.steps 0;
}
