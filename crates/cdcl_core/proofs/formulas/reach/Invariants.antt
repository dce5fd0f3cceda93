use Rattle.std.proofs.Common.{ℕ, ◌≤◌, take}
use Rattle.std.specs.Prelude.{All}
use Rattle.clause_model.specs.Clauses.{codes_of}
use Rattle.cnf_gates.specs.Cnf.{IsLiteral}
use Rattle.cdcl_core.specs.Solved.{AreBelow}
use Rattle.cdcl_core.proofs.formulas.reach.Given as goal

abbrev pub invariant-loop-i : goal.invariant-loop-i
invariant-loop-i l =
    (l.reach ≤ 200000) × All (λ clause. All IsLiteral clause) (take l.i l.formula.clauses) × AreBelow l.reach (codes_of (take l.i l.formula.clauses))
    × (l.formula.variables ≤ l.reach) × ((n : ℕ) → l.formula.variables ≤ n → AreBelow n (codes_of (take l.i l.formula.clauses)) → l.reach ≤ n)
