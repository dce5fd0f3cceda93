use Rattle.std.proofs.Common.{◌≡◌, take}
use Rattle.clause_model.specs.Clauses.{codes_of}
use Rattle.cdcl_core.specs.Held.{Covers}
use Rattle.cdcl_core.specs.Searched.{HasBase}
use Rattle.cdcl_core.proofs.solver.Solver.load.Given as goal

abbrev pub invariant-loop-i : goal.invariant-loop-i
invariant-loop-i l =
    HasBase (codes_of (take l.i l.formula.clauses)) l.self l.self.conflict
    × Covers (codes_of (take l.i l.formula.clauses)) (codes_of (take l.i l.formula.clauses)) l.self.ids.items l.self.trail
    × (l.self.variables ≡ l.initial.self.variables)
