use Rattle.std.proofs.Common.{take}
use Rattle.clause_model.specs.Clauses.{codes_of}
use Rattle.lrat_check.specs.Live.{clause_at}
use Rattle.lrat_check.proofs.Starts.{Begun}
use Rattle.lrat_check.proofs.checker.Checker.begin.Given as goal

abbrev pub invariant-loop-i : goal.invariant-loop-i
invariant-loop-i l = Begun (clause_at l.live) l.refuted (take l.i (codes_of l.formula.clauses))
