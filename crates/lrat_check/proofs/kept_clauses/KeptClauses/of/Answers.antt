use Rattle.std.proofs.Common.{◌∙◌}
use Rattle.clause_model.specs.Clauses.{codes_of}
use Rattle.lrat_check.proofs.Starts.{code_at}
use Rattle.lrat_check.proofs.Listed.{holds_next}
use Rattle.lrat_check.proofs.kept_clauses.KeptClauses.of.Goals as goal

pub loop-i-preserved : goal.loop-i-preserved
loop-i-preserved c =
    let at = code_at c.args.formula.now.clauses c.loop-i.i c.clause.result.now c.deref.result.now c.clause.ensures.clause (c.deref.ensures.value ∙ c.in_ok-literals.ensures) in
    holds_next c.loop-i.lists c.keep.new.self (codes_of c.args.formula.now.clauses) c.deref.result.now c.loop-i.i at.0 at.1 c.loop-i.invariant c.in_ok-keep.ensures
