use Rattle.std.proofs.Common.{◌*◌, inl, inr, arith, refl}
use Rattle.std.proofs.lemmas.Bool.{cases_lt}
use Rattle.clause_model.proofs.Scans.{never}
use Rattle.cdcl_core.proofs.Searches.{room_for, unset_with}
use Rattle.cdcl_core.proofs.search.pick.Goals as goal

pub loop-variable-preserved : goal.loop-variable-preserved
loop-variable-preserved c = λ x b u. elim (cases_lt x (2 * c.loop-variable.variable)) [
  | inl k ↦ c.loop-variable.invariant x k u
  | inr k ↦ never c.if-is_unset.ensures.1 (unset_with c.args.trail.now c.loop-variable.variable x c.new-literal.result c.new-literal.ensures k b u)
]

pub returns-then-is_unset-clause-room : goal.returns-then-is_unset-clause-room
returns-then-is_unset-clause-room c = room_for c.args.variables c.args.trail.now c.new-literal.result c.len-trues.ensures.consistent c.len-trues.ensures.distinct c.requires.bounded (c.if-is_unset.ensures.0 refl) (omega (arith, c.new-literal.ensures, c.loop-variable-test.true))

pub returns-then-is_unset-clause-some : goal.returns-then-is_unset-clause-some
returns-then-is_unset-clause-some c = (c.if-is_unset.ensures.0 refl, omega (arith, c.new-literal.ensures, c.loop-variable-test.true))

pub returns-clause-none : goal.returns-clause-none
returns-clause-none c = λ e x b u. c.loop-variable.invariant x (omega (arith, c.loop-variable-test.false, b)) u

pub returns-in-Some-clause-room : goal.returns-in-Some-clause-room
returns-in-Some-clause-room c = room_for c.args.variables c.args.trail.now c.in-Some.literal c.len-trues.ensures.consistent c.len-trues.ensures.distinct c.requires.bounded c.in-Some.ensures.0 c.in-Some.ensures.1
