use Rattle.std.proofs.Common.{◌≡◌, arith, subst}
use Rattle.std.specs.Prelude.{All}
use Rattle.std.proofs.lemmas.List.{take_all}
use Rattle.cdcl_core.proofs.adopting.find_other.Goals as goal

pub returns-clause-none : goal.returns-clause-none
returns-clause-none c = λ e. subst (All (λ x. x ≡ c.args.first)) (take_all c.loop-literal.literal-index c.args.literals.now (omega arith)) c.loop-literal.invariant
