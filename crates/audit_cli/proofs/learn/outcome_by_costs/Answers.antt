use Rattle.std.proofs.Common.{◌≡◌, subst}
use Rattle.command_runs.specs.Plans.{Refuses}
use Rattle.command_runs.specs.Outcomes.{outcome_view}
use Rattle.audit_cli.specs.declared.refusal.Refusal.TheVariants as refusal
use Rattle.audit_cli.specs.Printed.{refusal_line}
use Rattle.audit_cli.specs.Learn.{LearnArguments, Learns, LearnsByCosts}
use Rattle.audit_cli.specs.Commands.{learn_arguments_of, learn_arguments_by_costs}
use Rattle.audit_cli.proofs.StepLemmas.{ok_so}
use Rattle.audit_cli.proofs.LearnLemmas.{is_priced, is_unpriced}
use Rattle.audit_cli.proofs.learn.outcome_by_costs.Goals as goal

pub returns-in-Err : goal.returns-in-Err
returns-in-Err g c =
    let to = learn_arguments_by_costs c.args.to.now in
    ok_so c.refused.result (λ o. outcome_view o ≡ Refuses (refusal_line (refusal.Costs c.in-Err.field-0.number))) (λ o. LearnsByCosts to c.args.text.now c.args.costs.now (outcome_view o)) c.refused.ensures
    (λ o is. is_unpriced to c.args.text.now c.args.costs.now c.in-Err.field-0 c.read_costs.result (outcome_view o) c.read_costs.ensures c.in-Err.is is)

pub returns-in-Ok : goal.returns-in-Ok
returns-in-Ok g c =
    let to = learn_arguments_by_costs c.args.to.now in
    ok_so c.outcome.result (λ o. Learns (learn_arguments_of c.with_costs.result) c.args.text.now (outcome_view o)) (λ o. LearnsByCosts to c.args.text.now c.args.costs.now (outcome_view o)) c.outcome.ensures
    (λ o h. is_priced to c.args.text.now c.args.costs.now c.in-Ok.costs c.read_costs.result (outcome_view o) c.read_costs.ensures c.in-Ok.is
    (subst (λ (l : LearnArguments). Learns l c.args.text.now (outcome_view o)) c.with_costs.ensures h))
