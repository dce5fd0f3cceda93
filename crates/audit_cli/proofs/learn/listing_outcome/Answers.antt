use Rattle.std.proofs.Common.{subst}
use Rattle.rule_table.specs.Views.{table_of}
use Rattle.table_learn.specs.Learnt.{Settings}
use Rattle.table_learn.specs.Given.{settings_of}
use Rattle.command_runs.specs.Outcomes.{outcome_view}
use Rattle.audit_cli.specs.Learn.{IsLearnt, IsUnlearnt}
use Rattle.audit_cli.specs.Commands.{learn_arguments_of}
use Rattle.audit_cli.proofs.StepLemmas.{ok_so}
use Rattle.audit_cli.proofs.LearnLemmas.{is_learnt, is_taught, is_unlearnt, not_taught}
use Rattle.audit_cli.proofs.learn.listing_outcome.Goals as goal

pub kept-requires : goal.kept-requires
kept-requires g c =
    let taught = is_taught table_of (settings_of c.settings-settings.result) c.args.listing.now c.in_ok-refusal.field-0 c.in-Ok.table c.in_ok-refusal.ensures c.in-Ok.is in
    record { valid = taught.valid; fits = taught.fits }

pub returns-in-Err : goal.returns-in-Err
returns-in-Err g c =
    ok_so c.refused.result _ _ c.refused.ensures (λ o is. is_unlearnt (learn_arguments_of c.args.to.now) c.args.listing.now c.in-Err.refusal (outcome_view o)
    (subst (λ (s : Settings). IsUnlearnt s c.args.listing.now c.in-Err.refusal) c.settings-settings.ensures.same
    (not_taught table_of (settings_of c.settings-settings.result) c.args.listing.now c.in_ok-refusal.field-0 c.in-Err.refusal c.in_ok-refusal.ensures c.in-Err.is)) is)

pub returns-in-Ok : goal.returns-in-Ok
returns-in-Ok g c =
    ok_so c.kept.result _ _ c.kept.ensures (λ o is. is_learnt (learn_arguments_of c.args.to.now) c.args.listing.now (table_of c.in-Ok.table) (outcome_view o)
    (subst (λ (s : Settings). IsLearnt s c.args.listing.now (table_of c.in-Ok.table)) c.settings-settings.ensures.same
    (is_taught table_of (settings_of c.settings-settings.result) c.args.listing.now c.in_ok-refusal.field-0 c.in-Ok.table c.in_ok-refusal.ensures c.in-Ok.is)) is)
