use Rattle.std.proofs.Common.{subst, sym}
use Rattle.rule_table.specs.Views.{table_of}
use Rattle.table_learn.specs.Learnt.{Settings}
use Rattle.table_learn.specs.Given.{AreInLimits, settings_of}
use Rattle.command_runs.specs.Outcomes.{outcome_view}
use Rattle.audit_cli.specs.Learn.{IsLearnt, IsUnlearnt}
use Rattle.audit_cli.proofs.LearnLemmas.{is_taught, not_taught}
use Rattle.audit_cli.proofs.StepLemmas.{ok_so}
use Rattle.audit_cli.proofs.DemoLemmas.{demo_limits, is_full, is_shown}
use Rattle.audit_cli.proofs.demo.outcome.Goals as goal

pub learnt-requires : goal.learnt-requires
learnt-requires g c = subst AreInLimits (sym c.settings.ensures) demo_limits

pub returns-in-Err : goal.returns-in-Err
returns-in-Err g c =
    ok_so c.refused.result _ _ c.refused.ensures (λ o is. is_full c.args.windows c.in_ok-listing.listing c.in-Err.refusal (outcome_view o) c.in_ok-listing.ensures
    (subst (λ (s : Settings). IsUnlearnt s c.in_ok-listing.listing c.in-Err.refusal) c.settings.ensures
    (not_taught table_of (settings_of c.settings.result) c.in_ok-listing.listing c.in_ok-refusal.field-0 c.in-Err.refusal c.in_ok-refusal.ensures c.in-Err.is)) is)

pub told-requires : goal.told-requires
told-requires g c = record {
  few = c.requires;
  made = c.in_ok-listing.ensures;
  learnt = subst (λ (s : Settings). IsLearnt s c.in_ok-listing.listing (table_of c.in-Ok.table)) c.settings.ensures
      (is_taught table_of (settings_of c.settings.result) c.in_ok-listing.listing c.in_ok-refusal.field-0 c.in-Ok.table c.in_ok-refusal.ensures c.in-Ok.is);
}

pub returns-in_ok-lines-in-Ok : goal.returns-in_ok-lines-in-Ok
returns-in_ok-lines-in-Ok g c = is_shown c.args.windows c.in_ok-lines-in-Ok.lines.items (outcome_view c.prints.result) c.in_ok-lines-in-Ok.ensures c.prints.ensures
