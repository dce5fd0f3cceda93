use Rattle.std.proofs.Common.{subst, map}
use Rattle.lrat_check.specs.Text.{content_of}
use Rattle.window_exec.specs.State.{values_of}
use Rattle.audit_cli.specs.Generalise.{FailsFor, no_entry, unraisable}
use Rattle.audit_cli.proofs.GeneraliseLemmas.{unraised_differ, unraised_spent}
use Rattle.audit_cli.proofs.generalising.refusal_of.Goals as goal

pub returns-in-Number : goal.returns-in-Number
returns-in-Number c = λ t f valid is h. no_entry (subst (FailsFor t f) c.in-Number.is h)

pub returns-in-Symbol : goal.returns-in-Symbol
returns-in-Symbol c = λ t f valid is h. unraisable (subst (FailsFor t f) c.in-Symbol.is h)

pub returns-in-Differ : goal.returns-in-Differ
returns-in-Differ c = λ t f valid is h. unraised_differ t f c.in-Differ.value (values_of c.in-Differ._state) valid (subst (FailsFor t f) c.in-Differ.is h)

pub returns-in-Spent : goal.returns-in-Spent
returns-in-Spent c = λ t f valid is h. unraised_spent t f (map content_of c.in-Spent._log.items) c.args.budget is (subst (FailsFor t f) c.in-Spent.is h)
