-- Adding a command to the program, in the sense of clap's definitions.
use Rattle.std.proofs.Common.{◌≡◌, ◌∙◌, ap, subst, Result}
use Rattle.std.specs.Prelude.{IfOk}
use Rattle.clap.specs.Words.{App, app_of, with_subcommand}
use Rattle.clap.specs.declared.builder.command.Command.{Command}
use Rattle.command_line.specs.App.{app_for, bare_app, peep_app}
use Rattle.command_line.specs.CommandLine.{Form, rewrites, audits, learns, exports, traces, demos, upgrades, trims, tidies, generalises}

pub with_form : App → Form → App
with_form a form = with_subcommand a (app_for form).top

pub form_added : (old new : Command) (a : App) (form : Form) → app_of new ≡ with_subcommand (app_of old) (app_for form).top → app_of old ≡ a → app_of new ≡ with_form a form
unfolding with_form
form_added old new a form is was = is ∙ ap (λ (b : App). with_form b form) was

-- the program with all of its commands, one added after the other
pub all_added : {E : Type 0} (ninth : Command) (new : Result Command E) → IfOk new (λ c. app_of c ≡ with_subcommand (app_of ninth) (app_for generalises).top)
    → app_of ninth ≡ with_form (with_form (with_form (with_form (with_form (with_form (with_form (with_form (with_form bare_app rewrites) audits) learns) exports) traces) demos) upgrades) trims) tidies
    → IfOk new (λ c. app_of c ≡ peep_app)
unfolding with_form
all_added ninth new added is = subst (λ (a : App). IfOk new (λ c. app_of c ≡ with_subcommand a (app_for generalises).top)) is added
