use Rattle.std.proofs.Common.{◌∙◌, ◌++◌, ℕ, List, ap, subst, sym}
use Rattle.thumb_model.specs.Listing.{code_of}
use Rattle.thumb_machine.specs.declared.answers.Answer.{Answer}
use Rattle.thumb_machine.specs.declared.event.Event.{Event}
use Rattle.thumb_machine.specs.Naming.{naming_of}
use Rattle.thumb_machine.specs.Outside.{answers_of, events_of}
use Rattle.thumb_machine.specs.Positions.{state_of}
use Rattle.thumb_machine.specs.Laid.{IsLaid}
use Rattle.audit_cli.specs.Commands.{trace_arguments_of}
use Rattle.command_runs.specs.Plans.{Outcome}
use Rattle.audit_cli.specs.Trace.{event_lines, steps_line, LinesTrace}
use Rattle.audit_cli.proofs.TraceLemmas.{begins, runs}
use Rattle.audit_cli.proofs.trace.traced.Goals as goal

pub returns : goal.returns
returns c =
    let names = naming_of c.in_ok-naming.naming in
    let code = code_of c.args.listing.now in
    let laid : IsLaid 0 c.args.listing.now names = subst (λ (b : ℕ). IsLaid b c.args.listing.now names) c.requires.base c.in_ok-naming.ensures in
    let start = begins c.args.listing.now c.args.trace.now.label.now c.args.place c.state-state.result c.in_ok-machine.machine.world c.in_ok-machine.machine.at c.new-answers.result c.requires.label
    c.state-state.ensures.values c.state-state.ensures.bytes c.state-state.ensures.place c.in_ok-machine.ensures.start
    (ap (λ (l : List Answer). answers_of l) c.new-answers.ensures ∙ c.in_ok-list.ensures) in
    subst (λ (o : Outcome). LinesTrace (trace_arguments_of c.args.trace.now) c.args.listing.now o) (sym c.prints-outcome.ensures)
    (runs (trace_arguments_of c.args.trace.now) c.args.listing.now c.args.place names (state_of c.in_ok-machine.machine.world c.in_ok-machine.machine.at c.new-answers.result) c.in_ok-taken.taken c.in_ok-taken.stage
    (events_of c.run.new.machine.world.events.items) c.in_ok-lines.lines.items c.requires.layable c.requires.label laid start
    (c.in_ok-taken.ensures.run names code c.in_ok-machine.ensures.program) (c.in_ok-taken.ensures.events names code c.in_ok-machine.ensures.program)
    (c.in_ok-lines.ensures ∙ ap (λ (es : List Event). event_lines (events_of es) ++ steps_line c.in_ok-taken.taken c.in_ok-taken.stage) c.events.ensures))
