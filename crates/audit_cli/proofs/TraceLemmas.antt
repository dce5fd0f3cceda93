-- The outcome of `trace` for lines and texts: the machine starts where the trace begins, and its run is that of the definition.
use Rattle.std.proofs.Common.{◌≡◌, ◌∙◌, ◌++◌, ℕ, List, [], Result, Ok, Err, sym, ap, subst}
use Rattle.std.specs.Prelude.{IfOk, Some}
use Rattle.thumb_model.specs.Listing.{ListingLine, code_of, place_of}
use Rattle.thumb_model.specs.Layout.{Layable}
use Rattle.listing_parser.specs.Parsing.{IsListing}
use Rattle.thumb_model.specs.Naming.{Naming}
use Rattle.thumb_model.specs.States.{Event, Here, State, with_bytes}
use Rattle.thumb_model.specs.Steps.{step, times}
use Rattle.thumb_model.specs.Same.{begun, here_or_ended}
use Rattle.thumb_machine.specs.declared.answers.Answer.{Answer}
use Rattle.thumb_machine.specs.declared.world.World.{World}
use Rattle.thumb_machine.specs.declared.position.Position.{Position}
use Rattle.thumb_machine.specs.declared.position.Stage.{Stage}
use Rattle.thumb_machine.specs.declared.machine.State.{State as Begins}
use Rattle.thumb_machine.specs.Outside.{answers_of, events_of}
use Rattle.thumb_machine.specs.Positions.{at_of, state_of}
use Rattle.thumb_machine.specs.Starting.{Starts, start_values as values_at}
use Rattle.thumb_machine.specs.Laid.{IsLaid}
use Rattle.audit_cli.specs.Trace.{IsRun, answers_from, start_values, start_world, event_lines, steps_line, TraceArguments, LinesTrace, ran, Traces, read}
use Rattle.command_runs.specs.declared.outcome.Outcome.{Outcome as Outcomes}
use Rattle.command_runs.specs.Outcomes.{outcome_view}
use Rattle.command_runs.specs.Plans.{Does}

pub goes_on : {E : Type 0} (asked : TraceArguments) (text : List ℕ) (lines : List ListingLine) (r : Result Outcomes E) → IsListing text lines → IfOk r (λ o. LinesTrace asked lines (outcome_view o)) → IfOk r (λ o. Traces asked text (outcome_view o))
goes_on asked text lines (Ok o) is h = read lines is (outcome_view o) h
goes_on asked text lines (Err e) is h = tt

-- ---- the run ----

-- a run that starts from the fixed state is where the trace begins
pub begins : (lines : List ListingLine) (label : List ℕ) (p : ℕ) (b : Begins) (world : World) (here : Position) (left : List Answer) → place_of (code_of lines) label ≡ Some p
    → values_at b ≡ start_values → b.bytes ≡ [] → b.place ≡ p → Starts b b.place world here → answers_of left ≡ answers_from 1 256 → state_of world here left ≡ begun (code_of lines) label start_world []
begins lines label p b world here left at values bytes place starts answers = λ i. record {
  world = record {
    values = (starts.values ∙ values) i;
    memory = (starts.memory ∙ ap (λ bs. with_bytes bs (λ (a : ℕ). 0)) bytes) i;
    answers = answers i;
  };
  at = (ap at_of starts.at ∙ ap Here place ∙ ap here_or_ended (sym at)) i;
  events = ap events_of starts.events i;
}

-- a run from there gives the outcome for the lines
pub runs : (asked : TraceArguments) (lines : List ListingLine) (p : ℕ) (names : Naming) (start : State) (n : ℕ) (s : Stage) (es : List Event) (printed : List ℕ) → Layable 0 lines
    → place_of (code_of lines) asked.label ≡ Some p → IsLaid 0 lines names → start ≡ begun (code_of lines) asked.label start_world [] → IsRun names (code_of lines) start asked.most n s
    → es ≡ (times (step names (code_of lines)) n start).events → printed ≡ event_lines es ++ steps_line n s → LinesTrace asked lines (Does [] printed)
runs asked lines p names start n s es printed layable at laid begins run seen is =
    subst (λ (l : List ℕ). LinesTrace asked lines (Does [] l))
    (ap (λ (t : State). event_lines (times (step names (code_of lines)) n t).events ++ steps_line n s) (sym begins) ∙ ap (λ (l : List Event). event_lines l ++ steps_line n s) (sym seen) ∙ sym is)
    (ran layable p at names laid n s (subst (λ (t : State). IsRun names (code_of lines) t asked.most n s) begins run))
