-- How a step goes on, how a run ends, and the words for how it stands.
use Rattle.std.specs.Prelude.{ℕ, List, Option, Some, None, codes, slice_get}
use Rattle.thumb_machine.specs.declared.world.End.{End}
use Rattle.thumb_machine.specs.declared.world.End.TheVariants as end
use Rattle.thumb_machine.specs.declared.position.Stage.{Stage}
use Rattle.thumb_machine.specs.declared.position.Stage.TheVariants as stage
use Rattle.thumb_model.specs.Listing.{Code, Place, Op, Word}
use Rattle.thumb_model.specs.Naming.{Naming}
use Rattle.thumb_model.specs.States.{State, Position, Here, Ended, Continuation, Over, Event, Load, Store, Call, Sys, Left, Fault, Astray, Fell}
use Rattle.thumb_model.specs.Acts.{act}
use Rattle.thumb_model.specs.Steps.{around_of}

-- how the step from a state goes on
abbrev pub next_on : Naming → Code → ℕ → Option Place → State → Continuation
next_on names code p None s = Over
next_on names code p (Some (Word v)) s = Over
next_on names code p (Some (Op i mention)) s = (act (around_of names code p i mention) i s.world).next

abbrev pub next_at : Naming → Code → Position → State → Continuation
next_at names code Ended s = Over
next_at names code (Here p) s = next_on names code p (slice_get code.places p) s

-- the end of a run whose last event is this, if it ends one
abbrev pub end_of : Event → Option End
end_of (Load address size) = None
end_of (Store address size value) = None
end_of (Call word arguments) = None
end_of (Sys code values) = None
end_of (Left word registers) = Some end.Left
end_of (Fault address) = Some end.Fault
end_of (Astray word) = Some end.Astray
end_of Fell = Some end.Fell

-- the stage that reports this end
abbrev pub stage_of : End → Stage
stage_of end.Left = stage.Left
stage_of end.Fault = stage.Fault
stage_of end.Astray = stage.Astray
stage_of end.Fell = stage.Fell

-- the word for how a run stands
abbrev pub stage_word : Stage → List ℕ
stage_word stage.Going = codes "going"
stage_word stage.Left = codes "left"
stage_word stage.Fault = codes "fault"
stage_word stage.Astray = codes "astray"
stage_word stage.Fell = codes "fell"
stage_word stage.Wants = codes "wants"
