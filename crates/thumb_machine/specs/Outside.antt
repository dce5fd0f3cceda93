-- The model's events and answers of the machine's.
use Rattle.std.specs.Prelude.{ℕ, ◌==◌, nat_lt, List, map, slice_index, if◌then◌else◌}
use Rattle.std.specs.Int.{bit_at}
use Rattle.thumb_machine.specs.declared.event.Event.{Event}
use Rattle.thumb_machine.specs.declared.event.Event.TheVariants as event
use Rattle.thumb_machine.specs.declared.answers.Answer.{Answer}
use Rattle.thumb_machine.specs.declared.answers.Asked.{Asked}
use Rattle.thumb_machine.specs.declared.answers.Asked.TheVariants as asked
use Rattle.thumb_model.specs.Effect.{Values, lr, n_flag, z_flag, c_flag, v_flag}
use Rattle.thumb_model.specs.States.{Load, Store, Call, Sys, Left, Fault, Astray, Fell, answered, served}
use Rattle.thumb_model.specs.States as model

abbrev pub event_of : Event → model.Event
event_of (event.Load address size) = Load address size
event_of (event.Store address size value) = Store address size value
event_of (event.Call word arguments) = Call word arguments
event_of (event.Sys code values) = Sys code values.items
event_of (event.Left word registers) = Left word registers
event_of (event.Fault address) = Fault address
event_of (event.Astray word) = Astray word
event_of event.Fell = Fell

abbrev pub events_of : List Event → List model.Event
events_of es = map event_of es

-- the words of r0 to r3, r12 and lr, and the flags N, Z, C, V as bits 3 to 0; every other item is 0
abbrev pub answer_values : Answer → Values
answer_values a = λ x.
    if nat_lt x 4 then slice_index a.words x
    else if x == 12 then slice_index a.words 4
    else if x == lr then slice_index a.words 5
    else if x == n_flag then bit_at a.nzcv 3
    else if x == z_flag then bit_at a.nzcv 2
    else if x == c_flag then bit_at a.nzcv 1
    else if x == v_flag then bit_at a.nzcv 0
    else 0

-- the items that the answer to a call sets, and that to a service (SVC)
abbrev pub brought : Asked → List ℕ
brought asked.Call = answered
brought asked.Service = served

abbrev pub answer_of : Answer → model.Answer
answer_of a = record { values = answer_values a; bytes = a.bytes }

abbrev pub answers_of : List Answer → List model.Answer
answers_of list = map answer_of list
