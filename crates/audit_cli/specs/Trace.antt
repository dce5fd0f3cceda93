-- The outcome of `trace`: the events of a run of a listing, from a fixed state and with fixed answers, so that the trace is determined.
use Rattle.std.specs.Prelude.{ℕ, zero, suc, ◌+◌, ◌==◌, ◌||◌, nat_lt, List, [], ◌∷◌, if◌then◌else◌, ◌≡◌, ◌<◌, ◌≤◌, false, true, ◌++◌, Some, ◌/◌, ◌%◌, codes, None}
use Rattle.ascii_scan.specs.Numeral.{hex_digit}
use Rattle.thumb_model.specs.Effect.{Values, sp, lr}
use Rattle.thumb_model.specs.Naming.{Naming}
use Rattle.thumb_model.specs.States.{Answer, World, State, Event, Stay, Load, Store, Call, Sys, Left, Fault, Astray, Fell}
use Rattle.thumb_model.specs.Steps.{step, times}
use Rattle.thumb_model.specs.Listing.{Code, Name, ListingLine, code_of, place_of}
use Rattle.thumb_model.specs.Same.{has_ended, begun}
use Rattle.thumb_machine.specs.declared.world.End.{End}
use Rattle.thumb_machine.specs.declared.position.Stage.{Stage}
use Rattle.thumb_machine.specs.declared.position.Stage.TheVariants as stage
use Rattle.thumb_machine.specs.Stages.{end_of, next_at, stage_of, stage_word}
use Rattle.std.specs.List.{flat_map}
use Rattle.audit_cli.specs.Printed.{printed, and_number, refusal_line, IsUnread, IsUnlaid}
use Rattle.thumb_model.specs.Layout.{Layable}
use Rattle.listing_parser.specs.Parsing.{IsListing}
use Rattle.thumb_machine.specs.Laid.{IsLaid}
use Rattle.command_runs.specs.Plans.{Outcome, Refuses, Does}
use Rattle.audit_cli.specs.declared.refusal.Refusal.{Refusal}
use Rattle.audit_cli.specs.declared.refusal.Refusal.TheVariants as refusal

-- ---- where a run begins ----

-- sp is 0x20001000, lr 0xffffffff, and all else 0
abbrev pub start_values : Values
start_values = λ x. if x == sp then 536875008 else if x == lr then 4294967295 else 0

-- the n-th answer: n in r0 to r3, r12 and lr, flags 0 and no bytes
abbrev pub numbered_answer : ℕ → Answer
numbered_answer n = record { values = λ x. if nat_lt x 4 || (x == 12) || (x == lr) then n else 0; bytes = [] }

-- k answers, from the n-th on
unfoldable pub answers_from : ℕ → ℕ → List Answer
answers_from n zero = []
answers_from n (suc k) = numbered_answer n ∷ answers_from (n + 1) k

abbrev pub start_world : World
start_world = record { values = start_values; memory = λ a. 0; answers = answers_from 1 256 }

-- ---- a run of at most so many steps ----

-- a step can be taken: the run hasn't ended, and the step doesn't need more answers than are left
pub record GoesOn (names : Naming) (code : Code) (s : State) : Type 0 where
  pub running : has_ended s.at ≡ false
  pub enough : next_at names code s.at s ≡ Stay → ⊥

-- how a run stands after n of at most `most` steps: all were taken, or the next one needs more answers than are left, or the last one ended the run, as
-- its last event says
pub data StandsAfter (names : Naming) (code : Code) (most n : ℕ) (s : State) : Stage → Type 0 where
  goes : has_ended s.at ≡ false → n ≡ most → StandsAfter names code most n s stage.Going
  wants : n < most → next_at names code s.at s ≡ Stay → StandsAfter names code most n s stage.Wants
  ended : has_ended s.at ≡ true → (front : List Event) (last : Event) (e : End) → s.events ≡ front ++ last ∷ [] → end_of last ≡ Some e → StandsAfter names code most n s (stage_of e)

-- a run takes n steps, at most `most`: each of them can be taken, and then it stands as `s` says
pub record IsRun (names : Naming) (code : Code) (start : State) (most n : ℕ) (s : Stage) : Type 0 where
  pub within : n ≤ most
  pub goes_on : (k : ℕ) → k < n → GoesOn names code (times (step names code) k start)
  pub stands : StandsAfter names code most n (times (step names code) n start) s

-- ---- words ----

-- eight hexadecimal digits, the highest first
abbrev pub word_text : ℕ → List ℕ
word_text w =
    hex_digit (w / 268435456) ∷ hex_digit (w / 16777216 % 16) ∷ hex_digit (w / 1048576 % 16) ∷ hex_digit (w / 65536 % 16)
    ∷ hex_digit (w / 4096 % 16) ∷ hex_digit (w / 256 % 16) ∷ hex_digit (w / 16 % 16) ∷ hex_digit (w % 16) ∷ []

-- ` ` and a word
abbrev pub and_word : ℕ → List ℕ
and_word w = 32 ∷ word_text w

abbrev pub and_words : List ℕ → List ℕ
and_words ws = flat_map and_word ws

-- ---- events ----

-- `load A S`, `store A S V`, `call W R0 R1 R2 R3 SP`, `sys CODE V ..`, `left W R0 .. R11 SP LR`, `fault A`, `astray W`, `fell`
abbrev pub event_line : Event → List ℕ
event_line (Load address size) = printed (codes "load" ++ and_word address ++ and_number size)
event_line (Store address size value) = printed (codes "store" ++ and_word address ++ and_number size ++ and_word value)
event_line (Call word arguments) = printed (codes "call" ++ and_word word ++ and_words arguments)
event_line (Sys code values) = printed (codes "sys" ++ and_number code ++ and_words values)
event_line (Left word registers) = printed (codes "left" ++ and_word word ++ and_words registers)
event_line (Fault address) = printed (codes "fault" ++ and_word address)
event_line (Astray word) = printed (codes "astray" ++ and_word word)
event_line Fell = printed (codes "fell")

abbrev pub event_lines : List Event → List ℕ
event_lines es = flat_map event_line es

-- ---- the end of a run ----

-- `steps N STAGE`
abbrev pub steps_line : ℕ → Stage → List ℕ
steps_line n s = printed (codes "steps" ++ and_number n ++ (32 ∷ stage_word s))

-- ---- the whole ----

-- what is asked for: the label where the run begins, and the greatest number of steps
pub record TraceArguments : Type 0 where
  pub label : Name
  pub most : ℕ

-- the outcome for lines: they are refused at the first one that can't be laid out, or because there is no such code label; or they run from it under the
-- naming of their layout
pub data LinesTrace (asked : TraceArguments) (lines : List ListingLine) : Outcome → Type 0 where
  unlaid : (r : Refusal) → IsUnlaid 0 lines r → LinesTrace asked lines (Refuses (refusal_line r))
  unlabelled : Layable 0 lines → place_of (code_of lines) asked.label ≡ None → LinesTrace asked lines (Refuses (refusal_line refusal.Label))
  ran : Layable 0 lines → (p : ℕ) → place_of (code_of lines) asked.label ≡ Some p → (names : Naming) → IsLaid 0 lines names
      → (n : ℕ) (s : Stage) → IsRun names (code_of lines) (begun (code_of lines) asked.label start_world []) asked.most n s
      → LinesTrace asked lines (Does [] (event_lines (times (step names (code_of lines)) n (begun (code_of lines) asked.label start_world [])).events ++ steps_line n s))

-- the outcome for a text: it is refused at the first line that makes it no listing, or that of its lines
pub data Traces (asked : TraceArguments) (text : List ℕ) : Outcome → Type 0 where
  unread : (r : Refusal) → IsUnread text r → Traces asked text (Refuses (refusal_line r))
  read : (lines : List ListingLine) → IsListing text lines → (o : Outcome) → LinesTrace asked lines o → Traces asked text o

-- `trace` takes one text
abbrev pub TraceComesTo : TraceArguments → List (List ℕ) → Outcome → Type 0
TraceComesTo asked texts o = (text : List ℕ) × (texts ≡ text ∷ []) × Traces asked text o
