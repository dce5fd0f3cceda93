-- The state of a machine, the events that can be seen of its run, and the shape of what an instruction does to it.
use Rattle.std.specs.Prelude.{◌≡◌, ℕ, ◌%◌, ◌<◌, ◌==◌, List, [], ◌∷◌, if◌then◌else◌}
use Rattle.thumb_model.specs.Effect.{Values, AreWords, assigned, sp, lr, n_flag, z_flag, c_flag, v_flag}

-- ---- states ----

-- what can be seen of a run: accesses, calls and system instructions, and how it ended
pub data Event : Type 0 where
  Load : (address size : ℕ) → Event
  Store : (address size value : ℕ) → Event
  Call : (word : ℕ) (arguments : List ℕ) → Event
  Sys : (code : ℕ) (values : List ℕ) → Event
  Left : (word : ℕ) (registers : List ℕ) → Event
  Fault : (address : ℕ) → Event
  Astray : (word : ℕ) → Event
  Fell : Event

-- an answer of the outside to a call, a system instruction or a load from a device: new values of items, and bytes that it wrote, by address
pub record Answer : Type 0 where
  pub values : Values
  pub bytes : List (ℕ × ℕ)

-- what the machine holds: its items, the bytes of its memory, and the answers that are left
pub record World : Type 0 where
  pub values : Values
  pub memory : ℕ → ℕ
  pub answers : List Answer

abbrev pub AreBytes : List (ℕ × ℕ) → Type 0
AreBytes [] = Unit {0}
AreBytes (b ∷ bs) = (b.1 < 256) × AreBytes bs

abbrev pub AreAnswers : List Answer → Type 0
AreAnswers [] = Unit {0}
AreAnswers (a ∷ rest) = AreWords a.values × AreBytes a.bytes × AreAnswers rest

-- each number is in its range, and sp's two low bits are zero
pub record IsWorld (w : World) : Type 0 where
  pub values : AreWords w.values
  pub stack : w.values sp % 4 ≡ 0
  pub memory : (a : ℕ) → w.memory a < 256
  pub answers : AreAnswers w.answers

-- where the machine is: at a place, or ended
pub data Position : Type 0 where
  Here : (at : ℕ) → Position
  Ended : Position

pub record State : Type 0 where
  pub world : World
  pub at : Position
  pub events : List Event

-- ---- what an instruction does ----

-- where a direct branch goes: to a place, or to an external word
pub data Target : Type 0 where
  Inside : (at : ℕ) → Target
  External : (word : ℕ) → Target

-- where an indirect branch (BX, BLX, POP with pc) goes: to a place, out of the listing, or nowhere
pub data Landing : Type 0 where
  Goes : (at : ℕ) → Landing
  Leaves : Landing
  Strays : Landing

-- what an instruction's place supplies, by a naming and a listing or by an image: branch target, literal, return word, and where words land
pub record Around : Type 0 where
  pub target : Target
  pub literal : ℕ
  pub link : ℕ
  pub lands : ℕ → Landing

-- where a run goes on: after the instruction, at it again for want of answers, at a place, or nowhere as it is over
pub data Continuation : Type 0 where
  On : Continuation
  Stay : Continuation
  To : (at : ℕ) → Continuation
  Over : Continuation

-- what an instruction does
pub record Act : Type 0 where
  pub outputs : List (ℕ × ℕ)
  pub memory : ℕ → ℕ
  pub answers : List Answer
  pub events : List Event
  pub next : Continuation

-- the registers that the event `Left` shows: r0 to r11, sp and lr
abbrev pub registers_left : List ℕ
registers_left = 0 ∷ 1 ∷ 2 ∷ 3 ∷ 4 ∷ 5 ∷ 6 ∷ 7 ∷ 8 ∷ 9 ∷ 10 ∷ 11 ∷ 13 ∷ 14 ∷ []

-- puts values into items, and goes on as `next` says
abbrev pub puts : List (ℕ × ℕ) → Continuation → World → Act
puts os next w = record { outputs = os; memory = w.memory; answers = w.answers; events = []; next = next }

-- ends the run with an event
abbrev pub ends : Event → World → Act
ends e w = record { outputs = []; memory = w.memory; answers = w.answers; events = e ∷ []; next = Over }

-- adds an event and goes on
abbrev pub tells : Event → World → Act
tells e w = record { outputs = []; memory = w.memory; answers = w.answers; events = e ∷ []; next = On }

-- goes on with the next answer, or stays until there is one
abbrev pub takes : (Answer → List Answer → Act) → World → List Answer → Act
takes go w [] = puts [] Stay w
takes go w (a ∷ rest) = go a rest

-- does the act, or where the address isn't a multiple of the size ends the run with a fault
abbrev pub aligned : ℕ → ℕ → World → Act → Act
aligned address size w a = if address % size == 0 then a else ends (Fault address) w

-- what a call of the outside shows: r0 to r3 and sp; and what its answer sets: r0 to r3, r12, lr and the flags
abbrev pub handed : List ℕ
handed = 0 ∷ 1 ∷ 2 ∷ 3 ∷ sp ∷ []

abbrev pub answered : List ℕ
answered = 0 ∷ 1 ∷ 2 ∷ 3 ∷ 12 ∷ lr ∷ n_flag ∷ z_flag ∷ c_flag ∷ v_flag ∷ []

-- what the answer to SVC sets: r0 to r3 and r12; its event shows these and sp
abbrev pub served : List ℕ
served = 0 ∷ 1 ∷ 2 ∷ 3 ∷ 12 ∷ []

-- items, each with its value
abbrev pub all_at : List ℕ → Values → List (ℕ × ℕ)
all_at [] v = []
all_at (x ∷ xs) v = (x, v x) ∷ all_at xs v

-- the memory after bytes were written by address; of two at one address the later counts
abbrev pub with_bytes : List (ℕ × ℕ) → (ℕ → ℕ) → ℕ → ℕ
with_bytes [] memory = memory
with_bytes (b ∷ bs) memory = with_bytes bs (assigned (b ∷ []) memory)

-- adds an event, and takes some items and the bytes of an answer
abbrev pub answers_with : List ℕ → Event → World → Answer → List Answer → Act
answers_with xs e w a rest = record { outputs = all_at xs a.values; memory = with_bytes a.bytes w.memory; answers = rest; events = e ∷ []; next = On }
