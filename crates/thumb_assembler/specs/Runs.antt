-- Runs of an image, and which run of the listing each follows.
use Rattle.std.specs.Prelude.{◌≡◌, ℕ, zero, suc, ◌+◌, ◌-◌, ◌*◌, ◌%◌, ◌^◌, ◌&&◌, Bool, true, nat_le, nat_lt, List, length, slice_index, ℤ, pos, negsuc, if◌then◌else◌, ◌≤◌, false, [], ◌∷◌, None, IsSome}
use Rattle.thumb_instr.specs.declared.instr.Instr.{Instr}
use Rattle.thumb_instr.specs.declared.instr.Instr.TheVariants as instr
use Rattle.thumb_instr.specs.Items.{bytes_of}
use Rattle.thumb_table.specs.Table.{Encodes}
use Rattle.thumb_model.specs.Layout.{instr_size, literal_base, Layable, end_of, label_address}
use Rattle.thumb_model.specs.Naming.{is_odd, laid}
use Rattle.thumb_model.specs.States.{Target, Inside, External, Landing, Goes, Leaves, Strays, Around, Act, Continuation, Over, Here, Ended, State, World, IsWorld, Event, Load, Store, Call, Sys, Left, Fault, Astray, Fell}
use Rattle.thumb_model.specs.Acts.{act}
use Rattle.thumb_model.specs.Steps.{set_bit, does, falls, step, times}
use Rattle.thumb_model.specs.Listing.{Name, ListingLine, code_of, place_of}
use Rattle.thumb_model.specs.Same.{Alike, here_or_ended, begun}
use Rattle.listing_parser.specs.Parsing.{IsListing, text_of_lines}
use Rattle.thumb_assembler.specs.Bytes.{AreImage, first_flaw}

-- The machine that runs an image: instructions act as in the listing, with addresses in place of the listing's places.

-- an image in memory, and where its code ends
pub record Loaded : Type 0 where
  pub base : ℕ
  pub bytes : List ℕ
  pub high : ℕ

-- ---- memory: a byte outside the image is 0 ----

abbrev pub byte_at : Loaded → ℕ → ℕ
byte_at m a = if nat_le m.base a then slice_index m.bytes (a - m.base) else 0

abbrev pub half_at : Loaded → ℕ → ℕ
half_at m a = byte_at m a + 256 * byte_at m (a + 1)

abbrev pub word_at : Loaded → ℕ → ℕ
word_at m a = half_at m a + 65536 * half_at m (a + 2)

-- ---- where branches go ----

-- the addresses of code
abbrev pub is_code_address : Loaded → ℕ → Bool
is_code_address m a = nat_le m.base a && nat_lt a m.high

-- a branch to a word from a register or memory: an odd word leads to the even address below it, in the code or outside; an even one leads nowhere
abbrev pub lands_at : Loaded → ℕ → Landing
lands_at m word = if is_odd word then (if is_code_address m (word - 1) then Goes (word - 1) else Leaves) else Strays

-- the address that is a distance away from an instruction
abbrev pub aim_from : ℕ → ℤ → ℕ
aim_from a (pos n) = (a + 4 + n) % 2 ^ 32
aim_from a (negsuc n) = (a + 4 + (2 ^ 32 - (n + 1))) % 2 ^ 32

-- a direct branch out of the code is an exit with the target's address, with bit 0 set
abbrev pub goes_to : Loaded → ℕ → Target
goes_to m a = if is_code_address m a then Inside a else External (set_bit a)

abbrev pub target_in : Loaded → ℕ → Instr → Target
target_in m a (instr.BranchIf c d) = goes_to m (aim_from a (bytes_of 128 d.field))
target_in m a (instr.Branch d) = goes_to m (aim_from a (bytes_of 1024 d.field))
target_in m a (instr.Call d) = goes_to m (aim_from a (bytes_of 8388608 d.field))
target_in m a i = External 0

-- ---- steps ----

-- a literal is read from the image, and ADR gives its address
abbrev pub literal_in : Loaded → ℕ → Instr → ℕ
literal_in m a (instr.Literal t d) = word_at m (literal_base a + 4 * d.number)
literal_in m a (instr.Address t d) = (literal_base a + 4 * d.number) % 2 ^ 32
literal_in m a i = 0

-- the address after an instruction
abbrev pub following : ℕ → Instr → ℕ
following a i = (a + instr_size i) % 2 ^ 32

abbrev pub around_in : Loaded → ℕ → Instr → Around
around_in m a i = record { target = target_in m a i; literal = literal_in m a i; link = set_bit (following a i); lands = lands_at m }

-- an instruction is encoded at an address of the image
pub record IsFetched (m : Loaded) (a : ℕ) (i : Instr) : Type 0 where
  pub within : (nat_le m.base a && nat_lt a (m.base + length m.bytes)) ≡ true
  pub encoded : Encodes i (half_at m a) (half_at m (a + 2))

-- the effect of an instruction at an address
abbrev pub act_in : Loaded → ℕ → Instr → State → Act
act_in m a i s = act (around_in m a i) i s.world

-- one step, with its continuation: an instruction acts, there is none at the address, or the run had ended already
pub data ImageStep (m : Loaded) (s : State) : Continuation → State → Type 0 where
  stays : s.at ≡ Ended → ImageStep m s Over s
  acts : (a : ℕ) (i : Instr) → s.at ≡ Here a → IsFetched m a i → ImageStep m s (act_in m a i s).next (does a (following a i) (act_in m a i s) s)
  falls_out : (a : ℕ) → s.at ≡ Here a → ((i : Instr) → IsFetched m a i → ⊥) → ImageStep m s Over (falls s)

-- a number of steps, whatever their continuations
pub data ImageSteps (m : Loaded) : ℕ → State → State → Type 0 where
  none : (s : State) → ImageSteps m zero s s
  more : (n : ℕ) (next : Continuation) (r s t : State) → ImageStep m r next s → ImageSteps m n s t → ImageSteps m (suc n) r t

-- The image's run does what the listing's does.

-- a listing was assembled at a base: its layout has no fault, and these bytes are its image
pub record IsAssembled (base : ℕ) (lines : List ListingLine) (bytes : List ℕ) : Type 0 where
  pub listed : IsListing (text_of_lines lines) lines
  pub layable : Layable base lines
  pub even : base % 2 ≡ 0
  pub low : end_of base lines ≤ 2 ^ 29
  pub sound : first_flaw base lines ≡ None
  pub image : AreImage base lines bytes

-- the image in memory, whose code ends where the laid naming says
abbrev pub loaded : ℕ → (Name → ℕ) → List ListingLine → List ℕ → Loaded
loaded base set lines bytes = record { base = base; bytes = bytes; high = (laid base set lines).high }

-- ---- runs that are lost ----

abbrev pub is_loss : Event → Bool
is_loss (Load address size) = false
is_loss (Store address size value) = false
is_loss (Call word arguments) = false
is_loss (Sys code values) = false
is_loss (Left word registers) = false
is_loss (Fault address) = false
is_loss (Astray word) = true
is_loss Fell = true

abbrev pub ends_in_loss : List Event → Bool
ends_in_loss [] = false
ends_in_loss (e ∷ []) = is_loss e
ends_in_loss (e ∷ (d ∷ es)) = ends_in_loss (d ∷ es)

-- the run ended by a branch that leads nowhere, or where no instruction is
pub record IsLost (s : State) : Type 0 where
  pub ended : s.at ≡ Ended
  pub last : ends_in_loss s.events ≡ true

-- ---- the two runs ----

-- the image's run reaches, after some number of steps from `start`, a state that is observably the same as s
pub record Meets (image : Loaded) (start s : State) : Type 0 where
  pub steps : ℕ
  pub state : State
  pub run : ImageSteps image steps start state
  pub alike : Alike s state

abbrev pub begun_in : ℕ → List ListingLine → Name → World → List Event → State
begun_in base lines label w es = record { world = w; at = here_or_ended (label_address label base lines); events = es }

-- under the laid naming: while the listing's run from a code label isn't lost, the image's run reaches each of its states
abbrev pub ImageFollows : ℕ → (Name → ℕ) → List ListingLine → List ℕ → List ListingLine → Type 0
ImageFollows base set lines bytes given =
    (label : Name) → IsSome (place_of (code_of given) label) → (w : World) → IsWorld w → (es : List Event) → (n : ℕ) → (IsLost (times (step (laid base set lines) (code_of given)) n (begun (code_of given) label w es)) → ⊥)
    → Meets (loaded base set lines bytes) (begun_in base lines label w es) (times (step (laid base set lines) (code_of given)) n (begun (code_of given) label w es))
