-- Memory: loads and stores of one value, and of lists of registers.
use Rattle.std.specs.Prelude.{ℕ, zero, suc, ◌+◌, ◌-◌, ◌*◌, ◌/◌, ◌%◌, ◌^◌, ◌==◌, Bool, nat_le, List, [], ◌∷◌, length, drop, if◌then◌else◌}
use Rattle.word_bits.specs.Word.{sign_extended}
use Rattle.thumb_instr.specs.declared.operation.Access.{Access}
use Rattle.thumb_instr.specs.declared.operation.Access.TheVariants as access
use Rattle.thumb_model.specs.Effect.{assigned, written_to}
use Rattle.thumb_model.specs.States.{Event, Load, Store, Answer, World, On, Stay, Act, puts, takes, aligned}

-- from 0x40000000 up there are devices
abbrev pub is_device : ℕ → Bool
is_device address = nat_le 1073741824 address

abbrev pub access_size : Access → ℕ
access_size access.Str = 4
access_size access.Strh = 2
access_size access.Strb = 1
access_size access.Ldrsb = 1
access_size access.Ldr = 4
access_size access.Ldrh = 2
access_size access.Ldrb = 1
access_size access.Ldrsh = 2

-- the little-endian number of so many bytes from an address on
abbrev pub value_at : (ℕ → ℕ) → ℕ → ℕ → ℕ
value_at memory address zero = 0
value_at memory address (suc n) = memory address + 256 * value_at memory (address + 1) n

-- memory with a number's bytes from an address on, little-endian
abbrev pub with_value : (ℕ → ℕ) → ℕ → ℕ → ℕ → ℕ → ℕ
with_value memory address zero value x = memory x
with_value memory address (suc n) value x = if x == address then value % 256 else with_value memory (address + 1) n (value / 256) x

-- the memory after a store: unchanged where the address is a device's
abbrev pub stored : (ℕ → ℕ) → ℕ → ℕ → ℕ → ℕ → ℕ
stored memory address size value = if is_device address then memory else with_value memory address size value

-- what a load puts into its register: the value cut to its size and extended
abbrev pub loaded : Access → ℕ → ℕ
loaded access.Ldrsb x = sign_extended x 8
loaded access.Ldrsh x = sign_extended x 16
loaded a x = x % 256 ^ access_size a

abbrev pub gets : Access → ℕ → ℕ → ℕ → World → List Answer → Act
gets a t address value w rest = record { outputs = (t, loaded a value) ∷ []; memory = w.memory; answers = rest; events = Load address (access_size a) ∷ []; next = On }

-- a load into t
abbrev pub loads : Access → ℕ → ℕ → World → Act
loads a t address w = aligned address (access_size a) w (
    if is_device address then takes (λ answer rest. gets a t address (answer.values 0) w rest) w w.answers
    else gets a t address (value_at w.memory address (access_size a)) w w.answers)

-- a store of a value
abbrev pub stores : Access → ℕ → ℕ → World → Act
stores a address value w = aligned address (access_size a) w (record {
  outputs = [];
  memory = stored w.memory address (access_size a) value;
  answers = w.answers;
  events = Store address (access_size a) (value % 256 ^ access_size a) ∷ [];
  next = On;
})

-- a load into t, or a store of the value that it has
abbrev pub accesses : Access → ℕ → ℕ → ℕ → World → Act
accesses access.Str t address value w = stores access.Str address value w
accesses access.Strh t address value w = stores access.Strh address value w
accesses access.Strb t address value w = stores access.Strb address value w
accesses access.Ldrsb t address value w = loads access.Ldrsb t address w
accesses access.Ldr t address value w = loads access.Ldr t address w
accesses access.Ldrh t address value w = loads access.Ldrh t address w
accesses access.Ldrb t address value w = loads access.Ldrb t address w
accesses access.Ldrsh t address value w = loads access.Ldrsh t address w

-- ---- lists of registers: a word each, the lowest register at the lowest address ----

abbrev pub next_word : ℕ → ℕ
next_word address = (address + 4) % 2 ^ 32

-- the address behind as many words as the list has, and the one that many words below
abbrev pub behind : List ℕ → ℕ → ℕ
behind [] address = address
behind (x ∷ xs) address = behind xs (next_word address)

abbrev pub below : List ℕ → ℕ → ℕ
below xs address = (address + 2 ^ 32 - 4 * length xs) % 2 ^ 32

abbrev pub stored_words : (ℕ → ℕ) → ℕ → List ℕ → ℕ → ℕ
stored_words memory address [] = memory
stored_words memory address (x ∷ xs) = stored_words (stored memory address 4 x) (next_word address) xs

abbrev pub store_events : ℕ → List ℕ → List Event
store_events address [] = []
store_events address (x ∷ xs) = Store address 4 x ∷ store_events (next_word address) xs

-- stores words from an address on, and writes `back` to the base
abbrev pub stores_many : ℕ → ℕ → ℕ → List ℕ → World → Act
stores_many base back address words w = aligned address 4 w (record {
  outputs = (base, written_to base back) ∷ [];
  memory = stored_words w.memory address words;
  answers = w.answers;
  events = store_events address words;
  next = On;
})

-- the word at an address, and the answers that are left after it was read
abbrev pub first_word : List Answer → ℕ
first_word [] = 0
first_word (a ∷ rest) = a.values 0

abbrev pub word_at : (ℕ → ℕ) → List Answer → ℕ → ℕ
word_at memory answers address = loaded access.Ldr (if is_device address then first_word answers else value_at memory address 4)

abbrev pub left_at : List Answer → ℕ → List Answer
left_at answers address = if is_device address then drop 1 answers else answers

-- the registers' words from an address on, and the answers that are left after they were read
abbrev pub words_from : (ℕ → ℕ) → List Answer → ℕ → List ℕ → List (ℕ × ℕ)
words_from memory answers address [] = []
words_from memory answers address (x ∷ xs) = (x, word_at memory answers address) ∷ words_from memory (left_at answers address) (next_word address) xs

abbrev pub left_from : List Answer → ℕ → List ℕ → List Answer
left_from answers address [] = answers
left_from answers address (x ∷ xs) = left_from (left_at answers address) (next_word address) xs

-- how many of the words are at devices
abbrev pub device_words : ℕ → List ℕ → ℕ
device_words address [] = 0
device_words address (x ∷ xs) = if is_device address then suc (device_words (next_word address) xs) else device_words (next_word address) xs

abbrev pub load_events : ℕ → List ℕ → List Event
load_events address [] = []
load_events address (x ∷ xs) = Load address 4 ∷ load_events (next_word address) xs

-- does the act, or stays where more words are at devices than answers are left
abbrev pub enough : ℕ → List ℕ → World → Act → Act
enough address xs w a = if nat_le (device_words address xs) (length w.answers) then a else puts [] Stay w

-- what LDM and POP put: the registers' words, and the address behind all words into a base that isn't among the registers
abbrev pub many_outputs : ℕ → ℕ → ℕ → List ℕ → World → List (ℕ × ℕ)
many_outputs base back address xs w =
    (base, written_to base (assigned (words_from w.memory w.answers address xs) (λ x. back) base)) ∷ words_from w.memory w.answers address xs

abbrev pub loads_many : ℕ → ℕ → List ℕ → World → Act
loads_many base address xs w = aligned address 4 w (enough address xs w (record {
  outputs = many_outputs base (behind xs address) address xs w;
  memory = w.memory;
  answers = left_from w.answers address xs;
  events = load_events address xs;
  next = On;
}))
