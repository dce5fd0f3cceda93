-- A step keeps words in the registers, bytes in the memory, and 0 or 1 in the flags: the instructions' part of `StepsKeepWorlds`.
use Rattle.std.proofs.Common.{◌≡◌, ◌≢◌, ℕ, zero, suc, ◌+◌, ◌*◌, ◌/◌, ◌%◌, ◌^◌, ◌<◌, ◌≤◌, ◌==◌, ◌||◌, nat_le, Bool, true, false, List, [], ◌∷◌, length, drop, map, refl, sym, ap, ◌∙◌, subst, arith, if◌then◌else◌, eq-eqb}
use Rattle.std.specs.Int.{from_bool}
use Rattle.std.proofs.lemmas.Nat.Bits.{bit_at-lt}
use Rattle.std.proofs.Math.Nat.{mod-lt}
use Rattle.word_bits.specs.declared.Sum.{Sum as WordSum}
use Rattle.thumb_instr.specs.declared.instr.Instr.{Instr}
use Rattle.thumb_instr.specs.declared.instr.Instr.TheVariants as instr
use Rattle.thumb_instr.specs.declared.operation.SumOperation.TheVariants as sum
use Rattle.thumb_instr.specs.declared.operation.Operation.{Operation}
use Rattle.thumb_instr.specs.declared.operation.Operation.TheVariants as operation
use Rattle.thumb_instr.specs.declared.operation.ByteOperation.{ByteOperation}
use Rattle.thumb_instr.specs.declared.operation.ByteOperation.TheVariants as byte
use Rattle.thumb_instr.specs.declared.operation.Access.{Access}
use Rattle.thumb_instr.specs.declared.operation.Access.TheVariants as access
use Rattle.thumb_instr.specs.declared.operation.HintOperation.{HintOperation}
use Rattle.thumb_instr.specs.declared.operation.HintOperation.TheVariants as hint
use Rattle.thumb_instr.specs.declared.within.Within.{Within}
use Rattle.thumb_instr.specs.Items.{has}
use Rattle.thumb_instr.specs.Shape.{registers_in, pushed}
use Rattle.thumb_model.specs.Effect.{Values, AreWords, assigned, one_of, sp, lr, written_to, n_flag, z_flag, c_flag, v_flag, outputs, complement, result_flags, sum_flags, result_outputs, shift_outputs, sum_outputs, product, two_outputs, byte_outputs}
use Rattle.thumb_model.specs.States.{with_bytes, World, IsWorld, Answer, AreAnswers, AreBytes, Target, Inside, External, Landing, Goes, Leaves, Strays, Around, Act, Event, Fault, Continuation, On, Stay, To, Over, puts, ends, tells, takes, aligned, answered, served, all_at, answers_with}
use Rattle.thumb_model.specs.Accesses.{is_device, access_size, value_at, with_value, stored, loaded, gets, loads, stores, accesses, next_word, behind, stored_words, stores_many, word_at, left_at, words_from, left_from, device_words, enough, many_outputs, loads_many}
use Rattle.thumb_model.specs.Acts.{act, branches, jumps, calls_out, calls, calls_by, with_pc, popping, pops_to, pops, hints}
use Rattle.thumb_instr.specs.Window.{AreBelow}
use Rattle.thumb_model.proofs.Small.{registers_low}
use Rattle.thumb_model.proofs.Bounds.{sum_small, shift_small, sign_small_8, sign_small_16, extension_small, reversal_small, and_small}
use Rattle.std.proofs.lemmas.Nat.{or_of_32, xor_of_32}

-- the items hold words, and the stack pointer a multiple of 4
pub record AreHeld (v : Values) : Type 0 where
  pub words : AreWords v
  pub stack : v sp % 4 ≡ 0

-- a word for a register, 0 or 1 for a flag, and a multiple of 4 for the stack pointer
abbrev pub IsValueOf : ℕ × ℕ → Type 0
IsValueOf o = (o.0 < 15 → o.1 < 2 ^ 32) × (15 ≤ o.0 → o.1 < 2) × (o.0 ≡ sp → o.1 % 4 ≡ 0)

-- each of the new values is in the range of its item
abbrev pub AreValues : List (ℕ × ℕ) → Type 0
AreValues [] = Unit {0}
AreValues (o ∷ os) = IsValueOf o × AreValues os

-- the value of an item is in the item's range
pub held_value : (v : Values) → AreHeld v → (x : ℕ) → IsValueOf (x, v x)
held_value v a x = (λ l. a.words.register x l, λ l. a.words.flag x l, λ e. ap (λ y. v y % 4) e ∙ a.stack)

held_at : (os : List (ℕ × ℕ)) (v : Values) → AreValues os → AreHeld v → (x : ℕ) → IsValueOf (x, assigned os v x)
held_at [] v h a x = held_value v a x
held_at (o ∷ os) v h a x =
    elim (x == o.0) as (λ b. (x == o.0) ≡ b → IsValueOf (x, if b then o.1 else assigned os v x)) [
      | true ↦ λ e. let same : x ≡ o.0 = grind arith in subst (λ (y : ℕ). IsValueOf (y, o.1)) (sym same) (h.0)
      | false ↦ λ e. held_at os v h.1 a x
    ] refl

-- values in their ranges stay so when items get new ones in their ranges
pub are_held : (os : List (ℕ × ℕ)) (v : Values) → AreValues os → AreHeld v → AreHeld (assigned os v)
are_held os v h a = record {
  words = record { register = λ x l. (held_at os v h a x).0 l; flag = λ x l. (held_at os v h a x).1 l };
  stack = (held_at os v h a sp).2 refl;
}

-- a word written to a register, by its number
written_at : (n x : ℕ) → n < 15 → x < 2 ^ 32 → IsValueOf (n, written_to n x)
written_at n x l h =
    elim (n == sp) as (λ b. (n == sp) ≡ b → IsValueOf (n, if b then x / 4 * 4 else x)) [
      | true ↦ λ e. (λ m. omega arith, λ m. absurd (omega arith), λ s. omega arith)
      | false ↦ λ e. (λ m. h, λ m. absurd (omega arith), λ s. absurd (let t : (n == sp) ≡ true = grind arith in cc))
    ] refl

-- a word in a register but sp
register_value : (n x : ℕ) → n < 15 → n ≢ sp → x < 2 ^ 32 → IsValueOf (n, x)
register_value n x l ne h = (λ m. h, λ m. absurd (omega arith), λ e. absurd (ne e))

-- a word in a low register
pub low_value : (d : Within 0 8) (x : ℕ) → x < 2 ^ 32 → IsValueOf (d.number, x)
low_value d x h = (λ l. h, λ l. absurd (omega arith), λ e. absurd (omega arith))

-- a word written to a register but pc
pub written_value : (d : Within 0 15) (x : ℕ) → x < 2 ^ 32 → IsValueOf (d.number, written_to d.number x)
written_value d x h = written_at d.number x (omega arith) h

pub bool_small : (b : Bool) → from_bool b < 2
bool_small true = omega arith
bool_small false = omega arith

-- a flag
pub flag_value : (f x : ℕ) → 15 ≤ f → x < 2 → IsValueOf (f, x)
flag_value f x l h = (λ m. absurd (omega arith), λ m. h, λ e. absurd (omega arith))

-- flags of a result are bits
pub result_flag_values : (x : ℕ) → AreValues (result_flags x)
result_flag_values x = (flag_value n_flag _ (omega arith) (bit_at-lt x 31), (flag_value z_flag _ (omega arith) (bool_small (x == 0)), tt))

-- flags of a sum are bits
pub sum_flag_values : (s : WordSum) → AreValues (sum_flags s)
sum_flag_values s =
    (flag_value n_flag _ (omega arith) (bit_at-lt s.value 31), (flag_value z_flag _ (omega arith) (bool_small (s.value == 0)), (flag_value c_flag _ (omega arith) (bool_small s.c), (flag_value v_flag _ (omega arith) (bool_small s.v), tt))))

-- the outputs of a result, of a shift and of a sum
result_values : (d : Within 0 8) (x : ℕ) → x < 2 ^ 32 → AreValues (result_outputs d.number x)
result_values d x h = (low_value d x h, result_flag_values x)

shift_values : (d : Within 0 8) (s : ℕ × Bool) → s.0 < 2 ^ 32 → AreValues (shift_outputs d.number s)
shift_values d s h = (low_value d s.0 h, (flag_value n_flag _ (omega arith) (bit_at-lt s.0 31), (flag_value z_flag _ (omega arith) (bool_small (s.0 == 0)), (flag_value c_flag _ (omega arith) (bool_small s.1), tt))))

sum_values : (d : Within 0 8) (s : WordSum) → s.value < 2 ^ 32 → AreValues (sum_outputs d.number s)
sum_values d s h = (low_value d s.value h, sum_flag_values s)

complement_small : (x : ℕ) → complement x < 2 ^ 32
complement_small x = omega arith

product_small : (x y : ℕ) → product y x < 2 ^ 32
product_small x y = mod-lt (y * x) {m = 2 ^ 32} (omega arith)

-- a row: an operation puts words
two_values : (o : Operation) (d : Within 0 8) (x y c : ℕ) → x < 2 ^ 32 → y < 2 ^ 32 → AreValues (two_outputs o d.number x y c)
two_values operation.And d x y c hx hy = result_values d _ (and_small x y hx hy)
two_values o d x y c hx hy = search (arith, result_values, shift_values, sum_values, result_flag_values, sum_flag_values, shift_small, and_small, or_of_32, xor_of_32, complement_small, product_small)

byte_values : (o : ByteOperation) (d : Within 0 8) (x n : ℕ) → n < 256 → AreValues (byte_outputs o d.number x n)
byte_values byte.Mov d x n h = result_values d n (omega arith)
byte_values byte.Cmp d x n h = sum_flag_values _
byte_values byte.Add d x n h = sum_values d _ (sum_small sum.Add x n)
byte_values byte.Sub d x n h = sum_values d _ (sum_small sum.Sub x n)

low_word : (v : Values) → AreHeld v → (d : Within 0 8) → v d.number < 2 ^ 32
low_word v a d = a.words.register d.number (omega arith)

-- a row: an instruction puts words
pub values_of : (i : Instr) (v : Values) → AreHeld v → AreValues (outputs i v)
values_of (instr.Mov d m) v a = (written_value d _ (a.words.register m.number (omega arith)), tt)
values_of (instr.Two o d m) v a = two_values o d _ _ _ (a.words.register d.number (omega arith)) (a.words.register m.number (omega arith))
values_of (instr.TwoNumber o d i) v a = byte_values o d (v d.number) i.number (omega arith)
values_of (instr.Add r) v a = (written_value r.target _ (sum_small sum.Add (v r.target.number) (v r.source.number)), tt)
values_of (instr.StackMove s i) v a = (written_at sp _ (omega arith) (sum_small s (v sp) (4 * i.number)), tt)
values_of i v a = search (arith, result_values, shift_values, sum_values, sum_flag_values, low_value, sum_small, shift_small, extension_small, reversal_small, low_word v a)

-- ---- what an act leaves is in its range ----

-- the outputs, memory and answers of the act are in their ranges
pub record IsSafe (a : Act) : Type 0 where
  pub values : AreValues a.outputs
  pub memory : (x : ℕ) → a.memory x < 256
  pub answers : AreAnswers a.answers

-- the literal and the return word that a place supplies are words
pub record AreAroundWords (around : Around) : Type 0 where
  pub literal : around.literal < 2 ^ 32
  pub link : around.link < 2 ^ 32

-- a world's items are in their ranges
pub held_of : (w : World) → IsWorld w → AreHeld w.values
held_of w h = record { words = h.values; stack = h.stack }

puts_safe : (os : List (ℕ × ℕ)) (n : Continuation) (w : World) → AreValues os → IsWorld w → IsSafe (puts os n w)
puts_safe os n w v h = record { values = v; memory = h.memory; answers = h.answers }

ends_safe : (e : Event) (w : World) → IsWorld w → IsSafe (ends e w)
ends_safe e w h = record { values = tt; memory = h.memory; answers = h.answers }

branch_safe : (l : Landing) (word : ℕ) (w : World) → IsWorld w → IsSafe (branches l word w)
branch_safe (Goes p) word w h = puts_safe [] (To p) w tt h
branch_safe Leaves word w h = ends_safe _ w h
branch_safe Strays word w h = ends_safe _ w h

aligned_safe : (address size : ℕ) (w : World) (a : Act) → IsWorld w → IsSafe a → IsSafe (aligned address size w a)
aligned_safe address size w a h s = elim ((address % size) == 0) as (λ t. IsSafe (if t then a else ends (Fault address) w)) [ true ↦ s | false ↦ ends_safe _ w h ]

enough_safe : (address : ℕ) (xs : List ℕ) (w : World) (a : Act) → IsWorld w → IsSafe a → IsSafe (enough address xs w a)
enough_safe address xs w a h s = elim (nat_le (device_words address xs) (length w.answers)) as (λ t. IsSafe (if t then a else puts [] Stay w)) [ true ↦ s | false ↦ puts_safe [] Stay w tt h ]

takes_safe : (go : Answer → List Answer → Act) (w : World) (left : List Answer) → IsWorld w → AreAnswers left → ((a : Answer) (rest : List Answer) → AreWords a.values → AreBytes a.bytes → AreAnswers rest → IsSafe (go a rest)) → IsSafe (takes go w left)
takes_safe go w [] h s k = puts_safe [] Stay w tt h
takes_safe go w (a ∷ rest) h s k = k a rest s.0 s.1 s.2

tells_safe : (e : Event) (w : World) → IsWorld w → IsSafe (tells e w)
tells_safe e w h = record { values = tt; memory = h.memory; answers = h.answers }

-- ---- answers ----

-- what an answer gives to items but sp
all_values : (xs : List ℕ) (v : Values) → AreWords v → one_of sp xs ≡ false → AreValues (all_at xs v)
all_values [] v a h = tt
all_values (x ∷ xs) v a h =
    elim (sp == x) as (λ b. (sp == x) ≡ b → (b || one_of sp xs) ≡ false → IsValueOf (x, v x) × AreValues (all_at xs v)) [
      | true ↦ λ e k. absurd (cc)
      | false ↦ λ e k. ((λ l. a.register x l, λ l. a.flag x l, λ same. absurd (let t : (sp == x) ≡ true = eq-eqb sp x (sym same) in cc)), all_values xs v a k)
    ] refl h

-- memory holds bytes after bytes are written
bytes_small : (bs : List (ℕ × ℕ)) (memory : ℕ → ℕ) → AreBytes bs → ((x : ℕ) → memory x < 256) → (x : ℕ) → with_bytes bs memory x < 256
bytes_small [] memory h k x = k x
bytes_small (b ∷ bs) memory h k x = bytes_small bs (assigned (b ∷ []) memory) h.1 (λ y. elim (y == b.0) as (λ t. (if t then b.1 else memory y) < 256) [ true ↦ h.0 | false ↦ k y ]) x

answer_safe : (xs : List ℕ) (e : Event) (w : World) (a : Answer) (rest : List Answer) → one_of sp xs ≡ false → IsWorld w → AreWords a.values → AreBytes a.bytes → AreAnswers rest → IsSafe (answers_with xs e w a rest)
answer_safe xs e w a rest none h k b r = record { values = all_values xs a.values k none; memory = bytes_small a.bytes w.memory b h.memory; answers = r }

out_safe : (word : ℕ) (w : World) → IsWorld w → IsSafe (calls_out word w)
out_safe word w h = takes_safe _ w w.answers h h.answers (λ a rest k b r. answer_safe answered _ w a rest refl h k b r)

-- ---- memory ----

with_small : (memory : ℕ → ℕ) (address n value : ℕ) → ((x : ℕ) → memory x < 256) → (x : ℕ) → with_value memory address n value x < 256
with_small memory address zero value h x = h x
with_small memory address (suc n) value h x =
    elim (x == address) as (λ t. (if t then value % 256 else with_value memory (address + 1) n (value / 256) x) < 256) [ true ↦ mod-lt value {m = 256} (omega arith) | false ↦ with_small memory (address + 1) n (value / 256) h x ]

stored_small : (memory : ℕ → ℕ) (address n value : ℕ) → ((x : ℕ) → memory x < 256) → (x : ℕ) → stored memory address n value x < 256
stored_small memory address n value h x = elim (is_device address) as (λ t. (let m : ℕ → ℕ = if t then memory else with_value memory address n value in m) x < 256) [ true ↦ h x | false ↦ with_small memory address n value h x ]

stored_words_small : (memory : ℕ → ℕ) (address : ℕ) (xs : List ℕ) → ((x : ℕ) → memory x < 256) → (x : ℕ) → stored_words memory address xs x < 256
stored_words_small memory address [] h x = h x
stored_words_small memory address (y ∷ xs) h x = stored_words_small (stored memory address 4 y) (next_word address) xs (stored_small memory address 4 y h) x

-- a row: what a load puts is a word
loaded_small : (a : Access) (x : ℕ) → loaded a x < 2 ^ 32
loaded_small access.Str x = mod-lt x {m = 2 ^ 32} (omega arith)
loaded_small access.Ldrsb x = sign_small_8 x
loaded_small access.Ldr x = mod-lt x {m = 2 ^ 32} (omega arith)
loaded_small access.Ldrsh x = sign_small_16 x
loaded_small a x = omega arith

gets_safe : (a : Access) (t : Within 0 8) (address value : ℕ) (w : World) (rest : List Answer) → IsWorld w → AreAnswers rest → IsSafe (gets a t.number address value w rest)
gets_safe a t address value w rest h r = record { values = (low_value t _ (loaded_small a value), tt); memory = h.memory; answers = r }

loads_safe : (a : Access) (t : Within 0 8) (address : ℕ) (w : World) → IsWorld w → IsSafe (loads a t.number address w)
loads_safe a t address w h =
    aligned_safe address (access_size a) w _ h (elim (is_device address) as (λ b. IsSafe
    (if b then takes (λ answer rest. gets a t.number address (answer.values 0) w rest) w w.answers else gets a t.number address (value_at w.memory address (access_size a)) w w.answers)) [
      | true ↦ takes_safe _ w w.answers h h.answers (λ answer rest k b r. gets_safe a t address (answer.values 0) w rest h r)
      | false ↦ gets_safe a t address _ w w.answers h h.answers
    ])

stores_safe : (a : Access) (address value : ℕ) (w : World) → IsWorld w → IsSafe (stores a address value w)
stores_safe a address value w h = aligned_safe address (access_size a) w _ h (record { values = tt; memory = stored_small w.memory address (access_size a) value h.memory; answers = h.answers })

-- a row: what an access leaves is in its range
access_safe : (a : Access) (t : Within 0 8) (address value : ℕ) (w : World) → IsWorld w → IsSafe (accesses a t.number address value w)
access_safe access.Str t address value w h = stores_safe access.Str address value w h
access_safe access.Strh t address value w h = stores_safe access.Strh address value w h
access_safe access.Strb t address value w h = stores_safe access.Strb address value w h
access_safe a t address value w h = loads_safe a t address w h

-- ---- lists ----

behind_small : (xs : List ℕ) (address : ℕ) → address < 2 ^ 32 → behind xs address < 2 ^ 32
behind_small [] address h = h
behind_small (x ∷ xs) address h = behind_small xs (next_word address) (mod-lt (address + 4) {m = 2 ^ 32} (omega arith))

left_small : (answers : List Answer) (address : ℕ) → AreAnswers answers → AreAnswers (left_at answers address)
left_small answers address h = elim (is_device address) as (λ b. AreAnswers (if b then drop 1 answers else answers)) [ true ↦ dropped answers h | false ↦ h ]
  where
    dropped : (answers : List Answer) → AreAnswers answers → AreAnswers (drop 1 answers)
    dropped [] h = tt
    dropped (a ∷ rest) h = h.2

left_from_small : (answers : List Answer) (address : ℕ) (xs : List ℕ) → AreAnswers answers → AreAnswers (left_from answers address xs)
left_from_small answers address [] h = h
left_from_small answers address (x ∷ xs) h = left_from_small (left_at answers address) (next_word address) xs (left_small answers address h)

words_values : (memory : ℕ → ℕ) (answers : List Answer) (address : ℕ) (xs : List ℕ) → AreBelow 8 xs → AreValues (words_from memory answers address xs)
words_values memory answers address [] h = tt
words_values memory answers address (x ∷ xs) h =
    (register_value x _ (omega (arith, h.0)) (λ e. absurd (omega (arith, h.0))) (loaded_small access.Ldr _), words_values memory (left_at answers address) (next_word address) xs h.1)

-- the base's word is a loaded one or the address after them: both are words
base_small : (memory : ℕ → ℕ) (answers : List Answer) (address : ℕ) (xs : List ℕ) (back y : ℕ) → back < 2 ^ 32 → assigned (words_from memory answers address xs) (λ x. back) y < 2 ^ 32
base_small memory answers address [] back y h = h
base_small memory answers address (x ∷ xs) back y h =
    elim (y == x) as (λ t. (if t then word_at memory answers address else assigned (words_from memory (left_at answers address) (next_word address) xs) (λ x. back) y) < 2 ^ 32) [
      | true ↦ loaded_small access.Ldr _
      | false ↦ base_small memory (left_at answers address) (next_word address) xs back y h
    ]

many_values : (base back address : ℕ) (xs : List ℕ) (w : World) → base < 15 → back < 2 ^ 32 → AreBelow 8 xs → AreValues (many_outputs base back address xs w)
many_values base back address xs w l h low = (written_at base _ l (base_small w.memory w.answers address xs back base h), words_values w.memory w.answers address xs low)

many_safe : (base address : ℕ) (xs : List ℕ) (w : World) → base < 15 → address < 2 ^ 32 → AreBelow 8 xs → IsWorld w → IsSafe (loads_many base address xs w)
many_safe base address xs w l k low h =
    aligned_safe address 4 w _ h (enough_safe address xs w _ h (record { values = many_values base (behind xs address) address xs w l (behind_small xs address k) low; memory = h.memory; answers = left_from_small w.answers address xs h.answers }))

stores_many_safe : (base back address : ℕ) (words : List ℕ) (w : World) → base < 15 → back < 2 ^ 32 → IsWorld w → IsSafe (stores_many base back address words w)
stores_many_safe base back address words w l k h = aligned_safe address 4 w _ h (record { values = (written_at base back l k, tt); memory = stored_words_small w.memory address words h.memory; answers = h.answers })

popping_safe : (address : ℕ) (xs : List ℕ) (n : Continuation) (es : List Event) (w : World) → address < 2 ^ 32 → AreBelow 8 xs → IsWorld w → IsSafe (popping address xs n es w)
popping_safe address xs n es w k low h = record { values = many_values sp _ address xs w (omega arith) (behind_small (with_pc xs) address k) low; memory = h.memory; answers = left_from_small w.answers address (with_pc xs) h.answers }

pops_to_safe : (l : Landing) (address : ℕ) (xs : List ℕ) (w : World) → address < 2 ^ 32 → AreBelow 8 xs → IsWorld w → IsSafe (pops_to l address xs w)
pops_to_safe (Goes p) address xs w k low h = popping_safe address xs (To p) [] w k low h
pops_to_safe Leaves address xs w k low h = popping_safe address xs Over _ w k low h
pops_to_safe Strays address xs w k low h = popping_safe address xs Over _ w k low h

pop_safe : (l : Landing) (t : Bool) (address : ℕ) (xs : List ℕ) (w : World) → address < 2 ^ 32 → AreBelow 8 xs → IsWorld w → IsSafe (if t then pops l address xs w else loads_many sp address xs w)
pop_safe l true address xs w k low h = aligned_safe address 4 w _ h (enough_safe address (with_pc xs) w _ h (pops_to_safe l address xs w k low h))
pop_safe l false address xs w k low h = many_safe sp address xs w (omega arith) k low h

-- ---- branches ----

jump_safe : (t : Target) (w : World) → IsWorld w → IsSafe (jumps t w)
jump_safe (Inside p) w h = puts_safe [] (To p) w tt h
jump_safe (External word) w h = ends_safe _ w h

link_safe : (link p : ℕ) (w : World) → link < 2 ^ 32 → IsWorld w → IsSafe (puts ((lr, link) ∷ []) (To p) w)
link_safe link p w k h = puts_safe _ (To p) w (register_value lr link (omega arith) (λ e. absurd (omega arith)) k, tt) h

call_safe : (t : Target) (link : ℕ) (w : World) → link < 2 ^ 32 → IsWorld w → IsSafe (calls t link w)
call_safe (Inside p) link w k h = link_safe link p w k h
call_safe (External word) link w k h = out_safe word w h

call_by_safe : (l : Landing) (word link : ℕ) (w : World) → link < 2 ^ 32 → IsWorld w → IsSafe (calls_by l word link w)
call_by_safe (Goes p) word link w k h = link_safe link p w k h
call_by_safe Leaves word link w k h = out_safe word w h
call_by_safe Strays word link w k h = ends_safe _ w h

if_safe : (t : Bool) (k : Target) (w : World) → IsWorld w → IsSafe (if t then jumps k w else puts [] On w)
if_safe true k w h = jump_safe k w h
if_safe false k w h = puts_safe [] On w tt h

hint_safe : (k : HintOperation) (w : World) → IsWorld w → IsSafe (hints k w)
hint_safe hint.Nop w h = puts_safe [] On w tt h
hint_safe k w h = tells_safe _ w h

-- a row: an instruction puts words, and leaves bytes and answers
pub act_safe : (around : Around) (i : Instr) (w : World) → AreAroundWords around → IsWorld w → IsSafe (act around i w)
act_safe around (instr.Literal t d) w l h = puts_safe _ On w (low_value t around.literal l.literal, tt) h
act_safe around (instr.Address d i) w l h = puts_safe _ On w (low_value d around.literal l.literal, tt) h
act_safe around (instr.Push k) w l h = stores_many_safe sp _ _ (map w.values (pushed k.number)) w (omega arith) (mod-lt _ {m = 2 ^ 32} (omega arith)) h
act_safe around (instr.Pop k) w l h = pop_safe _ (has k.number 8) (w.values sp) (registers_in k.number) w (h.values.register sp (omega arith)) (registers_low k.number) h
act_safe around (instr.StoreMany s) w l h = stores_many_safe s.base.number _ _ (map w.values (registers_in s.list.number)) w (omega arith) (behind_small (registers_in s.list.number) _ (h.values.register s.base.number (omega arith))) h
act_safe around (instr.LoadMany n k) w l h = many_safe n.number (w.values n.number) (registers_in k.number) w (omega arith) (h.values.register n.number (omega arith)) (registers_low k.number) h
act_safe around (instr.Service i) w l h = takes_safe _ w w.answers h h.answers (λ x rest k b r. answer_safe served _ w x rest refl h k b r)
act_safe around (instr.ReadSpecial d s) w l h = takes_safe _ w w.answers h h.answers (λ x rest k b r. record { values = (register_value d.number _ (omega arith) (λ e. d.no_sp e) (k.register 0 (omega arith)), tt); memory = h.memory; answers = r })
act_safe around i w l h = search (puts_safe (outputs i w.values) On w (values_of i w.values (held_of w h)) h, branch_safe, call_by_safe, call_safe, jump_safe, if_safe, access_safe, hint_safe, tells_safe)

-- what a safe act leaves is a world
pub world_after : (a : Act) (v : Values) → IsSafe a → AreHeld v → IsWorld (record { values = assigned a.outputs v; memory = a.memory; answers = a.answers })
world_after a v s h = let k = are_held a.outputs v s.values h in record { values = k.words; stack = k.stack; memory = s.memory; answers = s.answers }
