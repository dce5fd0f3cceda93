-- A slot's circuit computes what the model's step of its instruction does.
use Rattle.std.proofs.Common.{◌≡◌, ℕ, zero, suc, ◌+◌, ◌-◌, ◌*◌, ◌^◌, ◌%◌, ◌<◌, ◌≤◌, List, [], ◌∷◌, Bool, true, false, cond, eqb, ltb, length, refl, sym, ap, ◌∙◌, arith, set, bit_and, subst, ⊎_elim, map}
use Rattle.std.proofs.lemmas.List.{length-set, get_or-set_same, get_or-set_other}
use Rattle.std.proofs.lemmas.Bool.{cond-true, cond-false, ne_eqb, eq-eqb, eqb-true, cases_Bool, and_parts, ltb-true, lt-ltb}
use Rattle.std.specs.Int.{from_bool, bit_at}
use Rattle.word_bits.specs.declared.Sum.{Sum as WordSum}
use Rattle.word_bits.specs.declared.Shift.{Shift}
use Rattle.word_bits.specs.declared.Shift.TheVariants as shift
use Rattle.word_bits.specs.Word.{sum_of, shift_of, shifted, last_out}
use Rattle.word_bits.proofs.Successive.{shift_of-some}
use Rattle.thumb_instr.specs.declared.instr.Instr.{Instr}
use Rattle.thumb_instr.specs.declared.instr.Instr.TheVariants as instr
use Rattle.thumb_instr.specs.declared.operation.SumOperation.{SumOperation}
use Rattle.thumb_instr.specs.declared.operation.SumOperation.TheVariants as sum
use Rattle.thumb_instr.specs.declared.operation.Right.{Right}
use Rattle.thumb_instr.specs.declared.operation.Right.TheVariants as right
use Rattle.thumb_instr.specs.declared.operation.Operation.{Operation}
use Rattle.thumb_instr.specs.declared.operation.Operation.TheVariants as operation
use Rattle.thumb_instr.specs.declared.operation.ByteOperation.{ByteOperation}
use Rattle.thumb_instr.specs.declared.operation.ByteOperation.TheVariants as byte
use Rattle.thumb_instr.proofs.RenamingLemmas.{named_low}
use Rattle.thumb_instr.specs.Window.{is_in_window, named, AreBelow}
use Rattle.thumb_model.specs.Effect.{Values, assigned, n_flag, z_flag, c_flag, v_flag, complement, three_sum, product, right_shift, extension_of, reversal_of, outputs, after, after_all}
use Rattle.cnf_gates.specs.declared.bit.Bit.{Bit}
use Rattle.cnf_gates.specs.declared.bit.Bit.TheVariants.{Constant}
use Rattle.cnf_gates.specs.Gates.{Built}
use Rattle.cnf_gates.specs.Meaning.{bit_value, GatesHold}
use Rattle.cnf_gates.specs.Growth.{BitBelow, AllBelow, Ready}
use Rattle.cnf_gates.proofs.Giving.{later, all_later, BitBelow-more, AllBelow-more}
use Rattle.bit_blast.specs.declared.circuits.Connective.{Connective}
use Rattle.bit_blast.specs.declared.circuits.Connective.TheVariants.{And, Or, Xor}
use Rattle.bit_blast.specs.declared.slots.Slot.{Slot}
use Rattle.bit_blast.specs.declared.slots.Slot.TheVariants.{Plain, Hole}
use Rattle.bit_blast.specs.Slots.{Byte, filled as filled_slot, target_of, slot_target, IsSlotOver, AreSlotsOver}
use Rattle.bit_blast.specs.Words.{bit_of, filled, constant, inverted, moved, moved_out, extended, turned}
use Rattle.bit_blast.specs.Circuits.{each_of, none_of, add_of, product_from, Shifted, shift_by, rotate_by}
use Rattle.bit_blast.specs.Forming.{Bits, ResultBits, word, result_of, summed, joined_of, shifted_of, rotated_of, multiplied_of, unflagged, flags_alone, three_of, two_of, byte_of, number_shift, outcome_of, slot_outcome, written, formed, formed_all}
use Rattle.bit_blast.specs.Exactness.{number_of, values_at}
use Rattle.bit_blast.proofs.Steps.{Goes, Goes-none, Goes-map, Goes-then, Goes-within, WordGives}
use Rattle.bit_blast.proofs.Numbers.{number_at, complement_is, length-inverted, AllBelow-inverted, bit_below}
use Rattle.bit_blast.proofs.Each.{of_numbers, each_gives, none_gives}
use Rattle.bit_blast.proofs.Sums.{add_gives}
use Rattle.bit_blast.proofs.Products.{product_gives}
use Rattle.bit_blast.proofs.Moves.{IsStraight, length-filled, number_of-filled, AllBelow-filled, length-constant, number_of-constant, AllBelow-constant, length-moved, AllBelow-moved, below-moved_out, moved_is, out_is, one_test, length-extended, AllBelow-extended, extended_is, length-turned, AllBelow-turned, turned_is}
use Rattle.bit_blast.proofs.Barrel.{ShiftedGives, shift_by_gives, rotate_by_gives}
use Rattle.bit_blast.proofs.Outputs.{Numbers, all_outputs, result_numbers, sum_numbers, shift_numbers, plain_numbers, kept_numbers, two_left, byte_left, left_by, outputs_are}

-- ---- outcomes

abbrev pub numbers_of : (ℕ → Bool) → ResultBits → Numbers
numbers_of m o = record { value = number_of m o.value; n = from_bool (bit_value m o.n); z = from_bool (bit_value m o.z); c = from_bool (bit_value m o.c); v = from_bool (bit_value m o.v) }

-- bits whose variables were built already, and a value of 32 bits
pub record IsOutcome (v : ℕ) (o : ResultBits) : Type 0 where
  pub value : AllBelow v o.value
  pub wide : length o.value ≡ 32
  pub n_of : BitBelow v o.n
  pub z_of : BitBelow v o.z
  pub c_of : BitBelow v o.c
  pub v_of : BitBelow v o.v

-- the properties of a step that gives an outcome
pub record OutcomeGives (n : ℕ) (b : Built) (step : Built → Built × ResultBits) (f : (ℕ → Bool) → Numbers) : Type 0 where
  pub goes : Goes n b step
  pub is : IsOutcome (step b).0.variables (step b).1
  pub value : (m : ℕ → Bool) → GatesHold m (step b).0.gates → numbers_of m (step b).1 ≡ f m

-- the same numbers, said in another way
at_numbers : (n : ℕ) (b : Built) (step : Built → Built × ResultBits) (f g : (ℕ → Bool) → Numbers) → ((m : ℕ → Bool) → f m ≡ g m) → OutcomeGives n b step f → OutcomeGives n b step g
at_numbers n b step f g e h = record { goes = h.goes; is = h.is; value = λ m holds. h.value m holds ∙ e m }

within : (n k : ℕ) (b : Built) (step : Built → Built × ResultBits) (f : (ℕ → Bool) → Numbers) → n ≤ k → OutcomeGives n b step f → OutcomeGives k b step f
within n k b step f le h = record { goes = Goes-within n k b step le h.goes; is = h.is; value = h.value }

abbrev outcome : List Bit → Bit → Bit → Bit → Bit → ResultBits
outcome value n z c v = record { value = value; n = n; z = z; c = c; v = v }

from_numbers : (x n z n' z' c v : ℕ) → n ≡ n' → z ≡ z' → (let a : Numbers = record { value = x; n = n; z = z; c = c; v = v } in a) ≡ record { value = x; n = n'; z = z'; c = c; v = v }
from_numbers x n z n' z' c v e f = ap (λ k. let a : Numbers = record { value = x; n = k; z = z; c = c; v = v } in a) e ∙ ap (λ k. let a : Numbers = record { value = x; n = n'; z = k; c = c; v = v } in a) f

result_gives : (low : ℕ) (b : Built) (xs : List Bit) (c v : Bit) → length xs ≡ 32 → Ready low b → AllBelow b.variables xs → BitBelow b.variables c → BitBelow b.variables v
    → OutcomeGives 32 b (λ d. result_of d xs c v) (λ m. result_numbers (number_of m xs) (from_bool (bit_value m c)) (from_bool (bit_value m v)))
result_gives low b xs c v wide k px pc pv =
    let z = none_of b xs (Constant true) in
    let zg = none_gives low b xs (Constant true) k px tt in
    let top = bit_of xs 31 in
    record {
      goes = Goes-within (length xs) 32 b (λ d. result_of d xs c v) (omega arith) (Goes-map (length xs) b (λ q. outcome xs top q c v) (λ d. none_of d xs (Constant true)) zg.goes);
      is = record {
        value = all_later (length xs) b z.0 xs zg.goes.grows px;
        wide = wide;
        n_of = bit_below z.0.variables xs 31 (all_later (length xs) b z.0 xs zg.goes.grows px);
        z_of = zg.below;
        c_of = later (length xs) b z.0 c zg.goes.grows pc;
        v_of = later (length xs) b z.0 v zg.goes.grows pv;
      };
      value = λ m holds.
          from_numbers (number_of m xs) (from_bool (bit_value m top)) (from_bool (bit_value m z.1)) (bit_at (number_of m xs) 31) (from_bool (eqb (number_of m xs) 0)) (from_bool (bit_value m c)) (from_bool (bit_value m v))
          (number_at m xs 31) (ap from_bool (zg.value m holds));
    }

-- a step that gives a word, and then N and Z of it
word_result_gives : (low n : ℕ) (b : Built) (step : Built → Built × List Bit) (f : (ℕ → Bool) → ℕ) (c v : Bit) → Ready low b → WordGives n b step 32 f → BitBelow b.variables c → BitBelow b.variables v
    → OutcomeGives (n + 32) b (λ d. result_of (step d).0 (step d).1 c v) (λ m. result_numbers (f m) (from_bool (bit_value m c)) (from_bool (bit_value m v)))
word_result_gives low n b step f c v k w pc pv =
    let r = step b in
    let g = w.goes.grows in
    let rg = result_gives low r.0 r.1 c v w.length_is (g.ready low k) w.below (later n b r.0 c g pc) (later n b r.0 v g pv) in
    record {
      goes = Goes-then (n + 32) n 32 b step (λ xs d. result_of d xs c v) (omega arith) w.goes rg.goes;
      is = rg.is;
      value = λ m holds. rg.value m holds ∙ ap (λ x. result_numbers x (from_bool (bit_value m c)) (from_bool (bit_value m v))) (w.value m (rg.goes.grows.kept m holds));
    }

shifted_result_gives : (low n : ℕ) (b : Built) (step : Built → Built × Shifted) (f : (ℕ → Bool) → ℕ × Bool) (v : Bit) → Ready low b → ShiftedGives n b step f → BitBelow b.variables v
    → OutcomeGives (n + 32) b (λ d. result_of (step d).0 (step d).1.value (step d).1.carry v) (λ m. shift_numbers (f m) (from_bool (bit_value m v)))
shifted_result_gives low n b step f v k w pv =
    let r = step b in
    let g = w.goes.grows in
    let rg = result_gives low r.0 r.1.value r.1.carry v w.wide (g.ready low k) w.below w.carry (later n b r.0 v g pv) in
    record {
      goes = Goes-then (n + 32) n 32 b step (λ s d. result_of d s.value s.carry v) (omega arith) w.goes rg.goes;
      is = rg.is;
      value = λ m holds. rg.value m holds ∙ ap (λ p. shift_numbers p (from_bool (bit_value m v))) (w.value m (rg.goes.grows.kept m holds));
    }

abbrev number_sum : (ℕ → Bool) → List Bit → List Bit → Bit → WordSum
number_sum m xs ys c = sum_of (number_of m xs) (number_of m ys) (bit_value m c)

summed_gives : (low : ℕ) (b : Built) (xs ys : List Bit) (c : Bit) → length xs ≡ 32 → length ys ≡ 32 → Ready low b → AllBelow b.variables xs → AllBelow b.variables ys → BitBelow b.variables c
    → OutcomeGives 193 b (λ d. summed d xs ys c) (λ m. sum_numbers (number_sum m xs ys c))
summed_gives low b xs ys c wx wy k px py pc =
    let s = add_of b xs ys c in
    let sg = add_gives low b xs ys c wx wy k px py pc in
    let g = sg.goes.grows in
    let rg = result_gives low s.0 s.1.value s.1.carry s.1.overflow sg.wide (g.ready low k) sg.below sg.carry sg.overflow in
    record {
      goes = Goes-then 193 161 32 b (λ d. add_of d xs ys c) (λ t d. result_of d t.value t.carry t.overflow) (omega arith) sg.goes rg.goes;
      is = rg.is;
      value = λ m holds.
          let in_s = rg.goes.grows.kept m holds in
          rg.value m holds
          ∙ ap (λ x. result_numbers x (from_bool (bit_value m s.1.carry)) (from_bool (bit_value m s.1.overflow))) (sg.value m in_s)
          ∙ ap (λ t. result_numbers (number_sum m xs ys c).value (from_bool t) (from_bool (bit_value m s.1.overflow))) (sg.carries m in_s)
          ∙ ap (λ t. result_numbers (number_sum m xs ys c).value (from_bool (number_sum m xs ys c).c) (from_bool t)) (sg.overflows m in_s);
    }

-- a step whose target keeps its bits
alone_gives : (n : ℕ) (b : Built) (x : List Bit) (step : Built → Built × ResultBits) (f : (ℕ → Bool) → Numbers) → length x ≡ 32 → AllBelow b.variables x → OutcomeGives n b step f
    → OutcomeGives n b (λ d. flags_alone x (step d)) (λ m. kept_numbers (number_of m x) (f m))
alone_gives n b x step f wide px h = record {
  goes = Goes-map n b (λ o. outcome x o.n o.z o.c o.v) step h.goes;
  is = record { value = all_later n b (step b).0 x h.goes.grows px; wide = wide; n_of = h.is.n_of; z_of = h.is.z_of; c_of = h.is.c_of; v_of = h.is.v_of };
  value = λ m holds. ap (kept_numbers (number_of m x)) (h.value m holds);
}

-- ---- registers and flags

-- words of 32 bits, whose variables were built already
abbrev pub AllWords : ℕ → List (List Bit) → Type 0
AllWords v [] = Unit {0}
AllWords v (w ∷ ws) = (length w ≡ 32) × AllBelow v w × AllWords v ws

pub record AreOf (v : ℕ) (s : Bits) : Type 0 where
  pub words : AllWords v s.r
  pub n_of : BitBelow v s.n
  pub z_of : BitBelow v s.z
  pub c_of : BitBelow v s.c
  pub v_of : BitBelow v s.v

word_wide : (v : ℕ) (ws : List (List Bit)) (i : ℕ) → AllWords v ws → i < length ws → length (word ws i) ≡ 32
word_wide v [] i h k = absurd (omega arith)
word_wide v (w ∷ ws) zero h k = h.0
word_wide v (w ∷ ws) (suc i) h k = word_wide v ws i h.2 (omega arith)

word_below : (v : ℕ) (ws : List (List Bit)) (i : ℕ) → AllWords v ws → AllBelow v (word ws i)
word_below v [] i h = tt
word_below v (w ∷ ws) zero h = h.1
word_below v (w ∷ ws) (suc i) h = word_below v ws i h.2

pub AllWords-more : (v w : ℕ) (ws : List (List Bit)) → v ≤ w → AllWords v ws → AllWords w ws
AllWords-more v w [] h k = tt
AllWords-more v w (x ∷ ws) h k = (k.0, AllBelow-more v w x h k.1, AllWords-more v w ws h k.2)

pub AreOf-more : (v w : ℕ) (s : Bits) → v ≤ w → AreOf v s → AreOf w s
AreOf-more v w s h a = record { words = AllWords-more v w s.r h a.words; n_of = BitBelow-more v w s.n h a.n_of; z_of = BitBelow-more v w s.z h a.z_of; c_of = BitBelow-more v w s.c h a.c_of; v_of = BitBelow-more v w s.v h a.v_of }

AllWords-set : (v : ℕ) (ws : List (List Bit)) (i : ℕ) (w : List Bit) → AllWords v ws → length w ≡ 32 → AllBelow v w → AllWords v (set ws i w)
AllWords-set v [] i w h k l = tt
AllWords-set v (x ∷ ws) zero w h k l = (k, l, h.2)
AllWords-set v (x ∷ ws) (suc i) w h k l = (h.0, h.1, AllWords-set v ws i w h.2 k l)

-- a register's value
pub register_value : (m : ℕ → Bool) (s : Bits) (x : ℕ) → x < 15 → number_of m (word s.r x) ≡ values_at m s x
register_value m s x h =
    sym (cond-false (eqb x n_flag) _ _ (ne_eqb x 15 (λ e. omega arith)) ∙ cond-false (eqb x z_flag) _ _ (ne_eqb x 16 (λ e. omega arith))
    ∙ cond-false (eqb x c_flag) _ _ (ne_eqb x 17 (λ e. omega arith)) ∙ cond-false (eqb x v_flag) _ _ (ne_eqb x 18 (λ e. omega arith)) ∙ cond-true (ltb x 15) _ _ (lt-ltb x 15 h))

carry_test : (b : Bool) → b ≡ eqb (from_bool b) 1
carry_test true = refl
carry_test false = refl

unflagged_gives : (n : ℕ) (b : Built) (step : Built → Built × List Bit) (f : (ℕ → Bool) → ℕ) (s : Bits) → AreOf b.variables s → WordGives n b step 32 f
    → OutcomeGives n b (λ d. ((step d).0, unflagged (step d).1 s)) (λ m. plain_numbers (f m) (values_at m s))
unflagged_gives n b step f s are w =
    let g = w.goes.grows in
    let r = step b in
    record {
      goes = Goes-map n b (λ x. unflagged x s) step w.goes;
      is = record { value = w.below; wide = w.length_is; n_of = later n b r.0 s.n g are.n_of; z_of = later n b r.0 s.z g are.z_of; c_of = later n b r.0 s.c g are.c_of; v_of = later n b r.0 s.v g are.v_of };
      value = λ m holds. ap (λ x. plain_numbers x (values_at m s)) (w.value m holds);
    }

-- a word that needs no gate
same_word : (b : Built) (xs : List Bit) (f : (ℕ → Bool) → ℕ) → length xs ≡ 32 → AllBelow b.variables xs → ((m : ℕ → Bool) → number_of m xs ≡ f m) → WordGives 0 b (λ d. (d, xs)) 32 f
same_word b xs f wide px e = record { goes = Goes-none 0 b xs; below = px; length_is = wide; value = λ m _. e m }

-- ---- by operation

inverted_wide : (ys : List Bit) → length ys ≡ 32 → length (inverted ys) ≡ 32
inverted_wide ys wy = length-inverted ys ∙ wy

three_gives : (low : ℕ) (b : Built) (o : SumOperation) (xs ys : List Bit) → length xs ≡ 32 → length ys ≡ 32 → Ready low b → AllBelow b.variables xs → AllBelow b.variables ys
    → OutcomeGives 193 b (λ d. three_of o d xs ys) (λ m. sum_numbers (three_sum o (number_of m xs) (number_of m ys)))
three_gives low b sum.Add xs ys wx wy k px py = summed_gives low b xs ys (Constant false) wx wy k px py tt
three_gives low b sum.Sub xs ys wx wy k px py =
    at_numbers 193 b (λ d. three_of sum.Sub d xs ys) (λ m. sum_numbers (sum_of (number_of m xs) (number_of m (inverted ys)) true)) (λ m. sum_numbers (three_sum sum.Sub (number_of m xs) (number_of m ys)))
    (λ m. ap (λ y. sum_numbers (sum_of (number_of m xs) y true)) (complement_is m ys wy))
    (summed_gives low b xs (inverted ys) (Constant true) wx (inverted_wide ys wy) k px (AllBelow-inverted b.variables ys py) tt)

joined_gives : (low : ℕ) (b : Built) (gate : Connective) (xs ys : List Bit) (s : Bits) → length xs ≡ 32 → length ys ≡ 32 → Ready low b → AllBelow b.variables xs → AllBelow b.variables ys → AreOf b.variables s
    → OutcomeGives 64 b (λ d. joined_of gate d xs ys s) (λ m. result_numbers (of_numbers gate (number_of m xs) (number_of m ys)) (values_at m s c_flag) (values_at m s v_flag))
joined_gives low b gate xs ys s wx wy k px py are =
    let eg = each_gives low b gate xs ys (wx ∙ sym wy) k px py in
    let w : WordGives (length xs) b (λ d. each_of gate d xs ys) 32 (λ m. of_numbers gate (number_of m xs) (number_of m ys)) = record { goes = eg.goes; below = eg.below; length_is = eg.length_is ∙ wx; value = eg.value } in
    within (length xs + 32) 64 b (λ d. joined_of gate d xs ys s) _ (omega arith) (word_result_gives low (length xs) b (λ d. each_of gate d xs ys) _ s.c s.v k w are.c_of are.v_of)

abbrev start_shift : List Bit → Bits → Shifted
start_shift xs s = record { value = xs; carry = s.c }

shifted_gives : (low : ℕ) (b : Built) (kind : Shift) (xs ys : List Bit) (s : Bits) → IsStraight kind → length xs ≡ 32 → length ys ≡ 32 → Ready low b → AllBelow b.variables xs → AllBelow b.variables ys → AreOf b.variables s
    → OutcomeGives 264 b (λ d. shifted_of kind d xs ys s) (λ m. shift_numbers (shift_of kind (number_of m xs) (number_of m ys % 256) (eqb (values_at m s c_flag) 1)) (values_at m s v_flag))
shifted_gives low b kind xs ys s straight wx wy k px py are =
    at_numbers 264 b (λ d. shifted_of kind d xs ys s) (λ m. shift_numbers (shift_of kind (number_of m xs) (number_of m ys % 256) (bit_value m s.c)) (from_bool (bit_value m s.v))) _
    (λ m. ap (λ c. shift_numbers (shift_of kind (number_of m xs) (number_of m ys % 256) c) (from_bool (bit_value m s.v))) (carry_test (bit_value m s.c)))
    (shifted_result_gives low 232 b (λ d. shift_by kind d ys (start_shift xs s)) _ s.v k (shift_by_gives low b kind ys (start_shift xs s) straight wy wx k py px are.c_of) are.v_of)

rotated_gives : (low : ℕ) (b : Built) (xs ys : List Bit) (s : Bits) → length xs ≡ 32 → length ys ≡ 32 → Ready low b → AllBelow b.variables xs → AllBelow b.variables ys → AreOf b.variables s
    → OutcomeGives 264 b (λ d. rotated_of d xs ys s) (λ m. shift_numbers (shift_of shift.Ror (number_of m xs) (number_of m ys % 256) (eqb (values_at m s c_flag) 1)) (values_at m s v_flag))
rotated_gives low b xs ys s wx wy k px py are =
    at_numbers 264 b (λ d. rotated_of d xs ys s) (λ m. shift_numbers (shift_of shift.Ror (number_of m xs) (number_of m ys % 256) (bit_value m s.c)) (from_bool (bit_value m s.v))) _
    (λ m. ap (λ c. shift_numbers (shift_of shift.Ror (number_of m xs) (number_of m ys % 256) c) (from_bool (bit_value m s.v))) (carry_test (bit_value m s.c)))
    (shifted_result_gives low 232 b (λ d. rotate_by d ys (start_shift xs s)) _ s.v k (rotate_by_gives low b ys (start_shift xs s) wy wx k py px are.c_of) are.v_of)

product_order : (x y : ℕ) → (0 + x * 2 ^ 0 * y) % 2 ^ 32 ≡ product y x
product_order x y = ap (λ v. v % 2 ^ 32) (let e : 0 + x * 2 ^ 0 * y ≡ y * x = omega arith in e)

multiplied_gives : (low : ℕ) (b : Built) (xs ys : List Bit) (s : Bits) → length xs ≡ 32 → length ys ≡ 32 → Ready low b → AllBelow b.variables xs → AllBelow b.variables ys → AreOf b.variables s
    → OutcomeGives 6208 b (λ d. multiplied_of d xs ys s) (λ m. result_numbers (product (number_of m ys) (number_of m xs)) (values_at m s c_flag) (values_at m s v_flag))
multiplied_gives low b xs ys s wx wy k px py are =
    let zero_word : List Bit = filled (Constant false) in
    let pg = product_gives low b 0 xs ys zero_word (omega arith) wx (length-filled (Constant false)) k px py (AllBelow-filled b.variables (Constant false) tt) in
    let w : WordGives (193 * length ys) b (λ d. product_from d 0 xs ys zero_word) 32 (λ m. product (number_of m ys) (number_of m xs)) = record {
      goes = pg.goes;
      below = pg.below;
      length_is = pg.length_is;
      value = λ m holds.
          pg.value m holds ∙ ap (λ z. (z + number_of m xs * 2 ^ 0 * number_of m ys) % 2 ^ 32) (number_of-filled m (Constant false) ∙ (let e : 0 * (2 ^ 32 - 1) ≡ 0 = omega arith in e))
          ∙ product_order (number_of m xs) (number_of m ys);
    } in
    within (193 * length ys + 32) 6208 b (λ d. multiplied_of d xs ys s) _ (omega arith) (word_result_gives low (193 * length ys) b (λ d. product_from d 0 xs ys zero_word) _ s.c s.v k w are.c_of are.v_of)

-- a word's complement with its N and Z
inverted_gives : (low : ℕ) (b : Built) (ys : List Bit) (s : Bits) → length ys ≡ 32 → Ready low b → AllBelow b.variables ys → AreOf b.variables s
    → OutcomeGives 32 b (λ d. result_of d (inverted ys) s.c s.v) (λ m. result_numbers (complement (number_of m ys)) (values_at m s c_flag) (values_at m s v_flag))
inverted_gives low b ys s wy k py are =
    at_numbers 32 b (λ d. result_of d (inverted ys) s.c s.v) (λ m. result_numbers (number_of m (inverted ys)) (from_bool (bit_value m s.c)) (from_bool (bit_value m s.v))) _
    (λ m. ap (λ y. result_numbers y (from_bool (bit_value m s.c)) (from_bool (bit_value m s.v))) (complement_is m ys wy))
    (result_gives low b (inverted ys) s.c s.v (inverted_wide ys wy) k (AllBelow-inverted b.variables ys py) are.c_of are.v_of)

with_carry_gives : (low : ℕ) (b : Built) (xs ys : List Bit) (s : Bits) → length xs ≡ 32 → length ys ≡ 32 → Ready low b → AllBelow b.variables xs → AllBelow b.variables ys → AreOf b.variables s
    → OutcomeGives 193 b (λ d. summed d xs ys s.c) (λ m. sum_numbers (sum_of (number_of m xs) (number_of m ys) (eqb (values_at m s c_flag) 1)))
with_carry_gives low b xs ys s wx wy k px py are =
    at_numbers 193 b (λ d. summed d xs ys s.c) (λ m. sum_numbers (number_sum m xs ys s.c)) _ (λ m. ap (λ c. sum_numbers (sum_of (number_of m xs) (number_of m ys) c)) (carry_test (bit_value m s.c)))
    (summed_gives low b xs ys s.c wx wy k px py are.c_of)

two_gives : (low : ℕ) (b : Built) (o : Operation) (xs ys : List Bit) (s : Bits) → length xs ≡ 32 → length ys ≡ 32 → Ready low b → AllBelow b.variables xs → AllBelow b.variables ys → AreOf b.variables s
    → OutcomeGives 6208 b (λ d. two_of o d xs ys s) (λ m. two_left o (number_of m xs) (number_of m ys) (values_at m s))
two_gives low b operation.And xs ys s wx wy k px py are = within 64 6208 b _ _ (omega arith) (joined_gives low b And xs ys s wx wy k px py are)
two_gives low b operation.Eor xs ys s wx wy k px py are = within 64 6208 b _ _ (omega arith) (joined_gives low b Xor xs ys s wx wy k px py are)
two_gives low b operation.Lsl xs ys s wx wy k px py are = within 264 6208 b _ _ (omega arith) (shifted_gives low b shift.Lsl xs ys s tt wx wy k px py are)
two_gives low b operation.Lsr xs ys s wx wy k px py are = within 264 6208 b _ _ (omega arith) (shifted_gives low b shift.Lsr xs ys s tt wx wy k px py are)
two_gives low b operation.Asr xs ys s wx wy k px py are = within 264 6208 b _ _ (omega arith) (shifted_gives low b shift.Asr xs ys s tt wx wy k px py are)
two_gives low b operation.Adc xs ys s wx wy k px py are = within 193 6208 b _ _ (omega arith) (with_carry_gives low b xs ys s wx wy k px py are)
two_gives low b operation.Sbc xs ys s wx wy k px py are =
    within 193 6208 b (λ d. two_of operation.Sbc d xs ys s) _ (omega arith)
    (at_numbers 193 b (λ d. two_of operation.Sbc d xs ys s) (λ m. sum_numbers (sum_of (number_of m xs) (number_of m (inverted ys)) (eqb (values_at m s c_flag) 1))) (λ m. two_left operation.Sbc (number_of m xs) (number_of m ys) (values_at m s))
    (λ m. ap (λ y. sum_numbers (sum_of (number_of m xs) y (eqb (values_at m s c_flag) 1))) (complement_is m ys wy))
    (with_carry_gives low b xs (inverted ys) s wx (inverted_wide ys wy) k px (AllBelow-inverted b.variables ys py) are))
two_gives low b operation.Ror xs ys s wx wy k px py are = within 264 6208 b _ _ (omega arith) (rotated_gives low b xs ys s wx wy k px py are)
two_gives low b operation.Tst xs ys s wx wy k px py are = within 64 6208 b _ _ (omega arith) (alone_gives 64 b xs (λ d. joined_of And d xs ys s) _ wx px (joined_gives low b And xs ys s wx wy k px py are))
two_gives low b operation.Rsb xs ys s wx wy k px py are =
    let zero_word : List Bit = filled (Constant false) in
    within 193 6208 b (λ d. two_of operation.Rsb d xs ys s) _ (omega arith)
    (at_numbers 193 b (λ d. two_of operation.Rsb d xs ys s) (λ m. sum_numbers (sum_of (number_of m (inverted ys)) (number_of m zero_word) true)) (λ m. two_left operation.Rsb (number_of m xs) (number_of m ys) (values_at m s))
    (λ m. ap (λ y. sum_numbers (sum_of y (number_of m zero_word) true)) (complement_is m ys wy)
    ∙ ap (λ z. sum_numbers (sum_of (complement (number_of m ys)) z true)) (number_of-filled m (Constant false) ∙ (let e : 0 * (2 ^ 32 - 1) ≡ 0 = omega arith in e)))
    (summed_gives low b (inverted ys) zero_word (Constant true) (inverted_wide ys wy) (length-filled (Constant false)) k (AllBelow-inverted b.variables ys py) (AllBelow-filled b.variables (Constant false) tt) tt))
two_gives low b operation.Cmp xs ys s wx wy k px py are = within 193 6208 b _ _ (omega arith) (alone_gives 193 b xs (λ d. three_of sum.Sub d xs ys) _ wx px (three_gives low b sum.Sub xs ys wx wy k px py))
two_gives low b operation.Cmn xs ys s wx wy k px py are = within 193 6208 b _ _ (omega arith) (alone_gives 193 b xs (λ d. three_of sum.Add d xs ys) _ wx px (three_gives low b sum.Add xs ys wx wy k px py))
two_gives low b operation.Orr xs ys s wx wy k px py are = within 64 6208 b _ _ (omega arith) (joined_gives low b Or xs ys s wx wy k px py are)
two_gives low b operation.Mul xs ys s wx wy k px py are = multiplied_gives low b xs ys s wx wy k px py are
two_gives low b operation.Bic xs ys s wx wy k px py are =
    within 64 6208 b (λ d. two_of operation.Bic d xs ys s) _ (omega arith)
    (at_numbers 64 b (λ d. two_of operation.Bic d xs ys s) (λ m. result_numbers (bit_and (number_of m xs) (number_of m (inverted ys))) (values_at m s c_flag) (values_at m s v_flag)) (λ m. two_left operation.Bic (number_of m xs) (number_of m ys) (values_at m s))
    (λ m. ap (λ y. result_numbers (bit_and (number_of m xs) y) (values_at m s c_flag) (values_at m s v_flag)) (complement_is m ys wy))
    (joined_gives low b And xs (inverted ys) s wx (inverted_wide ys wy) k px (AllBelow-inverted b.variables ys py) are))
two_gives low b operation.Mvn xs ys s wx wy k px py are = within 32 6208 b _ _ (omega arith) (inverted_gives low b ys s wy k py are)

-- an operation with an 8-bit number
byte_gives : (low : ℕ) (b : Built) (o : ByteOperation) (xs ys : List Bit) (s : Bits) → length xs ≡ 32 → length ys ≡ 32 → Ready low b → AllBelow b.variables xs → AllBelow b.variables ys → AreOf b.variables s
    → OutcomeGives 193 b (λ d. byte_of o d xs ys s) (λ m. byte_left o (number_of m xs) (number_of m ys) (values_at m s))
byte_gives low b byte.Mov xs ys s wx wy k px py are = within 32 193 b (λ d. byte_of byte.Mov d xs ys s) _ (omega arith) (result_gives low b ys s.c s.v wy k py are.c_of are.v_of)
byte_gives low b byte.Cmp xs ys s wx wy k px py are = alone_gives 193 b xs (λ d. three_of sum.Sub d xs ys) _ wx px (three_gives low b sum.Sub xs ys wx wy k px py)
byte_gives low b byte.Add xs ys s wx wy k px py are = three_gives low b sum.Add xs ys wx wy k px py
byte_gives low b byte.Sub xs ys s wx wy k px py are = three_gives low b sum.Sub xs ys wx wy k px py

-- a shift by a number, which isn't 0
number_shift_gives : (low : ℕ) (b : Built) (kind : Shift) (xs : List Bit) (n : ℕ) (s : Bits) → IsStraight kind → 0 < n → n ≤ 32 → length xs ≡ 32 → Ready low b → AllBelow b.variables xs → AreOf b.variables s
    → OutcomeGives 32 b (λ d. number_shift kind d xs n s) (λ m. shift_numbers (shift_of kind (number_of m xs) n false) (values_at m s v_flag))
number_shift_gives low b kind xs n s straight h0 h wx k px are =
    at_numbers 32 b (λ d. number_shift kind d xs n s) (λ m. result_numbers (number_of m (moved kind n xs)) (from_bool (bit_value m (moved_out kind n xs))) (from_bool (bit_value m s.v))) _
    (λ m.
    ap (λ x. result_numbers x (from_bool (bit_value m (moved_out kind n xs))) (from_bool (bit_value m s.v))) (moved_is m kind xs n straight h wx)
    ∙ ap (λ o. shift_numbers (shifted kind (number_of m xs) n, o) (from_bool (bit_value m s.v))) (one_test (bit_value m (moved_out kind n xs)) (last_out kind (number_of m xs) n) (out_is m kind xs n straight h0 h wx))
    ∙ ap (λ p. shift_numbers p (from_bool (bit_value m s.v))) (sym (shift_of-some kind (number_of m xs) n false h0)))
    (result_gives low b (moved kind n xs) (moved_out kind n xs) s.v (length-moved kind n xs h wx) k (AllBelow-moved b.variables kind n xs px) (below-moved_out b.variables kind n xs px) are.v_of)

straight_right : (o : Right) → IsStraight (right_shift o)
straight_right right.Lsr = tt
straight_right right.Asr = tt

-- ---- by instruction

-- a register that an instruction reads
module _ (low : ℕ) (b : Built) (s : Bits) (k : Ready low b) (are : AreOf b.variables s) where
  wide_at : (x : ℕ) → x < length s.r → length (word s.r x) ≡ 32
  wide_at x h = word_wide b.variables s.r x are.words h

  below_at : (x : ℕ) → AllBelow b.variables (word s.r x)
  below_at x = word_below b.variables s.r x are.words

  three_at : (o : SumOperation) (x : ℕ) (ys : List Bit) (y : (ℕ → Bool) → ℕ) → x < length s.r → x < 8 → length ys ≡ 32 → AllBelow b.variables ys → ((m : ℕ → Bool) → number_of m ys ≡ y m)
      → OutcomeGives 193 b (λ d. three_of o d (word s.r x) ys) (λ m. sum_numbers (three_sum o (values_at m s x) (y m)))
  three_at o x ys y h small wy py e =
      at_numbers 193 b (λ d. three_of o d (word s.r x) ys) (λ m. sum_numbers (three_sum o (number_of m (word s.r x)) (number_of m ys))) (λ m. sum_numbers (three_sum o (values_at m s x) (y m)))
      (λ m. ap (λ v. sum_numbers (three_sum o v (number_of m ys))) (register_value m s x (omega arith)) ∙ ap (λ v. sum_numbers (three_sum o (values_at m s x) v)) (e m))
      (three_gives low b o (word s.r x) ys (wide_at x h) wy k (below_at x) py)

  two_at : (o : Operation) (x y : ℕ) → x < length s.r → y < length s.r → x < 8 → y < 8 → OutcomeGives 6208 b (λ d. two_of o d (word s.r x) (word s.r y) s) (λ m. two_left o (values_at m s x) (values_at m s y) (values_at m s))
  two_at o x y h g small low_y =
      at_numbers 6208 b (λ d. two_of o d (word s.r x) (word s.r y) s) (λ m. two_left o (number_of m (word s.r x)) (number_of m (word s.r y)) (values_at m s)) (λ m. two_left o (values_at m s x) (values_at m s y) (values_at m s))
      (λ m. ap (λ v. two_left o v (number_of m (word s.r y)) (values_at m s)) (register_value m s x (omega arith)) ∙ ap (λ v. two_left o (values_at m s x) v (values_at m s)) (register_value m s y (omega arith)))
      (two_gives low b o (word s.r x) (word s.r y) s (wide_at x h) (wide_at y g) k (below_at x) (below_at y) are)

  byte_at : (o : ByteOperation) (x : ℕ) (ys : List Bit) (y : (ℕ → Bool) → ℕ) → x < length s.r → x < 8 → length ys ≡ 32 → AllBelow b.variables ys → ((m : ℕ → Bool) → number_of m ys ≡ y m)
      → OutcomeGives 193 b (λ d. byte_of o d (word s.r x) ys s) (λ m. byte_left o (values_at m s x) (y m) (values_at m s))
  byte_at o x ys y h small wy py e =
      at_numbers 193 b (λ d. byte_of o d (word s.r x) ys s) (λ m. byte_left o (number_of m (word s.r x)) (number_of m ys) (values_at m s)) (λ m. byte_left o (values_at m s x) (y m) (values_at m s))
      (λ m. ap (λ v. byte_left o v (number_of m ys) (values_at m s)) (register_value m s x (omega arith)) ∙ ap (λ n. byte_left o (values_at m s x) n (values_at m s)) (e m))
      (byte_gives low b o (word s.r x) ys s (wide_at x h) wy k (below_at x) py are)

  result_at : (x : ℕ) → x < length s.r → x < 8 → OutcomeGives 32 b (λ d. result_of d (word s.r x) s.c s.v) (λ m. result_numbers (values_at m s x) (values_at m s c_flag) (values_at m s v_flag))
  result_at x h small =
      at_numbers 32 b (λ d. result_of d (word s.r x) s.c s.v) (λ m. result_numbers (number_of m (word s.r x)) (from_bool (bit_value m s.c)) (from_bool (bit_value m s.v))) (λ m. result_numbers (values_at m s x) (values_at m s c_flag) (values_at m s v_flag))
      (λ m. ap (λ v. result_numbers v (from_bool (bit_value m s.c)) (from_bool (bit_value m s.v))) (register_value m s x (omega arith)))
      (result_gives low b (word s.r x) s.c s.v (wide_at x h) k (below_at x) are.c_of are.v_of)

  shift_at : (kind : Shift) (x n : ℕ) → IsStraight kind → x < length s.r → x < 8 → 0 < n → n ≤ 32 → OutcomeGives 32 b (λ d. number_shift kind d (word s.r x) n s) (λ m. shift_numbers (shift_of kind (values_at m s x) n false) (values_at m s v_flag))
  shift_at kind x n straight h small h0 few =
      at_numbers 32 b (λ d. number_shift kind d (word s.r x) n s) (λ m. shift_numbers (shift_of kind (number_of m (word s.r x)) n false) (values_at m s v_flag)) (λ m. shift_numbers (shift_of kind (values_at m s x) n false) (values_at m s v_flag))
      (λ m. ap (λ v. shift_numbers (shift_of kind v n false) (values_at m s v_flag)) (register_value m s x (omega arith)))
      (number_shift_gives low b kind (word s.r x) n s straight h0 few (wide_at x h) k (below_at x) are)

  -- a word that is made from a register's without a gate
  moved_at : (xs : List Bit) (f : (ℕ → Bool) → ℕ) → length xs ≡ 32 → AllBelow b.variables xs → ((m : ℕ → Bool) → number_of m xs ≡ f m) → OutcomeGives 0 b (λ d. (d, unflagged xs s)) (λ m. plain_numbers (f m) (values_at m s))
  moved_at xs f wide px e = unflagged_gives 0 b (λ d. (d, xs)) f s are (same_word b xs f wide px e)

  sum_at : (x y : ℕ) → x < length s.r → y < length s.r → x < 8 → y < 8
      → OutcomeGives 161 b (λ d. ((add_of d (word s.r x) (word s.r y) (Constant false)).0, unflagged (add_of d (word s.r x) (word s.r y) (Constant false)).1.value s)) (λ m. plain_numbers (three_sum sum.Add (values_at m s x) (values_at m s y)).value (values_at m s))
  sum_at x y h g small low_y =
      let ag = add_gives low b (word s.r x) (word s.r y) (Constant false) (wide_at x h) (wide_at y g) k (below_at x) (below_at y) tt in
      let w : WordGives 161 b (λ d. ((add_of d (word s.r x) (word s.r y) (Constant false)).0, (add_of d (word s.r x) (word s.r y) (Constant false)).1.value)) 32 (λ m. (three_sum sum.Add (values_at m s x) (values_at m s y)).value) = record {
        goes = Goes-map 161 b (λ t. t.value) (λ d. add_of d (word s.r x) (word s.r y) (Constant false)) ag.goes;
        below = ag.below;
        length_is = ag.wide;
        value = λ m holds.
            ag.value m holds ∙ ap (λ v. (sum_of v (number_of m (word s.r y)) false).value) (register_value m s x (omega arith)) ∙ ap (λ v. (sum_of (values_at m s x) v false).value) (register_value m s y (omega arith));
      } in
      unflagged_gives 161 b _ _ s are w

  pub outcome_gives : (i : Instr) → is_in_window i ≡ true → AreBelow (length s.r) (named i) → OutcomeGives 6208 b (λ d. outcome_of d i s) (λ m. left_by i (values_at m s))
  outcome_gives (instr.Mov d t) w h =
      let both : (ltb d.number 8 ≡ true) × (ltb t.number 8 ≡ true) = and_parts (ltb d.number 8) (ltb t.number 8) w in
      let small : t.number < 8 = ltb-true t.number 8 both.1 in
      within 0 6208 b _ _ (omega arith) (moved_at (word s.r t.number) (λ m. values_at m s t.number) (wide_at t.number h.1.0) (below_at t.number) (λ m. register_value m s t.number (omega arith)))
  outcome_gives (instr.Three o d n t) w h =
      within 193 6208 b _ _ (omega arith) (three_at o n.number (word s.r t.number) (λ m. values_at m s t.number) h.1.0 n.below (wide_at t.number h.1.1.0) (below_at t.number) (λ m. let small : t.number < 8 = t.below in register_value m s t.number (omega arith)))
  outcome_gives (instr.Two o d t) w h = two_at o d.number t.number h.0 h.1.0 d.below t.below
  outcome_gives (instr.Movs d t) w h = within 32 6208 b _ _ (omega arith) (result_at t.number h.1.0 t.below)
  outcome_gives (instr.ShiftLeft d t i) w h =
      let some : 1 ≤ i.number = i.least in
      let few : i.number < 32 = i.below in
      within 32 6208 b _ _ (omega arith) (shift_at shift.Lsl t.number i.number tt h.1.0 t.below (omega arith) (omega arith))
  outcome_gives (instr.ShiftRight o d t i) w h =
      let some : 1 ≤ i.number = i.least in
      let few : i.number < 33 = i.below in
      within 32 6208 b _ _ (omega arith) (shift_at (right_shift o) t.number i.number (straight_right o) h.1.0 t.below (omega arith) (omega arith))
  outcome_gives (instr.ThreeNumber o d n i) w h =
      let few : i.number < 8 = i.below in
      within 193 6208 b _ _ (omega arith) (three_at o n.number (constant i.number) (λ m. i.number) h.1.0 n.below (length-constant i.number) (AllBelow-constant b.variables i.number) (λ m. number_of-constant m i.number (omega arith)))
  outcome_gives (instr.TwoNumber o d i) w h =
      let few : i.number < 256 = i.below in
      within 193 6208 b _ _ (omega arith) (byte_at o d.number (constant i.number) (λ m. i.number) h.0 d.below (length-constant i.number) (AllBelow-constant b.variables i.number) (λ m. number_of-constant m i.number (omega arith)))
  outcome_gives (instr.Add r) w h =
      let both : (ltb r.target.number 8 ≡ true) × (ltb r.source.number 8 ≡ true) = and_parts (ltb r.target.number 8) (ltb r.source.number 8) w in
      within 161 6208 b _ _ (omega arith) (sum_at r.target.number r.source.number h.0 h.1.0 (ltb-true r.target.number 8 both.0) (ltb-true r.source.number 8 both.1))
  outcome_gives (instr.Extend e d t) w h =
      let small : t.number < 8 = t.below in
      let wt = wide_at t.number h.1.0 in
      within 0 6208 b _ _ (omega arith) (moved_at (extended e (word s.r t.number)) (λ m. extension_of e (values_at m s t.number)) (length-extended e (word s.r t.number) wt) (AllBelow-extended b.variables e (word s.r t.number) (below_at t.number))
      (λ m. extended_is m e (word s.r t.number) wt ∙ ap (extension_of e) (register_value m s t.number (omega arith))))
  outcome_gives (instr.Reverse r d t) w h =
      let small : t.number < 8 = t.below in
      let wt = wide_at t.number h.1.0 in
      within 0 6208 b _ _ (omega arith) (moved_at (turned r (word s.r t.number)) (λ m. reversal_of r (values_at m s t.number)) (length-turned r (word s.r t.number) wt) (AllBelow-turned b.variables r (word s.r t.number) (below_at t.number))
      (λ m. turned_is m r (word s.r t.number) wt ∙ ap (reversal_of r) (register_value m s t.number (omega arith))))
  outcome_gives i w h = absurd cc

  -- a slot, where w are the bits of the symbol's value
  pub slot_outcome_gives : (w : List Bit) (at : (ℕ → Bool) → Byte) → length w ≡ 32 → AllBelow b.variables w → ((m : ℕ → Bool) → number_of m w ≡ (at m).number) → (x : Slot) → IsSlotOver (length s.r) x
      → OutcomeGives 6208 b (λ d. slot_outcome w d x s) (λ m. left_by (filled_slot (at m) x) (values_at m s))
  slot_outcome_gives w at wide below is (Plain i) h = outcome_gives i h.0 h.1
  slot_outcome_gives w at wide below is (Hole o d) h = within 193 6208 b _ _ (omega arith) (byte_at o d.number w (λ m. (at m).number) h d.below wide below is)

-- the target is one of the first k registers, and a low one
target_there : (i : Instr) (k : ℕ) → is_in_window i ≡ true → AreBelow k (named i) → target_of i < k
target_there (instr.Mov d t) k w h = h.0
target_there i k w h = grind arith

target_low : (i : Instr) → is_in_window i ≡ true → target_of i < 8
target_low i w = target_there i 8 w (named_low i w)

pub slot_there : (x : Slot) (k : ℕ) → IsSlotOver k x → slot_target x < k
slot_there (Plain i) k h = target_there i k h.0 h.1
slot_there (Hole o d) k h = h

slot_low : (x : Slot) (k : ℕ) → IsSlotOver k x → slot_target x < 8
slot_low (Plain i) k h = target_low i h.0
slot_low (Hole o d) k h = d.below

slot_outputs_are : (x : Slot) (k : ℕ) (y : Byte) (v : Values) (i : ℕ) → IsSlotOver k x
    → assigned (outputs (filled_slot y x) v) v i ≡ assigned (all_outputs (slot_target x) (left_by (filled_slot y x) v)) v i
slot_outputs_are (Plain p) k y v i h = outputs_are p v i h.0 (target_low p h.0)
slot_outputs_are (Hole o d) k y v i h = outputs_are (instr.TwoNumber o d y) v i refl d.below

-- ---- writing an outcome

number_set : (m : ℕ → Bool) (ws : List (List Bit)) (d x : ℕ) (w : List Bit) → d < length ws → number_of m (word (set ws d w) x) ≡ cond (eqb x d) (number_of m w) (number_of m (word ws x))
number_set m ws d x w h =
    ⊎_elim
    (λ (t : eqb x d ≡ true). let e : x ≡ d = eqb-true x d t in ap (λ k. number_of m (word (set ws d w) k)) e ∙ ap (number_of m) (get_or-set_same ws d w [] h) ∙ sym (cond-true (eqb x d) (number_of m w) (number_of m (word ws x)) t))
    (λ (f : eqb x d ≡ false). ap (number_of m) (get_or-set_other ws d x w [] (λ e. let t : eqb x d ≡ true = eq-eqb x d e in absurd cc)) ∙ sym (cond-false (eqb x d) (number_of m w) (number_of m (word ws x)) f))
    (cases_Bool (eqb x d))

-- writing an item: testing the flags before the target, and the target before the flags, give the same value
tests_turn : (td tn tz tc tv : Bool) (N Z C V n z c v y r : ℕ) → (td ≡ true → (tn ≡ false) × (tz ≡ false) × (tc ≡ false) × (tv ≡ false))
    → cond tn N (cond tz Z (cond tc C (cond tv V (cond td y r)))) ≡ cond td y (cond tn N (cond tz Z (cond tc C (cond tv V (cond tn n (cond tz z (cond tc c (cond tv v r))))))))
tests_turn true tn tz tc tv N Z C V n z c v y r h = let e = h refl in rw (e.0, e.1, e.2, e.3) refl
tests_turn false true tz tc tv N Z C V n z c v y r h = refl
tests_turn false false true tc tv N Z C V n z c v y r h = refl
tests_turn false false false true tv N Z C V n z c v y r h = refl
tests_turn false false false false true N Z C V n z c v y r h = refl
tests_turn false false false false false N Z C V n z c v y r h = refl

-- the target is a register
register_test : (td tr : Bool) (y r : ℕ) → (td ≡ true → tr ≡ true) → cond tr (cond td y r) 0 ≡ cond td y (cond tr r 0)
register_test true tr y r h = ap (λ t. cond t y 0) (h refl)
register_test false tr y r h = refl

is_register : (x d : ℕ) → d < 8 → eqb x d ≡ true → ltb x 15 ≡ true
is_register x d h t = let e : x ≡ d = eqb-true x d t in lt-ltb x 15 (omega arith)

no_flag : (x d f : ℕ) → d < 15 → 15 ≤ f → eqb x d ≡ true → eqb x f ≡ false
no_flag x d f h g t = let e : x ≡ d = eqb-true x d t in ne_eqb x f (λ q. omega arith)

written_values : (m : ℕ → Bool) (s : Bits) (o : ResultBits) (d x : ℕ) → d < 8 → d < length s.r → values_at m (written d o s) x ≡ assigned (all_outputs d (numbers_of m o)) (values_at m s) x
written_values m s o d x small h =
    ap (λ r. cond (eqb x n_flag) (from_bool (bit_value m o.n)) (cond (eqb x z_flag) (from_bool (bit_value m o.z)) (cond (eqb x c_flag) (from_bool (bit_value m o.c)) (cond (eqb x v_flag) (from_bool (bit_value m o.v)) r))))
    (ap (λ r. cond (ltb x 15) r 0) (number_set m s.r d x o.value h) ∙ register_test (eqb x d) (ltb x 15) (number_of m o.value) (number_of m (word s.r x)) (is_register x d small))
    ∙ tests_turn (eqb x d) (eqb x n_flag) (eqb x z_flag) (eqb x c_flag) (eqb x v_flag) _ _ _ _ (from_bool (bit_value m s.n)) (from_bool (bit_value m s.z)) (from_bool (bit_value m s.c)) (from_bool (bit_value m s.v)) (number_of m o.value) (cond (ltb x 15) (number_of m (word s.r x)) 0)
    (λ t. (no_flag x d 15 (omega arith) (omega arith) t, no_flag x d 16 (omega arith) (omega arith) t, no_flag x d 17 (omega arith) (omega arith) t, no_flag x d 18 (omega arith) (omega arith) t))

-- the properties of the circuit of a slot
pub record FormedGives (n : ℕ) (b : Built) (s : Bits) (step : Built → Built × Bits) (f : (ℕ → Bool) → Values → Values) : Type 0 where
  pub goes : Goes n b step
  pub are : AreOf (step b).0.variables (step b).1
  pub count : length (step b).1.r ≡ length s.r
  pub value : (m : ℕ → Bool) → GatesHold m (step b).0.gates → (x : ℕ) → values_at m (step b).1 x ≡ f m (values_at m s) x

abbrev pub bound_of : List Slot → ℕ
bound_of xs = 6208 * length xs

same_values : (f g : Values) → ((x : ℕ) → f x ≡ g x) → f ≡ g
same_values f g h = λ i x. h x i

module _ (low : ℕ) (w : List Bit) (at : (ℕ → Bool) → Byte) (wide : length w ≡ 32) (is : (m : ℕ → Bool) → number_of m w ≡ (at m).number) where
  formed_gives : (b : Built) (s : Bits) (x : Slot) → Ready low b → AreOf b.variables s → AllBelow b.variables w → IsSlotOver (length s.r) x → FormedGives 6208 b s (λ d. formed w d x s) (λ m. after (filled_slot (at m) x))
  formed_gives b s x k are below h =
      let o = slot_outcome w b x s in
      let og = slot_outcome_gives low b s k are w at wide below is x h in
      let d : ℕ = slot_target x in
      let g = og.goes.grows in
      record {
        goes = Goes-map 6208 b (λ q. written d q s) (λ c. slot_outcome w c x s) og.goes;
        are = record {
          words = AllWords-set o.0.variables s.r d o.1.value (AllWords-more b.variables o.0.variables s.r g.more are.words) og.is.wide og.is.value;
          n_of = og.is.n_of;
          z_of = og.is.z_of;
          c_of = og.is.c_of;
          v_of = og.is.v_of;
        };
        count = length-set s.r d o.1.value;
        value = λ m holds y.
            written_values m s o.1 d y (slot_low x (length s.r) h) (slot_there x (length s.r) h) ∙ ap (λ q. assigned (all_outputs d q) (values_at m s) y) (og.value m holds)
            ∙ sym (slot_outputs_are x (length s.r) (at m) (values_at m s) y h);
      }

  pub run_gives : (b : Built) (s : Bits) (xs : List Slot) → Ready low b → AreOf b.variables s → AllBelow b.variables w → AreSlotsOver (length s.r) xs
      → FormedGives (bound_of xs) b s (λ d. formed_all w d xs s) (λ m. after_all (map (filled_slot (at m)) xs))
  run_gives b s [] k are below over = record { goes = Goes-none 0 b s; are = are; count = refl; value = λ m _ x. refl }
  run_gives b s (x ∷ xs) k are below over =
      let here = formed w b x s in
      let hg = formed_gives b s x k are below over.0 in
      let g = hg.goes.grows in
      let rg = run_gives here.0 here.1 xs (g.ready low k) hg.are (all_later 6208 b here.0 w g below) (subst (λ n. AreSlotsOver n xs) (sym hg.count) over.1) in
      record {
        goes = Goes-then (bound_of (x ∷ xs)) 6208 (bound_of xs) b (λ d. formed w d x s) (λ t d. formed_all w d xs t) (omega arith) hg.goes rg.goes;
        are = rg.are;
        count = rg.count ∙ hg.count;
        value = λ m holds y.
            rg.value m holds y
            ∙ ap (λ v. after_all (map (filled_slot (at m)) xs) v y) (same_values (values_at m here.1) (after (filled_slot (at m) x) (values_at m s)) (hg.value m (rg.goes.grows.kept m holds)));
      }
