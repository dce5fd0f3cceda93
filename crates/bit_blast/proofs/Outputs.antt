-- The effect of an instruction in the model, as the new value of its target and the four flags.
use Rattle.std.proofs.Common.{◌≡◌, ℕ, ◌%◌, ◌<◌, List, [], ◌∷◌, Bool, true, false, cond, eqb, refl, sym, ap, ◌∙◌, arith, ⊎_elim, bit_and, bit_or, bit_xor}
use Rattle.std.proofs.lemmas.Bool.{cond-true, cond-false, ne_eqb, eqb-true, cases_Bool}
use Rattle.std.specs.Int.{from_bool, bit_at}
use Rattle.word_bits.specs.declared.Sum.{Sum as WordSum}
use Rattle.word_bits.specs.declared.Shift.TheVariants as shift
use Rattle.word_bits.specs.Word.{sum_of, shift_of}
use Rattle.thumb_instr.specs.declared.instr.Instr.{Instr}
use Rattle.thumb_instr.specs.declared.instr.Instr.TheVariants as instr
use Rattle.thumb_instr.specs.declared.operation.SumOperation.TheVariants as sum
use Rattle.thumb_instr.specs.declared.operation.Operation.{Operation}
use Rattle.thumb_instr.specs.declared.operation.Operation.TheVariants as operation
use Rattle.thumb_instr.specs.declared.operation.ByteOperation.{ByteOperation}
use Rattle.thumb_instr.specs.declared.operation.ByteOperation.TheVariants as byte
use Rattle.thumb_instr.specs.Window.{is_in_window}
use Rattle.thumb_model.proofs.Window.{low_written}
use Rattle.thumb_model.specs.Effect.{Values, assigned, n_flag, z_flag, c_flag, v_flag, result_flags, sum_flags, result_outputs, shift_outputs, complement, three_sum, product, right_shift, extension_of, reversal_of, two_outputs, byte_outputs, outputs}
use Rattle.bit_blast.specs.Slots.{target_of}

-- the value of a target and the flags
pub record Numbers : Type 0 where
  pub value : ℕ
  pub n : ℕ
  pub z : ℕ
  pub c : ℕ
  pub v : ℕ

abbrev pub all_outputs : ℕ → Numbers → List (ℕ × ℕ)
all_outputs d o = (d, o.value) ∷ (n_flag, o.n) ∷ (z_flag, o.z) ∷ (c_flag, o.c) ∷ (v_flag, o.v) ∷ []

-- ---- the effect of each operation

abbrev pub result_numbers : ℕ → ℕ → ℕ → Numbers
result_numbers x c v = record { value = x; n = bit_at x 31; z = from_bool (eqb x 0); c = c; v = v }

abbrev pub sum_numbers : WordSum → Numbers
sum_numbers s = result_numbers s.value (from_bool s.c) (from_bool s.v)

abbrev pub shift_numbers : ℕ × Bool → ℕ → Numbers
shift_numbers s v = result_numbers s.0 (from_bool s.1) v

abbrev pub plain_numbers : ℕ → Values → Numbers
plain_numbers x v = record { value = x; n = v n_flag; z = v z_flag; c = v c_flag; v = v v_flag }

abbrev pub kept_numbers : ℕ → Numbers → Numbers
kept_numbers x o = record o { value = x }

abbrev pub two_left : Operation → ℕ → ℕ → Values → Numbers
two_left operation.And x y v = result_numbers (bit_and x y) (v c_flag) (v v_flag)
two_left operation.Eor x y v = result_numbers (bit_xor x y) (v c_flag) (v v_flag)
two_left operation.Lsl x y v = shift_numbers (shift_of shift.Lsl x (y % 256) (eqb (v c_flag) 1)) (v v_flag)
two_left operation.Lsr x y v = shift_numbers (shift_of shift.Lsr x (y % 256) (eqb (v c_flag) 1)) (v v_flag)
two_left operation.Asr x y v = shift_numbers (shift_of shift.Asr x (y % 256) (eqb (v c_flag) 1)) (v v_flag)
two_left operation.Adc x y v = sum_numbers (sum_of x y (eqb (v c_flag) 1))
two_left operation.Sbc x y v = sum_numbers (sum_of x (complement y) (eqb (v c_flag) 1))
two_left operation.Ror x y v = shift_numbers (shift_of shift.Ror x (y % 256) (eqb (v c_flag) 1)) (v v_flag)
two_left operation.Tst x y v = kept_numbers x (result_numbers (bit_and x y) (v c_flag) (v v_flag))
two_left operation.Rsb x y v = sum_numbers (sum_of (complement y) 0 true)
two_left operation.Cmp x y v = kept_numbers x (sum_numbers (three_sum sum.Sub x y))
two_left operation.Cmn x y v = kept_numbers x (sum_numbers (three_sum sum.Add x y))
two_left operation.Orr x y v = result_numbers (bit_or x y) (v c_flag) (v v_flag)
two_left operation.Mul x y v = result_numbers (product y x) (v c_flag) (v v_flag)
two_left operation.Bic x y v = result_numbers (bit_and x (complement y)) (v c_flag) (v v_flag)
two_left operation.Mvn x y v = result_numbers (complement y) (v c_flag) (v v_flag)

abbrev pub byte_left : ByteOperation → ℕ → ℕ → Values → Numbers
byte_left byte.Mov x n v = result_numbers n (v c_flag) (v v_flag)
byte_left byte.Cmp x n v = kept_numbers x (sum_numbers (three_sum sum.Sub x n))
byte_left byte.Add x n v = sum_numbers (three_sum sum.Add x n)
byte_left byte.Sub x n v = sum_numbers (three_sum sum.Sub x n)

abbrev pub left_by : Instr → Values → Numbers
left_by (instr.Mov d m) v = plain_numbers (v m.number) v
left_by (instr.Three s d n m) v = sum_numbers (three_sum s (v n.number) (v m.number))
left_by (instr.Two o d m) v = two_left o (v d.number) (v m.number) v
left_by (instr.Movs d m) v = result_numbers (v m.number) (v c_flag) (v v_flag)
left_by (instr.ShiftLeft d m i) v = shift_numbers (shift_of shift.Lsl (v m.number) i.number false) (v v_flag)
left_by (instr.ShiftRight s d m i) v = shift_numbers (shift_of (right_shift s) (v m.number) i.number false) (v v_flag)
left_by (instr.ThreeNumber s d n i) v = sum_numbers (three_sum s (v n.number) i.number)
left_by (instr.TwoNumber o d i) v = byte_left o (v d.number) i.number v
left_by (instr.Add r) v = plain_numbers (three_sum sum.Add (v r.target.number) (v r.source.number)).value v
left_by (instr.Extend e d m) v = plain_numbers (extension_of e (v m.number)) v
left_by (instr.Reverse r d m) v = plain_numbers (reversal_of r (v m.number)) v
left_by i v = plain_numbers (v 0) v

-- ---- an item that keeps its value

keep : (v : Values) (x k : ℕ) → v x ≡ cond (eqb x k) (v k) (v x)
keep v x k =
    ⊎_elim
    (λ (t : eqb x k ≡ true). ap v (eqb-true x k t) ∙ sym (cond-true (eqb x k) (v k) (v x) t))
    (λ (f : eqb x k ≡ false). sym (cond-false (eqb x k) (v k) (v x) f))
    (cases_Bool (eqb x k))

-- the value of item x: that of the flag with this number, and r for any other item
abbrev flags_from : ℕ → ℕ → ℕ → ℕ → ℕ → ℕ → ℕ
flags_from x n z c v r = cond (eqb x n_flag) n (cond (eqb x z_flag) z (cond (eqb x c_flag) c (cond (eqb x v_flag) v r)))

with_all_kept : (v : Values) (x : ℕ) → v x ≡ flags_from x (v n_flag) (v z_flag) (v c_flag) (v v_flag) (v x)
with_all_kept v x =
    keep v x n_flag ∙ ap (cond (eqb x n_flag) (v n_flag)) (keep v x z_flag ∙ ap (cond (eqb x z_flag) (v z_flag)) (keep v x c_flag ∙ ap (cond (eqb x c_flag) (v c_flag)) (keep v x v_flag)))

plain_outputs : (d y : ℕ) (v : Values) (x : ℕ) → assigned ((d, y) ∷ []) v x ≡ assigned (all_outputs d (plain_numbers y v)) v x
plain_outputs d y v x = ap (cond (eqb x d) y) (with_all_kept v x)

outputs_of_result : (d y : ℕ) (v : Values) (x : ℕ) → assigned (result_outputs d y) v x ≡ assigned (all_outputs d (result_numbers y (v c_flag) (v v_flag))) v x
outputs_of_result d y v x =
    ap (λ r. cond (eqb x d) y (cond (eqb x n_flag) (bit_at y 31) (cond (eqb x z_flag) (from_bool (eqb y 0)) r)))
    (keep v x c_flag ∙ ap (cond (eqb x c_flag) (v c_flag)) (keep v x v_flag))

outputs_of_shift : (d : ℕ) (s : ℕ × Bool) (v : Values) (x : ℕ) → assigned (shift_outputs d s) v x ≡ assigned (all_outputs d (shift_numbers s (v v_flag))) v x
outputs_of_shift d s v x =
    ap (λ r. cond (eqb x d) s.0 (cond (eqb x n_flag) (bit_at s.0 31) (cond (eqb x z_flag) (from_bool (eqb s.0 0)) (cond (eqb x c_flag) (from_bool s.1) r)))) (keep v x v_flag)

-- writing only flags leaves the registers unchanged
at_register : (d n z c v r : ℕ) → d < 15 → r ≡ flags_from d n z c v r
at_register d n z c v r h =
    sym (cond-false (eqb d n_flag) n _ (ne_eqb d 15 (λ e. omega arith)) ∙ cond-false (eqb d z_flag) z _ (ne_eqb d 16 (λ e. omega arith))
    ∙ cond-false (eqb d c_flag) c _ (ne_eqb d 17 (λ e. omega arith)) ∙ cond-false (eqb d v_flag) v r (ne_eqb d 18 (λ e. omega arith)))

kept_target : (d n z c w : ℕ) (v : Values) (x : ℕ) → d < 15 → flags_from x n z c w (v x) ≡ cond (eqb x d) (v d) (flags_from x n z c w (v x))
kept_target d n z c w v x h =
    ⊎_elim
    (λ (t : eqb x d ≡ true).
    let e : x ≡ d = eqb-true x d t in
    ap (λ k. flags_from k n z c w (v k)) e ∙ sym (at_register d n z c w (v d) h) ∙ sym (cond-true (eqb x d) (v d) (flags_from x n z c w (v x)) t))
    (λ (f : eqb x d ≡ false). sym (cond-false (eqb x d) (v d) (flags_from x n z c w (v x)) f))
    (cases_Bool (eqb x d))

outputs_of_test : (d y : ℕ) (v : Values) (x : ℕ) → d < 15 → assigned (result_flags y) v x ≡ assigned (all_outputs d (kept_numbers (v d) (result_numbers y (v c_flag) (v v_flag)))) v x
outputs_of_test d y v x h =
    ap (λ r. cond (eqb x n_flag) (bit_at y 31) (cond (eqb x z_flag) (from_bool (eqb y 0)) r)) (keep v x c_flag ∙ ap (cond (eqb x c_flag) (v c_flag)) (keep v x v_flag))
    ∙ kept_target d (bit_at y 31) (from_bool (eqb y 0)) (v c_flag) (v v_flag) v x h

outputs_of_compare : (d : ℕ) (s : WordSum) (v : Values) (x : ℕ) → d < 15 → assigned (sum_flags s) v x ≡ assigned (all_outputs d (kept_numbers (v d) (sum_numbers s))) v x
outputs_of_compare d s v x h = kept_target d (bit_at s.value 31) (from_bool (eqb s.value 0)) (from_bool s.c) (from_bool s.v) v x h

-- ---- by operation, and by instruction

two_is : (o : Operation) (d y : ℕ) (v : Values) (x : ℕ) → d < 15 → assigned (two_outputs o d (v d) y (v c_flag)) v x ≡ assigned (all_outputs d (two_left o (v d) y v)) v x
two_is operation.Tst d y v x h = outputs_of_test d (bit_and (v d) y) v x h
two_is operation.Cmp d y v x h = outputs_of_compare d (three_sum sum.Sub (v d) y) v x h
two_is operation.Cmn d y v x h = outputs_of_compare d (three_sum sum.Add (v d) y) v x h
two_is o d y v x h = search (outputs_of_result, outputs_of_shift)

byte_is : (o : ByteOperation) (d n : ℕ) (v : Values) (x : ℕ) → d < 15 → assigned (byte_outputs o d (v d) n) v x ≡ assigned (all_outputs d (byte_left o (v d) n v)) v x
byte_is byte.Mov d n v x h = outputs_of_result d n v x
byte_is byte.Cmp d n v x h = outputs_of_compare d (three_sum sum.Sub (v d) n) v x h
byte_is byte.Add d n v x h = refl
byte_is byte.Sub d n v x h = refl

pub outputs_are : (i : Instr) (v : Values) (x : ℕ) → is_in_window i ≡ true → target_of i < 8 → assigned (outputs i v) v x ≡ assigned (all_outputs (target_of i) (left_by i v)) v x
outputs_are (instr.Mov d m) v x w h = ap (λ y. assigned ((d.number, y) ∷ []) v x) (low_written d.number (v m.number) h) ∙ plain_outputs d.number (v m.number) v x
outputs_are (instr.Add r) v x w h =
    ap (λ y. assigned ((r.target.number, y) ∷ []) v x) (low_written r.target.number (three_sum sum.Add (v r.target.number) (v r.source.number)).value h)
    ∙ plain_outputs r.target.number (three_sum sum.Add (v r.target.number) (v r.source.number)).value v x
outputs_are i v x w h = first_of (search (arith, outputs_of_result, outputs_of_shift, plain_outputs, two_is, byte_is), cc)
