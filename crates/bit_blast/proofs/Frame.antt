-- An instruction over the first k registers reads only those and the flags.
use Rattle.std.proofs.Common.{◌≡◌, ℕ, ◌<◌, inl, inr, List, [], ◌∷◌, true, false, cond, eqb, ap, ◌∙◌, arith}
use Rattle.thumb_instr.specs.declared.instr.Instr.{Instr}
use Rattle.thumb_instr.specs.declared.instr.Instr.TheVariants as instr
use Rattle.thumb_instr.specs.declared.operation.SumOperation.TheVariants as sum
use Rattle.std.proofs.lemmas.Bool.{and_parts, ltb-true}
use Rattle.std.proofs.Common.{ltb}
use Rattle.word_bits.specs.declared.Shift.TheVariants as shift
use Rattle.word_bits.specs.Word.{shift_of}
use Rattle.thumb_instr.specs.Window.{is_in_window, named, AreBelow}
use Rattle.thumb_model.specs.Effect.{Values, assigned, written_to, c_flag, result_outputs, shift_outputs, sum_outputs, three_sum, right_shift, extension_of, reversal_of, two_outputs, byte_outputs, outputs, after, after_all, AreOver}
use Rattle.bit_blast.specs.Exactness.{SameOver}

module _ (k : ℕ) (v w : Values) (same : SameOver k v w) where
  at : (x : ℕ) → x < k → x < 8 → v x ≡ w x
  at x h small = same x (inl (h, omega arith))

  c_same : v c_flag ≡ w c_flag
  c_same = same c_flag (inr (omega arith, omega arith))

  outputs_same : (i : Instr) → is_in_window i ≡ true → AreBelow k (named i) → outputs i v ≡ outputs i w
  outputs_same (instr.Mov d t) e h =
      let both : (ltb d.number 8 ≡ true) × (ltb t.number 8 ≡ true) = and_parts (ltb d.number 8) (ltb t.number 8) e in
      ap (λ x. (d.number, written_to d.number x) ∷ []) (at t.number h.1.0 (ltb-true t.number 8 both.1))
  outputs_same (instr.Three s d n t) e h = ap (λ x. sum_outputs d.number (three_sum s x (v t.number))) (at n.number h.1.0 n.below) ∙ ap (λ y. sum_outputs d.number (three_sum s (w n.number) y)) (at t.number h.1.1.0 t.below)
  outputs_same (instr.Two o d t) e h =
      ap (λ x. two_outputs o d.number x (v t.number) (v c_flag)) (at d.number h.0 d.below) ∙ ap (λ y. two_outputs o d.number (w d.number) y (v c_flag)) (at t.number h.1.0 t.below) ∙ ap (two_outputs o d.number (w d.number) (w t.number)) c_same
  outputs_same (instr.Movs d t) e h = ap (result_outputs d.number) (at t.number h.1.0 t.below)
  outputs_same (instr.ShiftLeft d t i) e h = ap (λ x. shift_outputs d.number (shift_of shift.Lsl x i.number false)) (at t.number h.1.0 t.below)
  outputs_same (instr.ShiftRight s d t i) e h = ap (λ x. shift_outputs d.number (shift_of (right_shift s) x i.number false)) (at t.number h.1.0 t.below)
  outputs_same (instr.ThreeNumber s d n i) e h = ap (λ x. sum_outputs d.number (three_sum s x i.number)) (at n.number h.1.0 n.below)
  outputs_same (instr.TwoNumber o d i) e h = ap (λ x. byte_outputs o d.number x i.number) (at d.number h.0 d.below)
  outputs_same (instr.Add r) e h =
      let both : (ltb r.target.number 8 ≡ true) × (ltb r.source.number 8 ≡ true) = and_parts (ltb r.target.number 8) (ltb r.source.number 8) e in
      ap (λ x. (r.target.number, written_to r.target.number (three_sum sum.Add x (v r.source.number)).value) ∷ []) (at r.target.number h.0 (ltb-true r.target.number 8 both.0))
      ∙ ap (λ y. (r.target.number, written_to r.target.number (three_sum sum.Add (w r.target.number) y).value) ∷ []) (at r.source.number h.1.0 (ltb-true r.source.number 8 both.1))
  outputs_same (instr.Extend o d t) e h = ap (λ x. (d.number, extension_of o x) ∷ []) (at t.number h.1.0 t.below)
  outputs_same (instr.Reverse r d t) e h = ap (λ x. (d.number, reversal_of r x) ∷ []) (at t.number h.1.0 t.below)
  outputs_same i e h = absurd cc

assigned_same : (os : List (ℕ × ℕ)) (v w : Values) (x : ℕ) → v x ≡ w x → assigned os v x ≡ assigned os w x
assigned_same [] v w x e = e
assigned_same (o ∷ os) v w x e = ap (cond (eqb x o.0) o.1) (assigned_same os v w x e)

after_same : (k : ℕ) (v w : Values) (i : Instr) → SameOver k v w → is_in_window i ≡ true → AreBelow k (named i) → SameOver k (after i v) (after i w)
after_same k v w i same e h = λ x p. ap (λ os. assigned os v x) (outputs_same k v w same i e h) ∙ assigned_same (outputs i w) v w x (same x p)

pub after_all_same : (k : ℕ) (is : List Instr) (v w : Values) → SameOver k v w → AreOver k is → SameOver k (after_all is v) (after_all is w)
after_all_same k [] v w same over = same
after_all_same k (i ∷ is) v w same over = after_all_same k is (after i v) (after i w) (after_same k v w i same over.0 over.1) over.2
