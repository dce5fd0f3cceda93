-- An instruction over the first registers leaves the others as they are.
use Rattle.std.proofs.Common.{◌≡◌, ℕ, ◌+◌, ◌<◌, ◌≤◌, ◌⊎◌, inl, inr, Bool, true, false, List, [], ◌∷◌, ◌==◌, suc, refl, length, drop, ap, sym, ◌∙◌, subst, arith, ne_eqb, get_or}
use Rattle.std.specs.Prelude.{bit_and}
use Rattle.std.proofs.Math.Seq.{drop-cons}
use Rattle.word_bits.specs.declared.Sum.{Sum as WordSum}
use Rattle.thumb_instr.specs.declared.instr.Instr.{Instr}
use Rattle.thumb_instr.specs.declared.instr.Instr.TheVariants as instr
use Rattle.thumb_instr.specs.declared.operation.Operation.{Operation}
use Rattle.thumb_instr.specs.declared.operation.Operation.TheVariants as operation
use Rattle.thumb_instr.specs.declared.operation.ByteOperation.{ByteOperation}
use Rattle.thumb_instr.specs.declared.operation.ByteOperation.TheVariants as byte
use Rattle.thumb_instr.specs.declared.operation.SumOperation.TheVariants as sum
use Rattle.thumb_instr.specs.Window.{is_in_window, named, AreBelow}
use Rattle.thumb_model.specs.Effect.{Values, one_of, outputs, result_flags, sum_flags, result_outputs, shift_outputs, sum_outputs, three_sum, two_outputs, byte_outputs, after, AreOver}
use Rattle.thumb_model.proofs.Law.{keys, assigned_other}

-- registers below k and flags
abbrev AreWritten : ℕ → List ℕ → Type 0
AreWritten k [] = Unit {0}
AreWritten k (x ∷ xs) = ((x < k) ⊎ (15 ≤ x)) × AreWritten k xs

result_flags_written : (k x : ℕ) → AreWritten k (keys (result_flags x))
result_flags_written k x = (inr (omega arith), (inr (omega arith), tt))

sum_flags_written : (k : ℕ) (s : WordSum) → AreWritten k (keys (sum_flags s))
sum_flags_written k s = (inr (omega arith), (inr (omega arith), (inr (omega arith), (inr (omega arith), tt))))

result_written : (k d x : ℕ) → d < k → AreWritten k (keys (result_outputs d x))
result_written k d x h = (inl h, result_flags_written k x)

shift_written : (k d : ℕ) (r : ℕ × Bool) → d < k → AreWritten k (keys (shift_outputs d r))
shift_written k d r h = (inl h, (inr (omega arith), (inr (omega arith), (inr (omega arith), tt))))

sum_written : (k d : ℕ) (r : WordSum) → d < k → AreWritten k (keys (sum_outputs d r))
sum_written k d r h = (inl h, sum_flags_written k r)

two_written : (k : ℕ) (o : Operation) (d x y c : ℕ) → d < k → AreWritten k (keys (two_outputs o d x y c))
two_written k operation.And d x y c h = result_written k d (bit_and x y) h
two_written k o d x y c h = search (result_written, shift_written, sum_written, result_flags_written, sum_flags_written)

byte_written : (k : ℕ) (o : ByteOperation) (d x n : ℕ) → d < k → AreWritten k (keys (byte_outputs o d x n))
byte_written k byte.Mov d x n h = result_written k d n h
byte_written k byte.Cmp d x n h = sum_flags_written k (three_sum sum.Sub x n)
byte_written k byte.Add d x n h = sum_written k d (three_sum sum.Add x n) h
byte_written k byte.Sub d x n h = sum_written k d (three_sum sum.Sub x n) h

one_written : (k d x : ℕ) → d < k → AreWritten k (keys ((d, x) ∷ []))
one_written k d x h = (inl h, tt)

-- a row: an instruction writes only these
outputs_written : (k : ℕ) (i : Instr) (w : Values) → is_in_window i ≡ true → AreBelow k (named i) → AreWritten k (keys (outputs i w))
outputs_written k (instr.Mov d m) w t b = (inl b.0, tt)
outputs_written k i w t b = first_of (search (result_written, shift_written, sum_written, two_written, byte_written, one_written), grind arith)

others : (k x : ℕ) (xs : List ℕ) → k ≤ x → x < 15 → AreWritten k xs → one_of x xs ≡ false
others k x [] h l a = refl
others k x (y ∷ ys) h l a =
    let other : (x == y) ≡ false = ne_eqb x y (λ e. elim a.0 [ inl low ↦ omega arith | inr high ↦ omega arith ]) in
    rw other (others k x ys h l a.1)

pub instr_keeps : (k x : ℕ) (i : Instr) (v : Values) → is_in_window i ≡ true → AreBelow k (named i) → k ≤ x → x < 15 → after i v x ≡ v x
instr_keeps k x i v t b h l = assigned_other (outputs i v) v x (others k x (keys (outputs i v)) h l (outputs_written k i v t b))

-- ---- instructions, one after the other ----

pub over_at : (k : ℕ) (instrs : List Instr) (i : ℕ) (x : Instr) → i < length instrs → x ≡ get_or instrs i x → AreOver k (drop i instrs)
    → (is_in_window x ≡ true) × AreBelow k (named x) × AreOver k (drop (i + 1) instrs)
over_at k instrs i x h item over =
    let one : suc i ≡ i + 1 = omega arith in
    let here : drop i instrs ≡ x ∷ drop (i + 1) instrs = drop-cons instrs i x h ∙ ap (λ n. get_or instrs i x ∷ drop n instrs) one ∙ ap (λ y. y ∷ drop (i + 1) instrs) (sym item) in
    subst (AreOver k) here over
