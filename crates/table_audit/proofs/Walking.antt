-- Bounds on the registers that sequences name, which the functions on the first k registers require.
use Rattle.std.proofs.Common.{◌≡◌, ℕ, ◌≤◌, inl, inr, List, [], ◌∷◌, Some, slice_get, arith}
use Rattle.thumb_instr.specs.declared.instr.Instr.{Instr}
use Rattle.thumb_instr.specs.Window.{named, AreBelow}
use Rattle.thumb_model.specs.Effect.{AreOver, above, register_count}
use Rattle.thumb_model.proofs.Small.{below_more}
use Rattle.seq_enum.specs.Alphabet.{sequences}
use Rattle.bit_blast.specs.Exactness.{IsMaskOver}
use Rattle.rule_table.specs.Header.{Header}
use Rattle.table_audit.specs.Shorter.{named_count, alphabet_registers, IsCanonicalSide}
use Rattle.seq_enum.proofs.Shared.{over_sequences}
use Rattle.table_audit.proofs.Fitting.{are_over, ordered_of}
use Rattle.rule_model.proofs.Table.{over_wider}

-- ---- registers below k are below more ----

below_above : (xs : List ℕ) → AreBelow (above xs) xs
below_above [] = tt
below_above (x ∷ xs) = (omega arith, below_more (above xs) (above (x ∷ xs)) xs (omega arith) (below_above xs))

-- instructions name no register above the greatest
pub counted_over : (k : ℕ) (s : List Instr) → AreOver k s → AreOver (register_count s) s
counted_over k [] o = tt
counted_over k (i ∷ is) o =
    (o.0, below_more (above (named i)) (register_count (i ∷ is)) (named i) (omega arith) (below_above (named i)), over_wider (register_count is) (register_count (i ∷ is)) is (omega arith) (counted_over k is o.2))

pub mask_more : (k m mask : ℕ) → k ≤ m → IsMaskOver k mask → IsMaskOver m mask
mask_more k m mask h over x at = elim (over x at) [
  | inl low ↦ inl (omega (arith, low))
  | inr high ↦ inr high
]

-- the left side names no more registers than the alphabet has
pub own_within : (h : Header) (left : List Instr) → IsCanonicalSide left → named_count left ≤ alphabet_registers h left
own_within h left c = omega (arith, (ordered_of left c).few)

pub numbered_over : (k : ℕ) (pool : List ℕ) (q : ℕ) (s : List Instr) → k ≤ 4 → slice_get (sequences k pool) q ≡ Some s → AreOver k s
numbered_over k pool q s few e = are_over k pool s (omega arith) (over_sequences k pool q s e)
