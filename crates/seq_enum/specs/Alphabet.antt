-- Pools of numbers, the instructions of an alphabet in order, and its sequences by number: a table's numbers of sequences rest on this order.
use Rattle.std.specs.Prelude.{◌≡◌, ℕ, zero, suc, Bool, true, false, nat_lt, nat_le, ◌&&◌, List, [], ◌∷◌, map, slice_get, Option, Some, length, ◌==◌, not, ◌++◌, filter, Contains, All}
use Rattle.std.specs.List.{flat_map, list_all}
use Rattle.std.proofs.Common.{leb-true, ltb-true, refl, ◌<◌, subst, lit≤}
use Rattle.thumb_instr.specs.declared.within.Within.{Within}
use Rattle.thumb_instr.specs.declared.within.NotBothSp.{NotBothSp}
use Rattle.thumb_instr.specs.declared.instr.Instr.{Instr}
use Rattle.thumb_instr.specs.declared.instr.Instr.TheVariants as instr
use Rattle.thumb_instr.specs.declared.kind.Kind.{Kind}
use Rattle.thumb_instr.specs.declared.kind.Kind.TheVariants as kind
use Rattle.thumb_instr.specs.declared.operation.SumOperation.TheVariants as sum
use Rattle.thumb_instr.specs.declared.operation.ByteOperation.TheVariants as byte
use Rattle.thumb_instr.specs.declared.operation.Right.TheVariants as right
use Rattle.thumb_instr.specs.declared.operation.Operation.TheVariants as operation
use Rattle.thumb_instr.specs.declared.operation.Extension.TheVariants as extension
use Rattle.thumb_instr.specs.declared.operation.Reversal.TheVariants as reversal
use Rattle.std.proofs.Math.Nat.{lt_of_lt_of_le}
use Rattle.std.proofs.Math.Dec.{le→leb}

-- Lists of numbers, of operands and of instructions made of these, and places in lists.

-- `count` numbers from `first` on
unfoldable pub numbers_from : ℕ → ℕ → List ℕ
numbers_from first zero = []
numbers_from first (suc count) = first ∷ numbers_from (suc first) count

-- each number is above the one before, and the first at least `low`
unfoldable pub ascends_from : ℕ → List ℕ → Bool
ascends_from low [] = true
ascends_from low (x ∷ xs) = nat_le low x && ascends_from (suc x) xs

-- the list of this one number, if it is from `least` to below `limit`, else the empty list
abbrev pub if_within : (least limit n : ℕ) (high low : Bool) → nat_le least n ≡ high → nat_lt n limit ≡ low → List (Within least limit)
if_within least limit n true true h k = record { number = n; least = leb-true least n h; below = ltb-true n limit k } ∷ []
if_within least limit n true false h k = []
if_within least limit n false low h k = []

-- those numbers of a list that are from `least` to below `limit`
unfoldable pub those_within : (least limit : ℕ) → List ℕ → List (Within least limit)
those_within least limit numbers = flat_map (λ n. if_within least limit n (nat_le least n) (nat_lt n limit) refl refl) numbers

-- `make` of each pair or triple, the first part varying slowest; the second part of a triple may depend on the first
unfoldable pub grid2 : {X Y A : Type 0} → (X → Y → A) → List X → List Y → List A
grid2 make xs ys = flat_map (λ x. map (make x) ys) xs

unfoldable pub grid3 : {X Y Z A : Type 0} → (X → Y → Z → A) → List X → (X → List Y) → List Z → List A
grid3 make xs ys zs = flat_map (λ x. grid2 (make x) (ys x) zs) xs

-- `place` is the only place of `x` in a list, or None where it isn't in it
pub record IsPlace {A : Type 0} (place : Option ℕ) (xs : List A) (x : A) : Type 0 where
  pub stands : (i : ℕ) → place ≡ Some i → slice_get xs i ≡ Some x
  pub found : (i : ℕ) → slice_get xs i ≡ Some x → place ≡ Some i

-- Pools of numbers.

-- whether a number is from `least` to below `limit`
abbrev pub inside : ℕ → ℕ → ℕ → Bool
inside least limit x = nat_le least x && nat_lt x limit

-- 1 to 16 numbers, each a byte and above the one before
unfoldable pub is_pool : List ℕ → Bool
is_pool numbers = nat_lt 0 (length numbers) && nat_le (length numbers) 16 && list_all (inside 0 256) numbers && ascends_from 0 numbers

-- The alphabet of the registers below r(k) and the numbers of a pool, and its sequences by number.

-- the kinds of instructions in order
unfoldable pub rows : List Kind
rows = kind.Three sum.Add ∷ kind.Three sum.Sub
    ∷ kind.ThreeNumber sum.Add ∷ kind.ThreeNumber sum.Sub
    ∷ kind.TwoNumber byte.Mov ∷ kind.TwoNumber byte.Cmp ∷ kind.TwoNumber byte.Add ∷ kind.TwoNumber byte.Sub
    ∷ kind.ShiftLeft ∷ kind.ShiftRight right.Lsr ∷ kind.ShiftRight right.Asr
    ∷ map kind.Two (operation.And ∷ operation.Eor ∷ operation.Lsl ∷ operation.Lsr ∷ operation.Asr ∷ operation.Adc ∷ operation.Sbc ∷ operation.Ror
    ∷ operation.Tst ∷ operation.Rsb ∷ operation.Cmp ∷ operation.Cmn ∷ operation.Orr ∷ operation.Mul ∷ operation.Bic ∷ operation.Mvn ∷ [])
    ++ kind.Movs ∷ kind.Mov ∷ kind.Add
    ∷ kind.Extend extension.Sxth ∷ kind.Extend extension.Sxtb ∷ kind.Extend extension.Uxth ∷ kind.Extend extension.Uxtb
    ∷ kind.Reverse reversal.Rev ∷ kind.Reverse reversal.Rev16 ∷ kind.Reverse reversal.Revsh ∷ []

-- r0 up to below r(k)
abbrev pub registers : ℕ → List (Within 0 8)
registers k = those_within 0 8 (numbers_from 0 k)

-- the same without register d
abbrev pub others : ℕ → Within 0 8 → List (Within 0 8)
others k d = filter (λ n. not (n.number == d.number)) (registers k)

-- a low register as a register, and two of them as those of `add target, source`: neither is sp
abbrev pub wide : Within 0 8 → Within 0 15
wide r = record { number = r.number; least = r.least; below = lt_of_lt_of_le r.below (lit≤ tt) }

abbrev pub added : Within 0 8 → Within 0 8 → NotBothSp
added d m = record { target = wide d; source = wide m; one_other = λ e. absurd (le→leb 14 8 (subst (λ n. n < 8) e d.below)) }

-- the instructions of a kind: operands from left to right, the first varying slowest, numbers ascending
unfoldable pub members : ℕ → List ℕ → Kind → List Instr
members k pool (kind.Three s) = grid3 (instr.Three s) (registers k) (λ d. registers k) (registers k)
members k pool (kind.ThreeNumber s) = grid3 (instr.ThreeNumber s) (registers k) (others k) (those_within 0 8 pool)
members k pool (kind.TwoNumber o) = grid2 (instr.TwoNumber o) (registers k) (those_within 0 256 pool)
members k pool kind.ShiftLeft = grid3 instr.ShiftLeft (registers k) (λ d. registers k) (those_within 1 32 pool)
members k pool (kind.ShiftRight s) = grid3 (instr.ShiftRight s) (registers k) (λ d. registers k) (those_within 1 33 pool)
members k pool (kind.Two o) = grid2 (instr.Two o) (registers k) (registers k)
members k pool kind.Movs = grid2 instr.Movs (registers k) (registers k)
members k pool kind.Mov = grid2 (λ d m. instr.Mov (wide d) (wide m)) (registers k) (registers k)
members k pool kind.Add = grid2 (λ d m. instr.Add (added d m)) (registers k) (registers k)
members k pool (kind.Extend e) = grid2 (instr.Extend e) (registers k) (registers k)
members k pool (kind.Reverse r) = grid2 (instr.Reverse r) (registers k) (registers k)
members k pool t = []

-- the alphabet
unfoldable pub alphabet : ℕ → List ℕ → List Instr
alphabet k pool = flat_map (members k pool) rows

-- each instruction of a sequence is one of the alphabet
abbrev pub IsOver : ℕ → List ℕ → List Instr → Type 0
IsOver k pool seq = All (Contains (alphabet k pool)) seq

-- the sequences of n items in order, the first item being the most significant: each shorter one with each item appended
unfoldable pub words : {A : Type 0} → List A → ℕ → List (List A)
words items zero = [] ∷ []
words items (suc n) = flat_map (λ w. map (λ x. w ++ x ∷ []) items) (words items n)

-- the sequences of at most five items by number: the shorter ones first
unfoldable pub sequences_of : {A : Type 0} → List A → List (List A)
sequences_of items = flat_map (words items) (numbers_from 0 6)

-- those of the alphabet
abbrev pub sequences : ℕ → List ℕ → List (List Instr)
sequences k pool = sequences_of (alphabet k pool)
