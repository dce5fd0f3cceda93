-- Places as the code computes them by digits: of numbers, of pairs and triples, of kinds, and of a kind's instructions by their operands.
use Rattle.std.specs.Prelude.{ℕ, zero, suc, not, List, [], ◌∷◌, length, filter, slice_get, Option, Some, None, ◌+◌, ◌*◌, ◌/◌, ◌%◌, ◌==◌, if◌then◌else◌}
use Rattle.std.specs.Option.{option_map, option_and_then}
use Rattle.thumb_instr.specs.declared.operation.SumOperation.{SumOperation}
use Rattle.thumb_instr.specs.declared.operation.SumOperation.TheVariants as sum
use Rattle.thumb_instr.specs.declared.operation.ByteOperation.{ByteOperation}
use Rattle.thumb_instr.specs.declared.operation.ByteOperation.TheVariants as byte
use Rattle.thumb_instr.specs.declared.operation.Right.{Right}
use Rattle.thumb_instr.specs.declared.operation.Right.TheVariants as right
use Rattle.thumb_instr.specs.declared.operation.Operation.{Operation}
use Rattle.thumb_instr.specs.declared.operation.Operation.TheVariants as operation
use Rattle.thumb_instr.specs.declared.operation.Extension.{Extension}
use Rattle.thumb_instr.specs.declared.operation.Extension.TheVariants as extension
use Rattle.thumb_instr.specs.declared.operation.Reversal.{Reversal}
use Rattle.thumb_instr.specs.declared.operation.Reversal.TheVariants as reversal
use Rattle.thumb_instr.specs.declared.kind.Kind.{Kind}
use Rattle.thumb_instr.specs.declared.kind.Kind.TheVariants as kind
use Rattle.thumb_instr.specs.declared.kind.Parts.{Parts}
use Rattle.thumb_instr.specs.declared.role.Role.{Role}
use Rattle.thumb_instr.specs.declared.role.Role.TheVariants.{Register, Number}
use Rattle.thumb_instr.specs.Roles.{roles}
use Rattle.thumb_instr.specs.Parts.{of}
use Rattle.seq_enum.specs.Alphabet.{numbers_from, grid3, inside}

-- the first place of a number in a list
unfoldable pub place_of : ℕ → List ℕ → Option ℕ
place_of x [] = None
place_of x (y ∷ ys) = if y == x then Some 0 else option_map (λ i. i + 1) (place_of x ys)

-- the place of a pair whose second part has n values
unfoldable pub paired : ℕ → Option ℕ → Option ℕ → Option ℕ
paired n p q = option_and_then (λ a. option_map (λ b. a * n + b) q) p

-- the pair or triple at a place, by its digits
abbrev pub digits2 : {X Y A : Type 0} → (X → Y → A) → List X → List Y → ℕ → ℕ → Option A
digits2 make xs ys n i = option_and_then (λ x. option_map (make x) (slice_get ys (i % n))) (slice_get xs (i / n))

abbrev pub digits3 : {X Y Z A : Type 0} → (X → Y → Z → A) → List X → (X → List Y) → List Z → ℕ → ℕ → ℕ → Option A
digits3 make xs ys zs m n i = option_and_then (λ x. digits2 (make x) (ys x) zs n (i % (m * n))) (slice_get xs (i / (m * n)))

-- the place of each operation in its enumeration
abbrev pub sum_rank : SumOperation → ℕ
sum_rank sum.Add = 0
sum_rank sum.Sub = 1

abbrev pub byte_rank : ByteOperation → ℕ
byte_rank byte.Mov = 0
byte_rank byte.Cmp = 1
byte_rank byte.Add = 2
byte_rank byte.Sub = 3

abbrev pub right_rank : Right → ℕ
right_rank right.Lsr = 0
right_rank right.Asr = 1

abbrev pub two_rank : Operation → ℕ
two_rank operation.And = 0
two_rank operation.Eor = 1
two_rank operation.Lsl = 2
two_rank operation.Lsr = 3
two_rank operation.Asr = 4
two_rank operation.Adc = 5
two_rank operation.Sbc = 6
two_rank operation.Ror = 7
two_rank operation.Tst = 8
two_rank operation.Rsb = 9
two_rank operation.Cmp = 10
two_rank operation.Cmn = 11
two_rank operation.Orr = 12
two_rank operation.Mul = 13
two_rank operation.Bic = 14
two_rank operation.Mvn = 15

abbrev pub extension_rank : Extension → ℕ
extension_rank extension.Sxth = 0
extension_rank extension.Sxtb = 1
extension_rank extension.Uxth = 2
extension_rank extension.Uxtb = 3

abbrev pub reversal_rank : Reversal → ℕ
reversal_rank reversal.Rev = 0
reversal_rank reversal.Rev16 = 1
reversal_rank reversal.Revsh = 2

-- the place of each kind among the rows
abbrev pub rank : Kind → Option ℕ
rank (kind.Three s) = Some (sum_rank s)
rank (kind.ThreeNumber s) = Some (2 + sum_rank s)
rank (kind.TwoNumber o) = Some (4 + byte_rank o)
rank kind.ShiftLeft = Some 8
rank (kind.ShiftRight s) = Some (9 + right_rank s)
rank (kind.Two o) = Some (11 + two_rank o)
rank kind.Movs = Some 27
rank kind.Mov = Some 28
rank kind.Add = Some 29
rank (kind.Extend e) = Some (30 + extension_rank e)
rank (kind.Reverse r) = Some (34 + reversal_rank r)
rank k = None

-- the values of an operand: the registers below r(k), or the pool's numbers in its range, or 0 alone where there is no operand
abbrev pub values : ℕ → List ℕ → Role → List ℕ
values k pool (Register u c) = numbers_from 0 k
values k pool (Number least end) = filter (inside least end) pool
values k pool r = numbers_from 0 1

-- numbers without one
abbrev pub without : ℕ → List ℕ → List ℕ
without d numbers = filter (λ n. not (n == d)) numbers

-- the values of the second operand for a given first: in a sum with a number each other register; and how many there are
abbrev pub seconds : ℕ → List ℕ → Kind → ℕ → List ℕ
seconds k pool (kind.ThreeNumber s) d = without d (numbers_from 0 k)
seconds k pool t d = values k pool (roles t).second

abbrev pub second_count : ℕ → List ℕ → Kind → ℕ
second_count k pool t = length (seconds k pool t 0)

-- the instructions of a kind by their parts
abbrev pub parts_in : ℕ → List ℕ → Kind → List Parts
parts_in k pool t = grid3 (of t) (values k pool (roles t).first) (seconds k pool t) (values k pool (roles t).third)

-- the sum of f 0 to f (n - 1)
unfoldable pub sum_below : (ℕ → ℕ) → ℕ → ℕ
sum_below f zero = 0
sum_below f (suc n) = sum_below f n + f n
