-- Costs of instructions, and their text.
use Rattle.std.specs.Prelude.{◌≡◌, ◌≤◌, ℕ, List, length, get_or, sum_by, Option, Some, None, ◌<◌, ◌+◌, ◌==◌, [], ◌∷◌, ◌++◌, map, filter, codes, decimal}
use Rattle.std.specs.List.{All, flat_map}
use Rattle.thumb_instr.specs.declared.instr.Instr.{Instr}
use Rattle.thumb_instr.specs.declared.kind.Kind.{Kind}
use Rattle.thumb_instr.specs.declared.kind.Kind.TheVariants as kind
use Rattle.thumb_instr.specs.declared.operation.SumOperation.TheVariants as sum
use Rattle.thumb_instr.specs.declared.operation.ByteOperation.TheVariants as byte
use Rattle.thumb_instr.specs.declared.operation.Right.TheVariants as right
use Rattle.thumb_instr.specs.declared.operation.Operation.TheVariants as operation
use Rattle.thumb_instr.specs.declared.operation.Extension.TheVariants as extension
use Rattle.thumb_instr.specs.declared.operation.Reversal.TheVariants as reversal
use Rattle.thumb_instr.specs.Parts.{parts_of}
use Rattle.ascii_scan.specs.Refused.{IsRefused}
use Rattle.seq_enum.specs.declared.cost_text.Said.{Said}
use Rattle.seq_enum.specs.Alphabet.{numbers_from}

-- What instructions cost: a number for each mnemonic of a window's instructions.

-- the place of a kind's mnemonic among the 28 in order: adds, subs, movs, cmp, lsls, lsrs, asrs, ands, eors, adcs, sbcs, rors, tst, rsbs, cmn, orrs, muls, bics,
-- mvns, mov, add, sxth, sxtb, uxth, uxtb, rev, rev16, revsh; 28 for a kind that stands in no window
abbrev pub mnemonic : Kind → ℕ
mnemonic (kind.Three sum.Add) = 0
mnemonic (kind.ThreeNumber sum.Add) = 0
mnemonic (kind.TwoNumber byte.Add) = 0
mnemonic (kind.Three sum.Sub) = 1
mnemonic (kind.ThreeNumber sum.Sub) = 1
mnemonic (kind.TwoNumber byte.Sub) = 1
mnemonic (kind.TwoNumber byte.Mov) = 2
mnemonic kind.Movs = 2
mnemonic (kind.TwoNumber byte.Cmp) = 3
mnemonic (kind.Two operation.Cmp) = 3
mnemonic kind.ShiftLeft = 4
mnemonic (kind.Two operation.Lsl) = 4
mnemonic (kind.ShiftRight right.Lsr) = 5
mnemonic (kind.Two operation.Lsr) = 5
mnemonic (kind.ShiftRight right.Asr) = 6
mnemonic (kind.Two operation.Asr) = 6
mnemonic (kind.Two operation.And) = 7
mnemonic (kind.Two operation.Eor) = 8
mnemonic (kind.Two operation.Adc) = 9
mnemonic (kind.Two operation.Sbc) = 10
mnemonic (kind.Two operation.Ror) = 11
mnemonic (kind.Two operation.Tst) = 12
mnemonic (kind.Two operation.Rsb) = 13
mnemonic (kind.Two operation.Cmn) = 14
mnemonic (kind.Two operation.Orr) = 15
mnemonic (kind.Two operation.Mul) = 16
mnemonic (kind.Two operation.Bic) = 17
mnemonic (kind.Two operation.Mvn) = 18
mnemonic kind.Mov = 19
mnemonic kind.Add = 20
mnemonic (kind.Extend extension.Sxth) = 21
mnemonic (kind.Extend extension.Sxtb) = 22
mnemonic (kind.Extend extension.Uxth) = 23
mnemonic (kind.Extend extension.Uxtb) = 24
mnemonic (kind.Reverse reversal.Rev) = 25
mnemonic (kind.Reverse reversal.Rev16) = 26
mnemonic (kind.Reverse reversal.Revsh) = 27
mnemonic k = 28

-- a number for each mnemonic, 1 to 64
pub record AreCosts (costs : List ℕ) : Type 0 where
  pub as_many : length costs ≡ 28
  pub each : All (λ n. (1 ≤ n) × (n ≤ 64)) costs

-- what an instruction costs; 1 where its kind stands in no window
abbrev pub cost_in : List ℕ → Instr → ℕ
cost_in costs i = get_or costs (mnemonic (parts_of i).kind) 1

-- without costs each instruction costs 1
abbrev pub cost_under : Option (List ℕ) → Instr → ℕ
cost_under None i = 1
cost_under (Some costs) i = cost_in costs i

-- what a sequence weighs: the sum of the costs, and without costs how long it is
abbrev pub weight_under : Option (List ℕ) → List Instr → ℕ
weight_under None seq = length seq
weight_under (Some costs) seq = sum_by (cost_in costs) seq

-- The text of costs: a line that begins it, then for some of the mnemonics a line with its cost; and the first line of a text that is refused.

-- the mnemonics in order
unfoldable pub mnemonics : List (List ℕ)
mnemonics = codes "adds" ∷ codes "subs" ∷ codes "movs" ∷ codes "cmp" ∷ codes "lsls" ∷ codes "lsrs" ∷ codes "asrs" ∷ codes "ands" ∷ codes "eors"
    ∷ codes "adcs" ∷ codes "sbcs" ∷ codes "rors" ∷ codes "tst" ∷ codes "rsbs" ∷ codes "cmn" ∷ codes "orrs" ∷ codes "muls" ∷ codes "bics" ∷ codes "mvns"
    ∷ codes "mov" ∷ codes "add" ∷ codes "sxth" ∷ codes "sxtb" ∷ codes "uxth" ∷ codes "uxtb" ∷ codes "rev" ∷ codes "rev16" ∷ codes "revsh" ∷ []

-- what a line may contain: a mnemonic, by its place among the 28, and its cost
pub record IsSaid (s : Said) : Type 0 where
  pub known : s.mnemonic < 28
  pub some : 1 ≤ s.cost
  pub most : s.cost ≤ 64

-- the line, without its newline
abbrev pub line_of : Said → List ℕ
line_of s = get_or mnemonics s.mnemonic [] ++ 32 ∷ decimal s.cost

-- the costs that the lines have for a mnemonic
abbrev pub costs_said : List Said → ℕ → List ℕ
costs_said said m = map (λ (s : Said). s.cost) (filter (λ (s : Said). s.mnemonic == m) said)

-- what the lines of a text may be: each valid, and each mnemonic in at most one
pub record AreSaid (said : List Said) : Type 0 where
  pub each : All IsSaid said
  pub once : (m : ℕ) → length (costs_said said m) ≤ 1

-- the text: its lines in order, each with a newline at its end
abbrev pub text_lines : List Said → List (List ℕ)
text_lines said = codes "costs 1" ∷ map line_of said

abbrev pub text_of : List Said → List ℕ
text_of said = flat_map (λ line. line ++ 10 ∷ []) (text_lines said)

-- the cost of each mnemonic in order: 1 where no line has it
abbrev pub costs_of : List Said → List ℕ
costs_of said = map (λ m. get_or (costs_said said m) 0 1) (numbers_from 0 28)

-- the bytes are a text of these costs
pub record IsCostText (bytes costs : List ℕ) : Type 0 where
  pub said : List Said
  pub valid : AreSaid said
  pub whole : text_of said ≡ bytes
  pub meant : costs_of said ≡ costs

-- the bytes are a text of some costs
pub record IsSomeCosts (bytes : List ℕ) : Type 0 where
  pub costs : List ℕ
  pub text : IsCostText bytes costs

-- no text of costs begins with the first n lines, but some text of costs begins with the first n - 1
abbrev pub IsRefusedCosts : List ℕ → ℕ → Type 0
IsRefusedCosts bytes n = IsRefused IsSomeCosts bytes n
