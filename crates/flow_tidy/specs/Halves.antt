-- How many half-words lie before a place at least, whatever alignments pad.
use Rattle.std.specs.Prelude.{ℕ, zero, suc, ◌+◌, ◌<◌, ◌≤◌, Bool, true, false, List, [], ◌∷◌, Option, Some, None, if◌then◌else◌}
use Rattle.thumb_instr.specs.declared.instr.Instr.{Instr}
use Rattle.thumb_instr.specs.declared.instr.Instr.TheVariants as instr
use Rattle.thumb_model.specs.Listing.{Place, Op, Word}

-- BL
abbrev pub calls_label : Instr → Bool
calls_label (instr.Call d) = true
calls_label i = false

-- 1 for what takes four bytes and never goes: a data word, or a call of a label
abbrev pub wide_of : Option Place → ℕ
wide_of None = 0
wide_of (Some (Op i mention)) = if calls_label i then 1 else 0
wide_of (Some (Word v)) = 1

-- how many of the first n places are such
abbrev pub wide_count : List Place → ℕ → ℕ
wide_count [] n = 0
wide_count (x ∷ xs) zero = 0
wide_count (x ∷ xs) (suc n) = wide_of (Some x) + wide_count xs n

-- for each place n, and how many places before it are such
abbrev pub wides_before : ℕ → List Place → List ℕ
wides_before n [] = []
wides_before n (x ∷ xs) = n ∷ wides_before (n + wide_of (Some x)) xs

-- half-words before place n: one for each place, and another for each that is wide
abbrev pub halves : List Place → ℕ → ℕ
halves places n = n + wide_count places n

-- a branch doesn't reach a label, by the half-words before each of them, if its displacement may be from -2 `half` to below 2 `half` bytes
abbrev pub IsBeyond : ℕ → ℕ → ℕ → Type 0
IsBeyond half from to = (from < to → from + half + 2 ≤ to) × (to ≤ from → to + half < from + 2)
