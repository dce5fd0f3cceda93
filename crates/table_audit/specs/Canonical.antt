-- That the canonical form of a window is a canonical side, and what an entry must be to have a formula.
use Rattle.std.specs.Prelude.{◌≡◌, ℕ, List, Option, length}
use Rattle.thumb_instr.specs.declared.instr.Instr.{Instr}
use Rattle.thumb_instr.specs.Window.{Low}
use Rattle.thumb_model.specs.Effect.{AreOver, register_count}
use Rattle.bit_blast.specs.Exactness.{IsMaskOver}
use Rattle.rule_table.specs.Canonical.{IsRenamable, IsCanonical}
use Rattle.rule_table.specs.Header.{Header}
use Rattle.rule_table.specs.Table.{Rule}
use Rattle.table_audit.specs.Shorter.{named_count, alphabet_registers, IsCanonicalSide}

-- the sequence is a canonical side as long as the window, its registers are counted alike in both ways, and the mask has no register that it doesn't name
pub record IsSideOf (window seq : List Instr) (mask : ℕ) : Type 0 where
  pub canonical : IsCanonicalSide seq
  pub counted : named_count seq ≡ register_count seq
  pub over : IsMaskOver (named_count seq) mask
  pub as_long : length seq ≡ length window

-- a window's canonical form is such a side
abbrev pub CanonicalFormIsSide : Type 0
CanonicalFormIsSide =
    (window : List Instr) (items : ℕ) (seq : List Instr) (given : List (Option Low)) (mask : ℕ)
    → IsRenamable window → IsCanonical window items seq given mask → IsSideOf window seq mask

-- an entry with a formula: its left side is canonical and over the registers that it names, as the mask is, and the right side over those of the alphabet
pub record HasFormula (h : Header) (e : Rule) : Type 0 where
  pub canonical : IsCanonicalSide e.left
  pub left : AreOver (named_count e.left) e.left
  pub right : AreOver (alphabet_registers h e.left) e.right
  pub mask : IsMaskOver (named_count e.left) e.mask
