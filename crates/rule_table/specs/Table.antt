-- Tables of rules, and the limits that a table has to keep so that it has a text. Whether its rules are sound is the audit's business.
use Rattle.std.specs.Prelude.{ℕ, List, ◌≡◌, ◌<◌, ◌≤◌, ◌^◌, true, false, [], length, map}
use Rattle.thumb_instr.specs.declared.instr.Instr.{Instr}
use Rattle.lrat_check.specs.Text.{Content, IsLine}
use Rattle.window_exec.specs.State.{Seen}
use Rattle.rule_table.specs.Header.{Header, IsHeader, has_families}
use Rattle.std.specs.List.{All}
use Rattle.thumb_instr.specs.Items.{has, is_in_masks}
use Rattle.thumb_instr.specs.Window.{is_in_window, named, AreBelow}
use Rattle.seq_enum.specs.Alphabet.{ascends_from}

-- A table of rules.

-- a sequence that is left open, by its number, and the log of the search for a state that distinguishes it from the left side
pub record Opened : Type 0 where
  pub number : ℕ
  pub log : List Content

-- a rule; its mask is a set of items, as the bits of their numbers
pub record Rule : Type 0 where
  pub left : List Instr
  pub right : List Instr
  pub mask : ℕ
  pub proof : List Content
  pub opens : List Opened

-- a family raises the entry with this number: a number of the pool, where it is an 8-bit operand, may have each value from `low` to `high`, as the proof shows
pub record Family : Type 0 where
  pub entry : ℕ
  pub number : ℕ
  pub low : ℕ
  pub high : ℕ
  pub proof : List Content

pub record Table : Type 0 where
  pub header : Header
  pub states : List Seen
  pub rules : List Rule
  pub families : List Family

-- Which tables have a text: the limits of each line, and of how many lines there are of each kind.

-- four words, and the four flags
pub record IsState (s : Seen) : Type 0 where
  pub four : length s.r ≡ 4
  pub words : All (λ w. w < 2 ^ 32) s.r
  pub flags : s.nzcv < 16

-- an instruction that may stand in windows and names only r0 to r3: each has a canonical text, from which it is read
pub record IsInstr (i : Instr) : Type 0 where
  pub window : is_in_window i ≡ true
  pub low : AreBelow 4 (named i)

-- a set of some of r0 to r3 and the flags
abbrev pub IsMask : ℕ → Type 0
IsMask m = (x : ℕ) → has m x ≡ true → is_in_masks x ≡ true

-- a number of 64 bits, with lines of a proof
pub record IsOpened (o : Opened) : Type 0 where
  pub small : o.number < 2 ^ 64
  pub log : All IsLine o.log

abbrev pub numbers_of : List Opened → List ℕ
numbers_of opens = map (λ o. o.number) opens

-- one to five instructions on the left, at most five on the right, and open numbers in ascending order
pub record IsRule (r : Rule) : Type 0 where
  pub some : 0 < length r.left
  pub few_left : length r.left ≤ 5
  pub few_right : length r.right ≤ 5
  pub left : All IsInstr r.left
  pub right : All IsInstr r.right
  pub mask : IsMask r.mask
  pub proof : All IsLine r.proof
  pub opens : All IsOpened r.opens
  pub ascending : ascends_from 0 (numbers_of r.opens) ≡ true

-- four numbers of 32 bits, with lines of a proof
pub record IsFamily (f : Family) : Type 0 where
  pub entry : f.entry < 2 ^ 32
  pub number : f.number < 2 ^ 32
  pub low : f.low < 2 ^ 32
  pub high : f.high < 2 ^ 32
  pub proof : All IsLine f.proof

-- header, states, rules and families are valid, and versions that have no families have none
pub record IsTable (t : Table) : Type 0 where
  pub header : IsHeader t.header
  pub states : All IsState t.states
  pub rules : All IsRule t.rules
  pub families : All IsFamily t.families
  pub none_before : has_families t.header.version ≡ false → t.families ≡ []
