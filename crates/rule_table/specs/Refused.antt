-- Which texts are tables, and at which line another text is refused.
use Rattle.std.specs.Prelude.{◌≡◌, ℕ, List}
use Rattle.ascii_scan.specs.Refused as texts
use Rattle.rule_table.specs.Table.{Table, IsTable}
use Rattle.rule_table.specs.Text.{text_of}

-- the bytes are the text of this table
pub record IsText (bytes : List ℕ) (table : Table) : Type 0 where
  pub valid : IsTable table
  pub whole : text_of table ≡ bytes

-- the bytes are the text of some table
pub record IsSomeTable (bytes : List ℕ) : Type 0 where
  pub table : Table
  pub text : IsText bytes table

-- no table's text begins with the first n lines, and some table's text begins with those before the n-th
abbrev pub IsRefused : List ℕ → ℕ → Type 0
IsRefused bytes n = texts.IsRefused IsSomeTable bytes n
