-- The stage after one more line of text.
use Rattle.std.specs.Prelude.{◌≡◌, true, Option, Some, None}
use Rattle.ascii_scan.specs.Lines.{Placed}
use Rattle.rule_table.specs.Text.{Item, line_of}
use Rattle.rule_table.specs.Items.{IsItem}
use Rattle.rule_table.specs.Grammar.{Stage, step}

-- the line has its newline, it is the line of an item, and that item may follow and leads to the stage t
pub record LineFollows (s : Stage) (line : Placed) (t : Stage) : Type 0 where
  pub ended : line.is_ended ≡ true
  pub item : Item
  pub valid : IsItem item
  pub is : line_of item ≡ line.text
  pub next : step s item ≡ Some t

-- the stage after a line; none if the line lacks its newline, is the line of no item, or may not follow
abbrev pub StepsTo : Stage → Placed → Option Stage → Type 0
StepsTo s line (Some t) = LineFollows s line t
StepsTo s line None = (i : Item) → line.is_ended ≡ true → IsItem i → line_of i ≡ line.text → step s i ≡ None
