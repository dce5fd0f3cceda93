-- The rows of mask items of the code, as those of the definitions.
use Rattle.std.specs.Prelude.{ℕ, List}
use Rattle.rule_table.specs.declared.tails.MaskItem.{MaskItem}

abbrev pub row_of : MaskItem → ℕ × List ℕ
row_of r = (r.item, r.text.now)
