-- The item that a line gives, by its first word and the rest, or as a whole.
use Rattle.std.specs.Prelude.{◌≡◌, ℕ, List, Option, Some, None}
use Rattle.rule_table.specs.declared.item.Item.{Item as Code}
use Rattle.rule_table.specs.declared.words.FirstWord.{FirstWord}
use Rattle.rule_table.specs.Text.{Item, line_of}
use Rattle.rule_table.specs.Items.{IsItem}
use Rattle.rule_table.specs.Fronts.{word_of, tail_of}
use Rattle.rule_table.specs.ItemView.{item_of}

-- None: no item has this word and rest, or this line; Some: this item has them
abbrev pub Tells : FirstWord → List ℕ → Option Code → Type 0
Tells word tail None = (i : Item) → IsItem i → word_of i ≡ word → tail_of i ≡ tail → ⊥
Tells word tail (Some i) = IsItem (item_of i) × (word_of (item_of i) ≡ word) × (tail_of (item_of i) ≡ tail)

abbrev pub Says : List ℕ → Option Code → Type 0
Says line None = (i : Item) → IsItem i → line_of i ≡ line → ⊥
Says line (Some i) = IsItem (item_of i) × (line_of (item_of i) ≡ line)
