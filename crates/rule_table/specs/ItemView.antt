-- The items of the code, as those of the definitions.
use Rattle.lrat_check.specs.Text.{content_of}
use Rattle.window_exec.specs.State.{seen}
use Rattle.rule_table.specs.declared.item.Item.{Item as Code}
use Rattle.rule_table.specs.declared.item.Item.TheVariants as code
use Rattle.rule_table.specs.Text.{Item, Number, Pool, Costs, State, Entry, Left, Right, Mask, Proof, Logged, Open, Family, End}

abbrev pub item_of : Code → Item
item_of (code.Number field n) = Number field n
item_of (code.Pool ns) = Pool ns
item_of (code.Costs ns) = Costs ns
item_of (code.State s) = State (seen s)
item_of code.Entry = Entry
item_of (code.Left i) = Left i
item_of (code.Right i) = Right i
item_of (code.Mask m) = Mask m.items.bits
item_of code.Proof = Proof
item_of (code.Logged l) = Logged (content_of l)
item_of (code.Open n) = Open n
item_of (code.Family entry number low high) = Family entry number low high
item_of code.End = End
