-- The length of a table's text in bytes, part by part: the learner keeps it up to date without writing the table.
use Rattle.std.specs.Prelude.{ℕ, ◌+◌, List, length, map, if◌then◌else◌}
use Rattle.std.specs.List.{flat_map}
use Rattle.thumb_instr.specs.declared.instr.Instr.{Instr}
use Rattle.thumb_instr.specs.Items.{has}
use Rattle.lrat_check.specs.Text.{Content}
use Rattle.rule_table.specs.Table.{Opened, Rule}
use Rattle.rule_table.specs.Text.{Item, Logged, text_of_items, instr_text, open_items, rule_items}

-- how many bytes lines have, newlines included
unfoldable pub lines_length : List Item → ℕ
lines_length items = length (text_of_items items)

abbrev pub log_length : List Content → ℕ
log_length lines = lines_length (map Logged lines)

abbrev pub opens_length : List Opened → ℕ
opens_length opens = lines_length (flat_map open_items opens)

abbrev pub rules_length : List Rule → ℕ
rules_length rules = lines_length (flat_map rule_items rules)

-- a line with a first word of so many bytes, an instruction and a newline
abbrev pub instr_length : ℕ → Instr → ℕ
instr_length word i = word + length (instr_text i) + 1

-- the size of an item's text if the mask has it, and else 0
abbrev pub item_length : ℕ → ℕ → ℕ → ℕ
item_length mask item size = if has mask item then size else 0
