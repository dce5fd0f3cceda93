-- The text of a table: its lines in order, each with a newline at its end.
use Rattle.std.specs.Prelude.{ℕ, zero, suc, ◌+◌, ◌/◌, ◌%◌, List, [], ◌∷◌, ◌++◌, map, codes, decimal, Option, Some, None, if◌then◌else◌}
use Rattle.std.specs.List.{flat_map}
use Rattle.ascii_scan.specs.Numeral.{hex_digit}
use Rattle.thumb_instr.specs.declared.instr.Instr.{Instr}
use Rattle.thumb_instr.specs.Items.{has}
use Rattle.thumb_syntax.specs.Spelling.{text_of as text_of_shown}
use Rattle.thumb_syntax.specs.Rows.{shown_with}
use Rattle.lrat_check.specs.Text.{Content, text_of as text_of_line}
use Rattle.window_exec.specs.State.{Seen}
use Rattle.rule_table.specs.declared.header.Field.{Field}
use Rattle.rule_table.specs.declared.header.HeaderLine.{HeaderLine}
use Rattle.rule_table.specs.declared.header.HeaderLine.TheVariants as head
use Rattle.rule_table.specs.Header.{Header, heads, has_line, number_in, row}
use Rattle.rule_table.specs.Table.{Opened, Rule, Family as Raised, Table}

-- the last n hexadecimal digits of a number
unfoldable pub hex_of : ℕ → ℕ → List ℕ
hex_of zero w = []
hex_of (suc n) w = hex_of n (w / 16) ++ hex_digit (w % 16) ∷ []

-- the canonical text of an instruction that names no label
abbrev pub instr_text : Instr → List ℕ
instr_text i = text_of_shown (shown_with i None)

-- the text of an item if the mask has it, and else nothing
abbrev pub named : ℕ → ℕ → List ℕ → List ℕ
named mask item text = if has mask item then text else []

-- the items that a mask may have, each with its text, in the order in which they are written
abbrev pub mask_rows : List (ℕ × List ℕ)
mask_rows =
    (0, codes " r0") ∷ (1, codes " r1") ∷ (2, codes " r2") ∷ (3, codes " r3")
    ∷ (15, codes " n") ∷ (16, codes " z") ∷ (17, codes " c") ∷ (18, codes " v") ∷ []

abbrev pub mask_text : ℕ → List ℕ
mask_text m = flat_map (λ (r : ℕ × List ℕ). named m r.0 r.1) mask_rows

-- what a line says
pub data Item : Type 0 where
  Number : Field → ℕ → Item
  Pool : List ℕ → Item
  Costs : List ℕ → Item
  State : Seen → Item
  Entry : Item
  Left : Instr → Item
  Right : Instr → Item
  Mask : ℕ → Item
  Proof : Item
  Logged : Content → Item
  Open : ℕ → Item
  Family : (entry number low high : ℕ) → Item
  End : Item

-- words with a blank before each
abbrev pub after_blanks : List (List ℕ) → List ℕ
after_blanks words = flat_map (λ w. 32 ∷ w) words

-- a line, without its newline
abbrev pub line_of : Item → List ℕ
line_of (Number field n) = (row field).word ++ decimal n
line_of (Pool ns) = codes "pool" ++ after_blanks (map decimal ns)
line_of (Costs ns) = codes "costs" ++ after_blanks (map decimal ns)
line_of (State s) = codes "state" ++ (after_blanks (map (hex_of 8) s.r) ++ 32 ∷ hex_of 1 s.nzcv)
line_of Entry = codes "entry"
line_of (Left i) = codes "left " ++ instr_text i
line_of (Right i) = codes "right " ++ instr_text i
line_of (Mask m) = codes "mask" ++ mask_text m
line_of Proof = codes "proof"
line_of (Logged c) = text_of_line c
line_of (Open n) = codes "open " ++ decimal n
line_of (Family entry number low high) = codes "family" ++ after_blanks (map decimal (entry ∷ number ∷ low ∷ high ∷ []))
line_of End = codes "end"

-- lines, each with its newline
abbrev pub text_of_items : List Item → List ℕ
text_of_items items = flat_map (λ i. line_of i ++ 10 ∷ []) items

-- an open number with its log
abbrev pub open_items : Opened → List Item
open_items o = Open o.number ∷ map Logged o.log

abbrev pub rule_items : Rule → List Item
rule_items r = Entry ∷ (map Left r.left ++ (map Right r.right ++ Mask r.mask ∷ Proof ∷ (map Logged r.proof ++ flat_map open_items r.opens)))

abbrev pub family_items : Raised → List Item
family_items f = Family f.entry f.number f.low f.high ∷ Proof ∷ map Logged f.proof

-- the numbers of the costs; empty if there are no costs
abbrev pub cost_numbers : Option (List ℕ) → List ℕ
cost_numbers None = []
cost_numbers (Some ns) = ns

-- what a line of a header says
abbrev pub said : Header → HeaderLine → Item
said h (head.Number field) = Number field (number_in h field)
said h head.Pool = Pool h.pool
said h head.Costs = Costs (cost_numbers h.costs)

-- the line, where the header's version has it
abbrev pub line_items : Header → HeaderLine → List Item
line_items h line = if has_line h.version line then said h line ∷ [] else []

abbrev pub header_items : Header → List Item
header_items h = flat_map (line_items h) heads

-- the lines of a table
abbrev pub items_of : Table → List Item
items_of t = header_items t.header ++ (map State t.states ++ (flat_map rule_items t.rules ++ (flat_map family_items t.families ++ End ∷ [])))

abbrev pub text_of : Table → List ℕ
text_of t = text_of_items (items_of t)
