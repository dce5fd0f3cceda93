-- The table grouped by mnemonic, as the reader searches it: the forms of a word's mnemonic, and the instruction that operands are by one of them.
use Rattle.std.specs.Prelude.{ℕ, ◌%◌, ◌-◌, ◌==◌, ◌&&◌, ◌||◌, not, nat_le, nat_lt, Bool, List, [], ◌∷◌, Option, map, get_or, if◌then◌else◌, option_and_then}
use Rattle.std.specs.List.{filter, list_all, list_any}
use Rattle.std.specs.Borrow.{Bor}
use Rattle.ascii_scan.specs.Names.{is_spelled}
use Rattle.thumb_syntax.specs.declared.form.Mnemonic.{Mnemonic}
use Rattle.thumb_syntax.specs.Operands.{Operand}
use Rattle.thumb_syntax.specs.Slots.{empty, filled}
use Rattle.thumb_syntax.specs.Rows.{Row, Shown, shown_by}
use Rattle.thumb_syntax.specs.RowLaws.{rows}
use Rattle.thumb_syntax.specs.declared.form.Form.{Form}

abbrev pub row_of : Form → Row
row_of f = record { mnemonic = f.mnemonic.now; slots = f.slots.now; kind = f.kind }

pub record Group : Type 0 where
  pub name : List ℕ
  pub forms : List Row

abbrev pub group_of : Mnemonic → Group
group_of m = record { name = m.name.now; forms = map row_of m.forms.now }

abbrev pub groups_at : List (Bor (List Mnemonic)) → List (List Group)
groups_at places = map (λ (ms : Bor (List Mnemonic)). map group_of ms.now) places

abbrev pub forms_of : Group → List Row
forms_of g = g.forms

-- the rows whose mnemonic equals the word, in order
abbrev pub rows_of : List ℕ → List Row
rows_of w = filter (λ r. is_spelled w r.mnemonic) rows

abbrev pub named_forms : Group → List Row
named_forms g = rows_of g.name

-- the index of a word in the table of mnemonics, by its first letter, the same in either case
abbrev pub place_of : List ℕ → ℕ
place_of [] = 0
place_of (b ∷ bs) = b % 32

abbrev pub is_named : List ℕ → List Group → Bool
is_named w gs = list_any (λ g. is_spelled w g.name) gs

-- each row whose first letter has this index has its mnemonic among these groups
abbrev pub are_there_at : ℕ → List Group → Bool
are_there_at place gs = list_all (λ r. not (place_of r.mnemonic == place) || is_named r.mnemonic gs) rows

abbrev pub is_between : ℕ → ℕ → ℕ → Bool
is_between least end n = nat_le least n && nat_lt n end

-- so it is for each index from the least to below the end
abbrev pub are_there : ℕ → ℕ → List (List Group) → Bool
are_there least end places =
    list_all (λ r. not (is_between least end (place_of r.mnemonic)) || is_named r.mnemonic (get_or places (place_of r.mnemonic - least) [])) rows

-- the forms of the first mnemonic that equals the word
abbrev pub rows_in : List Group → List ℕ → List Row
rows_in [] w = []
rows_in (g ∷ gs) w = if is_spelled w g.name then g.forms else rows_in gs w

-- the instruction that operands are by a form
abbrev pub read_by : List Operand → Row → Option Shown
read_by os r = option_and_then (shown_by r.kind) (filled r.slots empty os)
