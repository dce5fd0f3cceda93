-- Names: those that lines define, and those that instructions and data words mention, with what they must be there; and a branch that goes elsewhere.
use Rattle.std.specs.Prelude.{◌≡◌, ℕ, ◌+◌, List, [], ◌∷◌, ◌++◌, length, Bool, true, Option, Some, None, if◌then◌else◌, ◌-◌, ◌/◌, ◌%◌, ◌==◌, ◌&&◌, ◌||◌, not, nat_lt, nat_le, false, is_some}
use Rattle.std.specs.List.{flat_map}
use Rattle.thumb_model.specs.Listing.{Name, Statement, Nothing, Instruction, Words, Aligns, Sets, ListingLine, Mention, Value, Number, OfName, labels_from, code_of, place_of, has_label, places_in}
use Rattle.thumb_model.specs.Layout.{is_among}
use Rattle.thumb_instr.specs.declared.instr.Instr.{Instr}
use Rattle.thumb_instr.specs.declared.instr.Instr.TheVariants as instr
use Rattle.listing_parser.specs.Grammar.{Read}
use Rattle.listing_parser.specs.Directives.{FunctionMark, Unmarked, NextMarked, NameMarked}
use Rattle.thumb_model.specs.Replaced.{is_op, labels_kept}

-- Names, and what mentions them.

-- ---- definitions ----

-- the names that a line defines: its labels, and the name whose address it sets
abbrev pub set_names : Statement → List Name
set_names Nothing = []
set_names (Instruction i mention) = []
set_names (Words vs) = []
set_names (Aligns size most) = []
set_names (Sets name address) = name ∷ []

abbrev pub defined_in : ListingLine → List Name
defined_in l = l.names ++ set_names l.statement

-- one of the names is known, or stands twice among them
pub data IsAgain (known names : List Name) : Type 0 where
  Known : (name : Name) → is_among name names ≡ true → is_among name known ≡ true → IsAgain known names
  Twice : (front : List Name) (name : Name) (back : List Name) → names ≡ front ++ name ∷ back → is_among name front ≡ true → IsAgain known names

-- after the lines `before`, the line defines a name again: one that a line before it defines, or one that it defines twice itself
abbrev pub DefinesAgain : List ListingLine → ListingLine → Type 0
DefinesAgain before l = IsAgain (flat_map defined_in before) (defined_in l)

-- no line defines a name again
abbrev pub DefineOnce : List ListingLine → Type 0
DefineOnce lines = (before : List ListingLine) (l : ListingLine) (after : List ListingLine) → lines ≡ before ++ l ∷ after → DefinesAgain before l → ⊥

-- line n, counted from 1, is the first that defines a name again
pub record IsFirstAgain (lines : List ListingLine) (n : ℕ) : Type 0 where
  pub before : List ListingLine
  pub line : ListingLine
  pub after : List ListingLine
  pub cut : lines ≡ before ++ line ∷ after
  pub number : n ≡ length before + 1
  pub again : DefinesAgain before line
  pub once : DefineOnce before

-- ---- marks of functions ----

abbrev pub marked_by_name : FunctionMark → List Name
marked_by_name Unmarked = []
marked_by_name NextMarked = []
marked_by_name (NameMarked name) = name ∷ []

abbrev pub is_next : FunctionMark → Bool
is_next Unmarked = false
is_next NextMarked = true
is_next (NameMarked name) = false

-- the first label takes a `.thumb_func` that waits for one
abbrev pub marked_first : Bool → List Name → List Name
marked_first waits [] = []
marked_first waits (n ∷ ns) = if waits then n ∷ [] else []

abbrev pub still_waits : Bool → List Name → Bool
still_waits waits [] = waits
still_waits waits (n ∷ ns) = false

-- the names that are marked as functions; the first argument says whether a `.thumb_func` waits for its label
abbrev pub functions : Bool → List Read → List Name
functions waits [] = []
functions waits (r ∷ rs) = (marked_first waits r.line.names ++ marked_by_name r.mark) ++ functions (still_waits waits r.line.names || is_next r.mark) rs

-- ---- literals ----

-- the lines from the name's first label on
abbrev pub from_label : Name → List ListingLine → List ListingLine
from_label name [] = []
from_label name (l ∷ ls) = if is_among name l.names then l ∷ ls else from_label name ls

-- whether the first n + 1 places are words of data, with no alignment line before the last of them
abbrev pub onward : ℕ → Statement → (ℕ → Bool) → Bool
onward n Nothing next = next n
onward n (Instruction i mention) next = false
onward n (Words vs) next = if nat_lt n (length vs) then true else next (n - length vs)
onward n (Aligns size most) next = false
onward n (Sets name address) next = next n

abbrev pub reaches : List ListingLine → ℕ → Bool
reaches [] n = false
reaches (l ∷ ls) n = onward n l.statement (reaches ls)

-- what is mentioned is a data word, at a multiple of 4 up to 1020 bytes from the label
abbrev pub is_literal : List ListingLine → Mention → Bool
is_literal all m = (m.plus % 4 == 0) && (nat_le m.plus 1020 && reaches (from_label m.name all) (m.plus / 4))

-- ---- branches and words ----

abbrev pub is_code_label : List ListingLine → Name → Bool
is_code_label all name = is_some (place_of (code_of all) name)

abbrev pub is_label : List ListingLine → Name → Bool
is_label all name = has_label name (labels_from 0 all)

-- a conditional branch needs a code label, a branch or call a code label or no label, a load of a literal and an address words behind a label
abbrev pub is_aimed : List ListingLine → Instr → Mention → Bool
is_aimed all (instr.BranchIf c d) m = is_code_label all m.name
is_aimed all (instr.Branch d) m = is_code_label all m.name || not (is_label all m.name)
is_aimed all (instr.Call d) m = is_code_label all m.name || not (is_label all m.name)
is_aimed all (instr.Literal t d) m = is_literal all m
is_aimed all (instr.Address t d) m = is_literal all m
is_aimed all i m = true

abbrev pub is_aimed_at : List ListingLine → Instr → Option Mention → Bool
is_aimed_at all i None = true
is_aimed_at all i (Some m) = is_aimed all i m

-- a data word may mention a code label only where that is marked as a function, and with nothing added
abbrev pub is_word_of : List ListingLine → List Name → Value → Bool
is_word_of all marked (Number n) = true
is_word_of all marked (OfName m) = not (is_code_label all m.name) || ((m.plus == 0) && is_among m.name marked)

abbrev pub are_words_of : List ListingLine → List Name → List Value → Bool
are_words_of all marked [] = true
are_words_of all marked (v ∷ vs) = is_word_of all marked v && are_words_of all marked vs

abbrev pub is_on_target : List ListingLine → List Name → Statement → Bool
is_on_target all marked Nothing = true
is_on_target all marked (Instruction i mention) = is_aimed_at all i mention
is_on_target all marked (Words vs) = are_words_of all marked vs
is_on_target all marked (Aligns size most) = true
is_on_target all marked (Sets name address) = true

-- the first line, counted from n, that mentions a name which isn't what its statement needs
abbrev pub first_target : List ListingLine → List Name → ℕ → List ListingLine → Option ℕ
first_target all marked n [] = None
first_target all marked n (l ∷ ls) = if is_on_target all marked l.statement then first_target all marked (n + 1) ls else Some n

-- The lines of a listing in which a branch goes elsewhere.

-- what a line says when its branch goes to a label
abbrev pub aimed : Name → Statement → Statement
aimed label Nothing = Nothing
aimed label (Instruction i mention) = Instruction i (Some (record { name = label; plus = 0 }))
aimed label (Words vs) = Words vs
aimed label (Aligns size most) = Aligns size most
aimed label (Sets name address) = Sets name address

abbrev pub own_bytes : (Instr → Option Mention → List ℕ) → Statement → List ℕ
own_bytes write Nothing = []
own_bytes write (Instruction i mention) = write i mention
own_bytes write (Words vs) = []
own_bytes write (Aligns size most) = []
own_bytes write (Sets name address) = []

-- the line of a branch that goes elsewhere
abbrev pub aimed_line : (Instr → Option Mention → List ℕ) → Name → ListingLine → ListingLine
aimed_line write label l = record { names = []; statement = aimed label l.statement; text = own_bytes write (aimed label l.statement); front = [] }

-- the lines with the branch at place p going to a label: the branch's own labels get a line of their own, and all other lines stay byte for byte
abbrev pub aimed_lines : (Instr → Option Mention → List ℕ) → ℕ → Name → List ListingLine → List ListingLine
aimed_lines write p label [] = []
aimed_lines write p label (l ∷ ls) =
    if is_op l.statement && (p == 0) then labels_kept l l.names ++ (aimed_line write label l ∷ ls)
    else l ∷ aimed_lines write (p - length (places_in l.statement)) label ls
