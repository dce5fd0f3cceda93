-- A listing: its lines, and their places (numbered instructions and data words), labels, calls and code points (where branches by a word may land).
use Rattle.std.specs.Prelude.{◌≡◌, ℕ, ◌+◌, ◌&&◌, ◌||◌, Bool, true, false, List, [], ◌∷◌, ◌++◌, length, map, Option, Some, None, slice_get, if◌then◌else◌}
use Rattle.std.specs.Str.{bytes_eq}
use Rattle.thumb_instr.specs.declared.instr.Instr.{Instr}
use Rattle.thumb_instr.specs.declared.instr.Instr.TheVariants as instr
use Rattle.thumb_model.specs.Effect.{one_of}

-- a name, as its bytes
abbrev pub Name : Type 0
Name = List ℕ

-- a name with a number added to what it stands for
pub record Mention : Type 0 where
  pub name : Name
  pub plus : ℕ

-- a word of data: a number, or what a name with a number added stands for
pub data Value : Type 0 where
  Number : (n : ℕ) → Value
  OfName : (m : Mention) → Value

-- what a line says: nothing, an instruction with the name that it mentions, words of data, an alignment with at most so many bytes, or the address of a name
pub data Statement : Type 0 where
  Nothing : Statement
  Instruction : (i : Instr) (mention : Option Mention) → Statement
  Words : (vs : List Value) → Statement
  Aligns : (size most : ℕ) → Statement
  Sets : (name : Name) (address : ℕ) → Statement

-- the names that a line labels, its statement, its bytes with its newline, and its bytes up to its last label's colon, with a newline
pub record ListingLine : Type 0 where
  pub names : List Name
  pub statement : Statement
  pub text : List ℕ
  pub front : List ℕ

-- a place: an instruction or a data word
pub data Place : Type 0 where
  Op : (i : Instr) (mention : Option Mention) → Place
  Word : (v : Value) → Place

-- an instruction that mentions no name
abbrev pub plain : Instr → Place
plain i = Op i None

-- the places of a statement, and of lines
abbrev pub places_in : Statement → List Place
places_in Nothing = []
places_in (Instruction i mention) = Op i mention ∷ []
places_in (Words vs) = map Word vs
places_in (Aligns size most) = []
places_in (Sets name address) = []

abbrev pub places_of : List ListingLine → List Place
places_of [] = []
places_of (l ∷ ls) = places_in l.statement ++ places_of ls

-- a label, and the number of the place that follows it
pub record Label : Type 0 where
  pub name : Name
  pub place : ℕ

abbrev pub labels_at : ℕ → List Name → List Label
labels_at p [] = []
labels_at p (n ∷ ns) = record { name = n; place = p } ∷ labels_at p ns

abbrev pub labels_from : ℕ → List ListingLine → List Label
labels_from p [] = []
labels_from p (l ∷ ls) = labels_at p l.names ++ labels_from (p + length (places_in l.statement)) ls

-- the places and labels of lines
pub record Code : Type 0 where
  pub places : List Place
  pub labels : List Label

abbrev pub code_of : List ListingLine → Code
code_of ls = record { places = places_of ls; labels = labels_from 0 ls }

-- ---- labels ----

abbrev pub is_op_place : Option Place → Bool
is_op_place None = false
is_op_place (Some (Op i mention)) = true
is_op_place (Some (Word v)) = false

-- a label is code where an instruction stands at its place
abbrev pub is_code : List Place → Label → Bool
is_code places l = is_op_place (slice_get places l.place)

-- the place of the code label of that name
abbrev pub place_among : Name → List Place → List Label → Option ℕ
place_among name places [] = None
place_among name places (l ∷ ls) = if bytes_eq name l.name && is_code places l then Some l.place else place_among name places ls

abbrev pub place_of : Code → Name → Option ℕ
place_of code name = place_among name code.places code.labels

-- whether some label has that name, code or not
abbrev pub has_label : Name → List Label → Bool
has_label name [] = false
has_label name (l ∷ ls) = bytes_eq name l.name || has_label name ls

-- whether an instruction or a data word mentions the name
abbrev pub mentions : Name → Option Mention → Bool
mentions name None = false
mentions name (Some m) = bytes_eq name m.name

abbrev pub value_mentions : Name → Value → Bool
value_mentions name (Number n) = false
value_mentions name (OfName m) = bytes_eq name m.name

abbrev pub place_mentions : Name → Place → Bool
place_mentions name (Op i mention) = mentions name mention
place_mentions name (Word v) = value_mentions name v

abbrev pub is_mentioned : Name → List Place → Bool
is_mentioned name [] = false
is_mentioned name (p ∷ ps) = place_mentions name p || is_mentioned name ps

-- ---- calls ----

-- whether the instruction is a call; the next place is then its return point
abbrev pub is_call_instr : Instr → Bool
is_call_instr (instr.Blx m) = true
is_call_instr (instr.Call d) = true
is_call_instr i = false

abbrev pub is_call : Place → Bool
is_call (Op i mention) = is_call_instr i
is_call (Word v) = false

-- how many calls there are
abbrev pub call_count : List Place → ℕ
call_count [] = 0
call_count (x ∷ xs) = if is_call x then call_count xs + 1 else call_count xs

-- ---- code points ----

-- the places of the code labels, and of the return points of places from p on
abbrev pub label_places : List Place → List Label → List ℕ
label_places places [] = []
label_places places (l ∷ ls) = if is_code places l then l.place ∷ label_places places ls else label_places places ls

abbrev pub return_places : ℕ → List Place → List ℕ
return_places p [] = []
return_places p (x ∷ xs) = if is_call x then (p + 1) ∷ return_places (p + 1) xs else return_places (p + 1) xs

-- q is the place of a code point
abbrev pub IsPoint : Code → ℕ → Type 0
IsPoint code q = one_of q (label_places code.places code.labels ++ return_places 0 code.places) ≡ true
