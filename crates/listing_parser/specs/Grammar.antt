-- The lines of a listing by their texts, in the syntax of the GNU assembler.
use Rattle.std.specs.Prelude.{ℕ, ◌-◌, ◌==◌, ◌&&◌, ◌||◌, not, nat_lt, Bool, true, false, List, [], ◌∷◌, ◌++◌, length, zero, suc, Option, Some, None, option_map, Result, Ok, Err, if◌then◌else◌, take}
use Rattle.ascii_scan.specs.Lines.{Placed, whole}
use Rattle.ascii_scan.specs.Tokens.{is_blank, front, rest}
use Rattle.thumb_syntax.specs.Operands.{is_name}
use Rattle.thumb_syntax.specs.Rows.{Shown}
use Rattle.thumb_model.specs.Listing.{Name, Statement, Nothing, Words, Aligns, Sets, Mention, Instruction, ListingLine}
use Rattle.listing_parser.specs.declared.errors.ListingFault.{ListingFault}
use Rattle.listing_parser.specs.declared.errors.ListingFault.TheVariants as kind
use Rattle.thumb_instr.specs.declared.instr.Instr.{Instr}
use Rattle.thumb_instr.specs.Parts.{parts_of}
use Rattle.listing_parser.specs.Directives.{FunctionMark, Said, Plain, ByKind, statement}

-- ---- labels ----

abbrev pub is_no_colon : ℕ → Bool
is_no_colon b = not (b == 58)

abbrev pub without_first : List ℕ → List ℕ
without_first [] = []
without_first (b ∷ bs) = bs

abbrev pub is_some_byte : List ℕ → Bool
is_some_byte [] = false
is_some_byte (b ∷ bs) = true

-- what stands before the first colon, without the blanks before it
abbrev pub front_name : List ℕ → Name
front_name bytes = front is_no_colon (rest is_blank bytes)

abbrev pub from_colon : List ℕ → List ℕ
from_colon bytes = rest is_no_colon (rest is_blank bytes)

-- a name with a colon after it
abbrev pub begins_label : List ℕ → Bool
begins_label bytes = is_name (front_name bytes) && is_some_byte (from_colon bytes)

-- the names of the labels at the front, at most n, and what follows the last one's colon
unfoldable pub labels_within : ℕ → List ℕ → List Name × List ℕ
labels_within zero bytes = ([], bytes)
labels_within (suc n) bytes =
    if begins_label bytes
    then (front_name bytes ∷ (labels_within n (without_first (from_colon bytes))).0, (labels_within n (without_first (from_colon bytes))).1)
    else ([], bytes)

-- all labels at the front: each has its colon, so there are no more than bytes
unfoldable pub labels_at_front : List ℕ → List Name × List ℕ
labels_at_front bytes = labels_within (length bytes) bytes

-- ---- lines ----

-- a carriage return right before the newline is dropped
abbrev pub without_return : List ℕ → List ℕ
without_return [] = []
without_return (b ∷ []) = if b == 13 then [] else b ∷ []
without_return (b ∷ c ∷ bs) = b ∷ without_return (c ∷ bs)

abbrev pub body : Placed → List ℕ
body l = if l.is_ended then without_return l.text else l.text

abbrev pub is_no_at : ℕ → Bool
is_no_at b = not (b == 64)

abbrev pub begins_hash : List ℕ → Bool
begins_hash [] = false
begins_hash (b ∷ bs) = b == 35

-- without its comment: from `@` on, or all of a line whose first byte that is no blank is `#`
unfoldable pub code : List ℕ → List ℕ
code bytes = if begins_hash (rest is_blank bytes) then [] else front is_no_at bytes

-- a line, in which an instruction is given by its kind and numbers
pub record Bare : Type 0 where
  pub names : List Name
  pub said : Said
  pub text : List ℕ
  pub front : List ℕ

pub record Read : Type 0 where
  pub line : Bare
  pub mark : FunctionMark

-- the bytes up to and including the last label's colon, and a newline; nothing where there is no label
abbrev pub front_of : List Name → ℕ → List ℕ → List ℕ
front_of [] n text = []
front_of (name ∷ names) n text = take n text ++ 10 ∷ []

abbrev pub with_labels : Placed → ℕ → List Name × List ℕ → Option Read
with_labels l size labelled = option_map
    (λ t. record { line = record { names = labelled.0; said = t.said; text = whole l; front = front_of labelled.0 (size - length labelled.1) (whole l) }; mark = t.mark })
    (statement labelled.1)

unfoldable pub read_line : Placed → Option Read
read_line l = with_labels l (length (code (body l))) (labels_at_front (code (body l)))

-- ---- refusals of single lines ----

abbrev pub shaped : ℕ → Option Read → Result Read (ℕ × ListingFault)
shaped n None = Err (n, kind.Shape)
shaped n (Some r) = Ok r

-- the most lines of a listing
abbrev pub most_lines : ℕ
most_lines = 262144

abbrev pub longest_line : ℕ
longest_line = 1024

-- the line is refused as one too many or too long, or as outside the grammar, or it is read
unfoldable pub checked_line : Placed → Result Read (ℕ × ListingFault)
checked_line l = if nat_lt most_lines l.number || nat_lt longest_line (length l.text) then Err (l.number, kind.Limit) else shaped l.number (read_line l)

abbrev pub with_front : List Read → Result (List Read) (ℕ × ListingFault) → Result (List Read) (ℕ × ListingFault)
with_front front (Ok rs) = Ok (front ++ rs)
with_front front (Err e) = Err e

abbrev pub with_first : Result Read (ℕ × ListingFault) → Result (List Read) (ℕ × ListingFault) → Result (List Read) (ℕ × ListingFault)
with_first (Ok r) rest = with_front (r ∷ []) rest
with_first (Err e) rest = Err e

-- the lines, or the first that can't be read
unfoldable pub read_lines : List Placed → Result (List Read) (ℕ × ListingFault)
read_lines [] = Ok []
read_lines (l ∷ ls) = with_first (checked_line l) (read_lines ls)

-- ---- lines of the model, with instructions by kind and numbers ----

abbrev pub shown_of : Instr → Option Mention → Shown
shown_of i m = record { made = parts_of i; label = option_map (λ r. (r.name, r.plus)) m }

abbrev pub said_of : Statement → Said
said_of Nothing = Plain Nothing
said_of (Instruction i m) = ByKind (shown_of i m)
said_of (Words vs) = Plain (Words vs)
said_of (Aligns size most) = Plain (Aligns size most)
said_of (Sets name address) = Plain (Sets name address)

abbrev pub bare : ListingLine → Bare
bare l = record { names = l.names; said = said_of l.statement; text = l.text; front = l.front }
