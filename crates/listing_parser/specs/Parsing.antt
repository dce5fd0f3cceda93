-- Which texts are listings, and the first line by which a text is refused.
use Rattle.std.specs.Prelude.{◌≡◌, ℕ, List, [], ◌∷◌, ◌++◌, map, false, Option, Some, None, Ok, Err}
use Rattle.ascii_scan.specs.Lines.{lines_in}
use Rattle.thumb_model.specs.Listing.{ListingLine, Mention}
use Rattle.listing_parser.specs.declared.errors.ListingFault.{ListingFault}
use Rattle.listing_parser.specs.declared.errors.ListingFault.TheVariants as kind
use Rattle.listing_parser.specs.Targets.{DefineOnce, IsFirstAgain, functions, first_target}
use Rattle.listing_parser.specs.Grammar.{Read, read_lines, bare, shown_of}
use Rattle.thumb_instr.specs.declared.instr.Instr.{Instr}
use Rattle.thumb_syntax.specs.Spelling.{text_of}

-- the text's lines, each read by its grammar: no line is one too many, too long or outside the grammar
pub record AreLines (bytes : List ℕ) (reads : List Read) (lines : List ListingLine) : Type 0 where
  pub read : read_lines (lines_in bytes) ≡ Ok reads
  pub same : map (λ r. r.line) reads ≡ map bare lines

-- the text is the listing of these lines
pub record IsListing (bytes : List ℕ) (lines : List ListingLine) : Type 0 where
  pub reads : List Read
  pub are : AreLines bytes reads lines
  pub once : DefineOnce lines
  pub aimed : first_target lines (functions false reads) 1 lines ≡ None

-- the text is refused at line n: the first that is one too many, too long or outside the grammar; where none is, the first that defines a name again;
-- where none does, the first that mentions a name which isn't what its statement needs
pub data IsRefused (bytes : List ℕ) : ℕ → ListingFault → Type 0 where
  AtLine : (n : ℕ) (k : ListingFault) → read_lines (lines_in bytes) ≡ Err (n, k) → IsRefused bytes n k
  AtTwice : (n : ℕ) (reads : List Read) (lines : List ListingLine) → AreLines bytes reads lines → IsFirstAgain lines n → IsRefused bytes n kind.Twice
  AtTarget : (n : ℕ) (reads : List Read) (lines : List ListingLine) → AreLines bytes reads lines → DefineOnce lines
      → first_target lines (functions false reads) 1 lines ≡ Some n → IsRefused bytes n kind.Target

-- ---- texts of lines ----

-- the bytes of lines, joined
abbrev pub text_of_lines : List ListingLine → List ℕ
text_of_lines [] = []
text_of_lines (l ∷ ls) = l.text ++ text_of_lines ls

-- a line of its own: a tab, the canonical text and a newline
unfoldable pub own_line : Instr → List ℕ
own_line i = 9 ∷ (text_of (shown_of i None) ++ 10 ∷ [])

-- the same, with what the instruction mentions
unfoldable pub line_mentioning : Instr → Option Mention → List ℕ
line_mentioning i mention = 9 ∷ (text_of (shown_of i mention) ++ 10 ∷ [])
