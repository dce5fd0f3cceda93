-- What statements say, in the syntax of the GNU assembler: instructions and directives.
use Rattle.std.specs.Prelude.{ℕ, ◌^◌, ◌==◌, ◌&&◌, ◌||◌, not, nat_lt, nat_eq, Bool, true, false, List, [], ◌∷◌, codes, Option, Some, None, option_map, option_and_then, if◌then◌else◌}
use Rattle.std.specs.List.{starts_with}
use Rattle.std.specs.Str.{bytes_eq}
use Rattle.ascii_scan.specs.Names.{is_name_byte}
use Rattle.ascii_scan.specs.Numeral.{numeral}
use Rattle.ascii_scan.specs.Tokens.{Token, is_blank, front, rest, tokens}
use Rattle.thumb_syntax.specs.Operands.{is_name}
use Rattle.thumb_syntax.specs.Rows.{Shown, reading}
use Rattle.thumb_model.specs.Listing.{Name, Statement, Nothing, Words, Aligns, Sets}
use Rattle.listing_parser.specs.declared.directive.Directive.{Directive}
use Rattle.listing_parser.specs.declared.directive.Directive.TheVariants as directive
use Rattle.listing_parser.specs.Values.{pair, gapped, alone, values}

-- ---- what a statement says ----

-- what it says of functions: nothing, that the next label is one, or that the name is one
pub data FunctionMark : Type 0 where
  Unmarked : FunctionMark
  NextMarked : FunctionMark
  NameMarked : (name : Name) → FunctionMark

-- a statement, in which an instruction is given by its kind and numbers
pub data Said : Type 0 where
  Plain : (s : Statement) → Said
  ByKind : (s : Shown) → Said

pub record Told : Type 0 where
  pub said : Said
  pub mark : FunctionMark

abbrev pub says : Statement → Told
says s = record { said = Plain s; mark = Unmarked }

abbrev pub marks : FunctionMark → Told
marks m = record { said = Plain Nothing; mark = m }

-- ---- instructions ----

unfoldable pub instruction : List ℕ → Option Told
instruction bytes = option_map (λ s. record { said = ByKind s; mark = Unmarked }) (reading bytes)

-- ---- `.align`, `.p2align` ----

-- the size 2^n in bytes, n up to 8, but `.align 0` is `.align 2`
abbrev pub size_of : Bool → ℕ → Option ℕ
size_of is_align n = if nat_lt 8 n then None else if is_align && (n == 0) then Some 4 else Some (2 ^ n)

abbrev pub aligns_at_most : Option ℕ → Option ℕ → Option Told
aligns_at_most None most = None
aligns_at_most (Some size) None = None
aligns_at_most (Some size) (Some most) = Some (says (Aligns size most))

abbrev pub whole_size : Bool → List ℕ → Option ℕ
whole_size is_align w = option_and_then (size_of is_align) (numeral w)

-- `n`, or `n,,k` where at most k bytes are padded
abbrev pub aligned : Bool → Option (List ℕ) → Option (List ℕ × List ℕ) → Option Told
aligned is_align (Some n) gap = aligns_at_most (whole_size is_align n) (whole_size is_align n)
aligned is_align None None = None
aligned is_align None (Some r) = aligns_at_most (whole_size is_align r.0) (numeral r.1)

abbrev pub alignment : Bool → List Token → Option Told
alignment is_align ts = aligned is_align (alone ts) (gapped ts)

-- ---- other directives ----

-- `name, numeral`
abbrev pub sets : Name → Option ℕ → Option Told
sets name None = None
sets name (Some n) = if is_name name then Some (says (Sets name n)) else None

abbrev pub sets_by : Option (List ℕ × List ℕ) → Option Told
sets_by None = None
sets_by (Some r) = sets r.0 (numeral r.1)

abbrev pub setting : List Token → Option Told
setting ts = sets_by (pair ts)

-- `name, %function` marks the name; all other forms are kept as they are
abbrev pub typed_by : Option (List ℕ × List ℕ) → Told
typed_by None = says Nothing
typed_by (Some r) = if bytes_eq r.1 (codes "%function") && is_name r.0 then marks (NameMarked r.0) else says Nothing

abbrev pub typing : List Token → Told
typing ts = typed_by (pair ts)

abbrev pub says_if : Bool → Told → Option Told
says_if b t = if b then Some t else None

abbrev pub is_bare : List Token → Bool
is_bare [] = true
is_bare _ = false

abbrev pub is_text : List ℕ → Option (List ℕ) → Bool
is_text w None = false
is_text w (Some v) = bytes_eq v w

abbrev pub is_alone : List ℕ → List Token → Bool
is_alone w ts = is_text w (alone ts)

-- `.text`, or a name that begins with `.text.`
abbrev pub is_code_section : Name → Bool
is_code_section name = bytes_eq name (codes ".text") || starts_with nat_eq name (codes ".text.")

-- what a directive says, by the bytes after its name
abbrev pub directed : Directive → List ℕ → Option Told
directed directive.Word bytes = option_map (λ vs. says (Words vs)) (values (tokens bytes))
directed directive.Align bytes = alignment true (tokens bytes)
directed directive.PowerAlign bytes = alignment false (tokens bytes)
directed directive.Set bytes = setting (tokens bytes)
directed directive.ThumbFunc bytes = says_if (is_bare (tokens bytes)) (marks NextMarked)
directed directive.Type bytes = Some (typing (tokens bytes))
directed directive.Syntax bytes = says_if (is_alone (codes "unified") (tokens bytes)) (says Nothing)
directed directive.Code bytes = says_if (is_alone (codes "16") (tokens bytes)) (says Nothing)
directed directive.Bare bytes = says_if (is_bare (tokens bytes)) (says Nothing)
directed directive.Section bytes = says_if (is_code_section (front is_name_byte (rest is_blank bytes))) (says Nothing)
directed directive.Kept bytes = Some (says Nothing)

-- the directives by name
unfoldable pub directives : List (List ℕ × Directive)
directives =
    (codes ".word", directive.Word)
    ∷ (codes ".align", directive.Align)
    ∷ (codes ".p2align", directive.PowerAlign)
    ∷ (codes ".set", directive.Set)
    ∷ (codes ".equ", directive.Set)
    ∷ (codes ".thumb_func", directive.ThumbFunc)
    ∷ (codes ".type", directive.Type)
    ∷ (codes ".syntax", directive.Syntax)
    ∷ (codes ".code", directive.Code)
    ∷ (codes ".thumb", directive.Bare)
    ∷ (codes ".text", directive.Bare)
    ∷ (codes ".section", directive.Section)
    ∷ (codes ".cpu", directive.Kept)
    ∷ (codes ".arch", directive.Kept)
    ∷ (codes ".fpu", directive.Kept)
    ∷ (codes ".eabi_attribute", directive.Kept)
    ∷ (codes ".file", directive.Kept)
    ∷ (codes ".loc", directive.Kept)
    ∷ (codes ".ident", directive.Kept)
    ∷ (codes ".global", directive.Kept)
    ∷ (codes ".globl", directive.Kept)
    ∷ (codes ".weak", directive.Kept)
    ∷ (codes ".hidden", directive.Kept)
    ∷ (codes ".extern", directive.Kept)
    ∷ (codes ".size", directive.Kept)
    ∷ (codes ".comm", directive.Kept)
    ∷ (codes ".local", directive.Kept)
    ∷ (codes ".force_thumb", directive.Kept)
    ∷ []

abbrev pub directive_in : List (List ℕ × Directive) → List ℕ → Option Directive
directive_in [] w = None
directive_in (d ∷ ds) w = if bytes_eq w d.0 then Some d.1 else directive_in ds w

-- all directives that begin with `.cfi_` are kept
unfoldable pub directive_named : List ℕ → Option Directive
directive_named w = if starts_with nat_eq w (codes ".cfi_") then Some directive.Kept else directive_in directives w

-- ---- statements ----

abbrev pub is_word_byte : ℕ → Bool
is_word_byte b = not (is_blank b)

abbrev pub directed_by : Option Directive → List ℕ → Option Told
directed_by None bytes = None
directed_by (Some d) bytes = directed d bytes

-- what bytes without blanks at their front say: a directive begins with a full stop
abbrev pub said : List ℕ → Option Told
said [] = Some (says Nothing)
said (b ∷ bs) = if b == 46 then directed_by (directive_named (front is_word_byte (b ∷ bs))) (rest is_word_byte (b ∷ bs)) else instruction (b ∷ bs)

unfoldable pub statement : List ℕ → Option Told
statement bytes = said (rest is_blank bytes)
