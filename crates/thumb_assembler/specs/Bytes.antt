-- The bytes of a listing's image, and the first line that prevents an image.
use Rattle.std.specs.Prelude.{◌≡◌, ℕ, zero, suc, ◌+◌, ◌*◌, ◌/◌, ◌%◌, ◌<◌, List, [], ◌∷◌, ◌++◌, take, Option, Some, None, ◌&&◌, ◌||◌, not, nat_le, nat_lt, Bool, true, false, is_some, if◌then◌else◌}
use Rattle.thumb_instr.specs.declared.instr.Instr.{Instr}
use Rattle.thumb_instr.specs.declared.instr.Instr.TheVariants as instr
use Rattle.thumb_instr.specs.declared.within.Within.{Within}
use Rattle.thumb_instr.specs.declared.distance.Distance.{Distance}
use Rattle.thumb_instr.specs.Items.{bytes_of}
use Rattle.thumb_table.specs.Table.{Encodes}
use Rattle.thumb_model.specs.Listing.{Name, Mention, Value, Statement, Nothing, Instruction, Words, Aligns, Sets, ListingLine, Number, OfName}
use Rattle.thumb_model.specs.Layout.{instr_size, padding, size_at, label_address, distance, literal_base, set_address, end_of, lies_in, or_first}
use Rattle.thumb_model.specs.Naming.{laid, Naming}
use Rattle.thumb_model.specs.Steps.{word_of_value}
use Rattle.thumb_assembler.specs.declared.errors.ImageError.{ImageError}
use Rattle.thumb_assembler.specs.declared.errors.ImageError.TheVariants as error
use Rattle.thumb_assembler.specs.declared.errors.Flaw.{Flaw}
use Rattle.thumb_assembler.specs.declared.errors.Flaw.TheVariants as flaw

-- The image of a listing: its bytes from the base on.

-- a halfword and a word, the lowest byte first
abbrev pub half_bytes : ℕ → List ℕ
half_bytes h = h % 256 ∷ h / 256 % 256 ∷ []

abbrev pub word_bytes : ℕ → List ℕ
word_bytes w = w % 256 ∷ w / 256 % 256 ∷ w / 65536 % 256 ∷ w / 16777216 % 256 ∷ []

-- BF00 for each two bytes of padding
abbrev pub nops : ℕ → List ℕ
nops zero = []
nops (suc zero) = []
nops (suc (suc n)) = 0 ∷ 191 ∷ nops n

-- an instruction as it is encoded at an address: its distance leads to the address of what it mentions
abbrev pub Aims : ℕ → ℕ → Instr → Instr → Type 0
Aims at to (instr.Literal t d) j = (e : Within 0 256) × (to ≡ literal_base at + 4 * e.number) × (j ≡ instr.Literal t e)
Aims at to (instr.Address t d) j = (e : Within 0 256) × (to ≡ literal_base at + 4 * e.number) × (j ≡ instr.Address t e)
Aims at to (instr.BranchIf c d) j = (e : Distance 128) × (distance at to ≡ bytes_of 128 e.field) × (j ≡ instr.BranchIf c e)
Aims at to (instr.Branch d) j = (e : Distance 1024) × (distance at to ≡ bytes_of 1024 e.field) × (j ≡ instr.Branch e)
Aims at to (instr.Call d) j = (e : Distance 8388608) × (distance at to ≡ bytes_of 8388608 e.field) × (j ≡ instr.Call e)
Aims at to i j = j ≡ i

-- the address of what is mentioned
abbrev pub lies_at : Naming → Option ℕ → ℕ → ℕ
lies_at names (Some a) word = a
lies_at names None word = word / 2 * 2

abbrev pub mention_lies : ℕ → Naming → List ListingLine → Mention → ℕ
mention_lies base names all m = lies_at names (label_address m.name base all) (names.word_of m.name) + m.plus

-- the bytes of data words
abbrev pub words_bytes : Naming → List Value → List ℕ
words_bytes names [] = []
words_bytes names (v ∷ vs) = word_bytes (word_of_value names v) ++ words_bytes names vs

-- the bytes of an instruction: those of the one or two halfwords that encode it
abbrev pub IsInstrBytes : Instr → List ℕ → Type 0
IsInstrBytes i bytes = (first : ℕ) × (second : ℕ) × Encodes i first second × (first < 65536) × (second < 65536) × (bytes ≡ take (instr_size i) (half_bytes first ++ half_bytes second))

-- a listing that is laid out at a base, with what its names stand for
pub record Laid : Type 0 where
  pub base : ℕ
  pub names : Naming
  pub lines : List ListingLine

-- the bytes of an instruction at an address: unchanged where it mentions nothing
abbrev pub IsEncoded : Laid → ℕ → Instr → Option Mention → List ℕ → Type 0
IsEncoded laid at i None bytes = IsInstrBytes i bytes
IsEncoded laid at i (Some m) bytes = (j : Instr) × Aims at (mention_lies laid.base laid.names laid.lines m) i j × IsInstrBytes j bytes

-- the bytes of a statement at an address
abbrev pub IsStatementBytes : Laid → ℕ → Statement → List ℕ → Type 0
IsStatementBytes laid at Nothing bytes = bytes ≡ []
IsStatementBytes laid at (Instruction i mention) bytes = IsEncoded laid at i mention bytes
IsStatementBytes laid at (Words vs) bytes = bytes ≡ words_bytes laid.names vs
IsStatementBytes laid at (Aligns size most) bytes = bytes ≡ nops (padding size most at)
IsStatementBytes laid at (Sets name address) bytes = bytes ≡ []

-- the bytes of lines that lie from an address on
abbrev pub AreLineBytes : Laid → ℕ → List ListingLine → List ℕ → Type 0
AreLineBytes laid at [] bytes = bytes ≡ []
AreLineBytes laid at (l ∷ ls) bytes = (here : List ℕ) × (rest : List ℕ) × (bytes ≡ here ++ rest) × IsStatementBytes laid at l.statement here × AreLineBytes laid (at + size_at l.statement at) ls rest

-- the image of a listing at a base
abbrev pub IsImage : ℕ → (Name → ℕ) → List ListingLine → List ℕ → Type 0
IsImage base set all bytes = AreLineBytes (record { base = base; names = laid base set all; lines = all }) base all bytes

-- external names stand for the addresses that the lines set, where they set them
abbrev pub IsSetBy : List ListingLine → (Name → ℕ) → Type 0
IsSetBy lines set = (name : Name) (address : ℕ) → set_address name lines ≡ Some address → set name ≡ address

-- the bytes are the image of the lines at a base, with the addresses that the lines set
abbrev pub AreImage : ℕ → List ListingLine → List ℕ → Type 0
AreImage base lines bytes = (set : Name → ℕ) → IsSetBy lines set → IsImage base set lines bytes

-- The first line because of which a listing has no image.

-- a name has no address where no label has it and no line sets its address
abbrev pub lies_nowhere : ℕ → List ListingLine → Name → Bool
lies_nowhere base all name = not (is_some (lies_in base all name))

-- B and BL: their name may be external
abbrev pub may_leave : Instr → Bool
may_leave (instr.Branch d) = true
may_leave (instr.Call d) = true
may_leave i = false

abbrev pub branch_lost : ℕ → List ListingLine → Instr → Option Mention → Bool
branch_lost base all i None = false
branch_lost base all i (Some m) = may_leave i && lies_nowhere base all m.name

abbrev pub value_lost : ℕ → List ListingLine → Value → Bool
value_lost base all (Number n) = false
value_lost base all (OfName m) = lies_nowhere base all m.name

abbrev pub values_lost : ℕ → List ListingLine → List Value → Bool
values_lost base all [] = false
values_lost base all (v ∷ vs) = value_lost base all v || values_lost base all vs

-- an address lies in the image: it is at least the base and below the end
abbrev pub lies_inside : ℕ → List ListingLine → ℕ → Bool
lies_inside base all address = nat_le base address && nat_lt address (end_of base all)

-- why a statement has no bytes: it mentions in `b`, `bl` or `.word` a name without an address, or sets an address in the image
abbrev pub flaw_of : ℕ → List ListingLine → Statement → Option Flaw
flaw_of base all Nothing = None
flaw_of base all (Instruction i mention) = if branch_lost base all i mention then Some flaw.NoAddress else None
flaw_of base all (Words vs) = if values_lost base all vs then Some flaw.NoAddress else None
flaw_of base all (Aligns size most) = None
flaw_of base all (Sets name address) = if lies_inside base all address then Some flaw.Inside else None

-- the first line with a flaw, by its number
abbrev pub flaws_from : ℕ → List ListingLine → ℕ → List ListingLine → Option (ℕ × Flaw)
flaws_from base all n [] = None
flaws_from base all n (l ∷ ls) = or_first n (flaw_of base all l.statement) (flaws_from base all (n + 1) ls)

-- the first flaw of all lines, counted from 1
abbrev pub first_flaw : ℕ → List ListingLine → Option (ℕ × Flaw)
first_flaw base all = flaws_from base all 1 all

-- the error is that of the first line with a flaw; memory may run out anywhere
abbrev pub IsRefusal : ℕ → List ListingLine → ImageError → Type 0
IsRefusal base all (error.NoAddress line) = first_flaw base all ≡ Some (line, flaw.NoAddress)
IsRefusal base all (error.Inside line) = first_flaw base all ≡ Some (line, flaw.Inside)
IsRefusal base all error.Memory = Unit {0}
