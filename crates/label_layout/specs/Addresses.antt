-- Where the places and labels of lines lie: what a layout holds, and when it is that of the lines.
use Rattle.std.specs.Prelude.{◌≡◌, ℕ, Bool, ◌+◌, ◌≤◌, ◌^◌, List, [], ◌∷◌, ◌++◌, Option, Some, None, slice_get, nat_le, if◌then◌else◌}
use Rattle.std.specs.Map.{lookup}
use Rattle.std.specs.Str.{bytes_eq}
use Rattle.std.specs.declared.alloc.Global.{Global}
use Rattle.std.specs.declared.vec.Vec.{Vec}
use Rattle.thumb_model.specs.Listing.{Name, Value, Statement, Nothing, Instruction, Words, Aligns, Sets, ListingLine}
use Rattle.thumb_model.specs.Layout.{size_at, end_of, label_address}

-- the address, where it lies in the Code region of the system address map (0x00000000 to 0x1FFFFFFF) or is its end
abbrev pub in_code_region : ℕ → Option ℕ
in_code_region address = if nat_le address (2 ^ 29) then Some address else None

-- the addresses of data words, four bytes each
abbrev pub word_addresses : ℕ → List Value → List ℕ
word_addresses at [] = []
word_addresses at (v ∷ vs) = at ∷ word_addresses (at + 4) vs

-- the addresses of the places of a statement, and of lines, that begin at an address
abbrev pub addresses_in : ℕ → Statement → List ℕ
addresses_in at Nothing = []
addresses_in at (Instruction i mention) = at ∷ []
addresses_in at (Words vs) = word_addresses at vs
addresses_in at (Aligns size most) = []
addresses_in at (Sets name address) = []

abbrev pub addresses_from : ℕ → List ListingLine → List ℕ
addresses_from at [] = []
addresses_from at (l ∷ ls) = addresses_in at l.statement ++ addresses_from (at + size_at l.statement at) ls

-- what a layout holds: its base, its end, the address of each place, and addresses by the labels' names
pub record Addresses : Type 0 where
  pub base : ℕ
  pub end : ℕ
  pub places : List ℕ
  pub labels : List (Vec ℕ Global × ℕ)

-- whether a name is the key of an entry
abbrev pub is_key : Name → Vec ℕ Global → Bool
is_key name key = bytes_eq name key.items

-- the address of the label of a name
abbrev pub label_of : Addresses → Name → Option ℕ
label_of a name = lookup (is_key name) a.labels

-- the addresses are those of the lines, laid out from the base
pub record AreAddresses (lines : List ListingLine) (a : Addresses) : Type 0 where
  pub end : a.end ≡ end_of a.base lines
  pub places : a.places ≡ addresses_from a.base lines
  pub label : (name : Name) → label_of a name ≡ label_address name a.base lines

-- all addresses lie in the Code region, or are its end
pub record AreInCode (a : Addresses) : Type 0 where
  pub end : a.end ≤ 2 ^ 29
  pub places : (p address : ℕ) → slice_get a.places p ≡ Some address → address ≤ 2 ^ 29
  pub label : (name : Name) (address : ℕ) → label_of a name ≡ Some address → address ≤ 2 ^ 29
