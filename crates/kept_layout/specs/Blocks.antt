-- Blocks of lines, one after the other: where they begin, and whether what they mention is within reach.
use Rattle.std.specs.Prelude.{◌≡◌, ℕ, zero, suc, ◌+◌, ◌-◌, ◌*◌, ◌&&◌, ◌||◌, ◌<◌, ◌≤◌, max, nat_eq, nat_le, nat_lt, not, Bool, true, false, List, [], ◌∷◌, length, map, Option, Some, None, slice_get, if◌then◌else◌}
use Rattle.thumb_instr.specs.declared.instr.Instr.{Instr}
use Rattle.thumb_instr.specs.declared.instr.Instr.TheVariants as instr
use Rattle.thumb_model.specs.Layout.{aim_fault, padding, Fault}
use Rattle.kept_layout.specs.declared.alignments.Loose.{Loose}
use Rattle.kept_layout.specs.declared.alignments.Loose.TheVariants as sort
use Rattle.kept_layout.specs.declared.block.Aim.{Aim}
use Rattle.kept_layout.specs.declared.block.NameLocation.{NameLocation}
use Rattle.kept_layout.specs.declared.block.NameLocation.TheVariants as location
use Rattle.kept_layout.specs.declared.block.Head.{Head}
use Rattle.kept_layout.specs.declared.block.Head.TheVariants as head
use Rattle.kept_layout.specs.declared.lag.Lag.{Lag}
use Rattle.kept_layout.specs.declared.block.Block.{Block}

-- what of a block doesn't depend on where it lies: what it begins with, the bytes that it takes besides a padding, and how many places it has
pub record Footprint : Type 0 where
  pub head : Head
  pub bytes : ℕ
  pub places : ℕ

abbrev pub footprint_of : Block → Footprint
footprint_of s = record { head = s.head; bytes = s.bytes; places = s.places }

abbrev pub footprints_of : List Block → List Footprint
footprints_of ss = map footprint_of ss

-- ---- addresses ----

abbrev pub padding_of : Head → ℕ → ℕ
padding_of head.Plain at = 0
padding_of (head.Pads size most) at = padding size most at
padding_of (head.Aims aim) at = 0

-- the address after a block
abbrev pub behind : ℕ → Footprint → ℕ
behind at s = at + (padding_of s.head at + s.bytes)

-- where each one begins, and where the last one ends
abbrev pub starts_from : ℕ → List Footprint → List ℕ
starts_from at [] = []
starts_from at (s ∷ ss) = at ∷ starts_from (behind at s) ss

abbrev pub end_from : ℕ → List Footprint → ℕ
end_from at [] = at
end_from at (s ∷ ss) = end_from (behind at s) ss

-- how many places they have
abbrev pub total_places : List Footprint → ℕ
total_places [] = 0
total_places (s ∷ ss) = s.places + total_places ss

-- ---- mentions ----

-- the address of a target, given where each block begins
abbrev pub address_of : List ℕ → Option NameLocation → Option ℕ
address_of starts None = None
address_of starts (Some (location.Block k)) = slice_get starts k
address_of starts (Some (location.Address a)) = Some a

-- what is wrong with what stands first in a block that begins at an address
abbrev pub head_fault : List ℕ → ℕ → Head → Option Fault
head_fault starts at head.Plain = None
head_fault starts at (head.Pads size most) = None
head_fault starts at (head.Aims aim) = aim_fault at aim.instr (address_of starts aim.to) aim.plus

-- whatever they mention is within reach, where the first begins at the base
abbrev pub AllReach : ℕ → List Footprint → Type 0
AllReach base footprints =
    (k : ℕ) (s : Footprint) (at : ℕ) → slice_get footprints k ≡ Some s → slice_get (starts_from base footprints) k ≡ Some at → head_fault (starts_from base footprints) at s.head ≡ None

-- ---- blocks that move ----

-- the lag of block n: how many bytes it lies before its noted address
abbrev pub lag_of : Lag → ℕ → ℕ
lag_of l n = if nat_lt n l.border then (if nat_le l.from n && nat_lt n l.until then l.gap else 0) else l.shift

-- the address of block n, for which `at` is noted
abbrev pub located : Lag → ℕ → ℕ → ℕ
located l n at = at - lag_of l n

-- the address of each block, counted from n
abbrev pub addresses : Lag → ℕ → List Block → List ℕ
addresses l n [] = []
addresses l n (s ∷ ss) = located l n s.at ∷ addresses l (suc n) ss

-- the first number divides the second
abbrev pub Divides : ℕ → ℕ → Type 0
Divides a b = (q : ℕ) × (b ≡ q * a)

abbrev pub IsAlignmentOf : ℕ → Head → Type 0
IsAlignmentOf alignment head.Plain = Unit {0}
IsAlignmentOf alignment (head.Pads size most) = Divides size alignment
IsAlignmentOf alignment (head.Aims aim) = Unit {0}

-- the sizes to which blocks align divide the number
abbrev pub IsAlignment : ℕ → List Footprint → Type 0
IsAlignment alignment [] = Unit {0}
IsAlignment alignment (s ∷ ss) = IsAlignmentOf alignment s.head × IsAlignment alignment ss

-- whether an instruction is a literal load or `adr`
abbrev pub is_literal : Instr → Bool
is_literal (instr.Literal t s) = true
is_literal (instr.Address t s) = true
is_literal i = false

-- the later of block n and of its literal's label: up to there a move must be by a multiple of 4. Without such a literal it is 0, which never moves
abbrev pub last_to : ℕ → Instr → Option NameLocation → ℕ
last_to n i None = 0
last_to n i (Some (location.Block k)) = if is_literal i then max n k else 0
last_to n i (Some (location.Address a)) = 0

abbrev pub literal_last : ℕ → Head → ℕ
literal_last n head.Plain = 0
literal_last n (head.Pads size most) = 0
literal_last n (head.Aims aim) = last_to n aim.instr aim.to

-- the later of block n and of the block whose label it mentions
abbrev pub later_to : ℕ → Option NameLocation → ℕ
later_to n None = n
later_to n (Some (location.Block k)) = max n k
later_to n (Some (location.Address a)) = n

abbrev pub later_end : ℕ → Head → ℕ
later_end n head.Plain = n
later_end n (head.Pads size most) = n
later_end n (head.Aims aim) = later_to n aim.to

-- whether the mention of block n is loose, so may come out of reach by coming nearer: of a label by a literal load at or after it, or of a set address
abbrev pub is_loose_to : Loose → ℕ → Instr → Option NameLocation → Bool
is_loose_to l n i None = false
is_loose_to sort.Label n i (Some (location.Block k)) = is_literal i && nat_le k n
is_loose_to sort.Address n i (Some (location.Block k)) = false
is_loose_to sort.Label n i (Some (location.Address a)) = false
is_loose_to sort.Address n i (Some (location.Address a)) = true

abbrev pub is_loose : Loose → ℕ → Head → Bool
is_loose l n head.Plain = false
is_loose l n (head.Pads size most) = false
is_loose l n (head.Aims aim) = is_loose_to l n aim.instr aim.to

-- whether what a block begins with is calm, so stays as it is where it and what it mentions move by one even number of bytes: no literal, no mention of an
-- address that is set, and no alignment to more than two bytes
abbrev pub is_calm_to : Option NameLocation → Bool
is_calm_to None = true
is_calm_to (Some (location.Block k)) = true
is_calm_to (Some (location.Address a)) = false

abbrev pub is_calm : Head → Bool
is_calm head.Plain = true
is_calm (head.Pads size most) = nat_eq size 1 || nat_eq size 2
is_calm (head.Aims aim) = not (is_literal aim.instr) && is_calm_to aim.to

abbrev pub begins_literal : Head → Bool
begins_literal head.Plain = false
begins_literal (head.Pads size most) = false
begins_literal (head.Aims aim) = is_literal aim.instr

-- block n is calm: what it begins with is, and no literal mentions its label
pub record IsCalm (footprints : List Footprint) (n : ℕ) : Type 0 where
  pub own : (s : Footprint) → slice_get footprints n ≡ Some s → is_calm s.head ≡ true
  pub label : (i : ℕ) (s : Footprint) (a : Aim) → slice_get footprints i ≡ Some s → s.head ≡ head.Aims a → a.to ≡ Some (location.Block n) → is_literal a.instr ≡ false

-- all blocks from n up to before the wall are calm; the wall is a block too
pub record IsWall (footprints : List Footprint) (n wall : ℕ) : Type 0 where
  pub from : n ≤ wall
  pub within : wall < length footprints
  pub calm : (j : ℕ) → n ≤ j → j < wall → IsCalm footprints j

abbrev pub AreWalls : List ℕ → List Footprint → Type 0
AreWalls walls footprints = (n wall : ℕ) → slice_get walls n ≡ Some wall → IsWall footprints n wall

-- what an instruction mentions is within reach from every address up to `slack` bytes before `at`
abbrev pub Reaches : ℕ → ℕ → Instr → ℕ → ℕ → Type 0
Reaches slack at i to plus = (d : ℕ) → d ≤ slack → d ≤ at → aim_fault (at - d) i (Some to) plus ≡ None

-- the same where the mention is of an address that is set
abbrev pub HasSlackTo : ℕ → ℕ → Instr → Option NameLocation → ℕ → Type 0
HasSlackTo slack at i None plus = Unit {0}
HasSlackTo slack at i (Some (location.Block k)) plus = Unit {0}
HasSlackTo slack at i (Some (location.Address a)) plus = Reaches slack at i a plus

abbrev pub HasSlack : ℕ → ℕ → Head → Type 0
HasSlack slack at head.Plain = Unit {0}
HasSlack slack at (head.Pads size most) = Unit {0}
HasSlack slack at (head.Aims aim) = HasSlackTo slack at aim.instr aim.to aim.plus

-- an instruction that mentions a name has two bytes at least
abbrev pub AreWide : List Footprint → Type 0
AreWide footprints = (k : ℕ) (s : Footprint) (aim : Aim) → slice_get footprints k ≡ Some s → s.head ≡ head.Aims aim → 2 ≤ s.bytes

-- ---- blocks that shrink ----

-- the footprints, of which the k-th has so many bytes and places fewer
abbrev pub lessen : ℕ → ℕ → ℕ → List Footprint → List Footprint
lessen k bytes places [] = []
lessen zero bytes places (s ∷ ss) = record { head = s.head; bytes = s.bytes - bytes; places = s.places - places } ∷ ss
lessen (suc k) bytes places (s ∷ ss) = s ∷ lessen k bytes places ss
