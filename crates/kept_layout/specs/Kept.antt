-- When a kept layout is the layout of lines: how lines are cut into blocks, and the invariant of what is kept of these.
use Rattle.std.specs.Prelude.{◌≡◌, ℕ, ◌+◌, ◌*◌, ◌<◌, ◌≤◌, ◌^◌, ◌||◌, Bool, not, true, false, List, [], ◌∷◌, ◌++◌, length, drop, take, Option, Some, None, slice_get, Contains, if◌then◌else◌}
use Rattle.thumb_instr.specs.declared.instr.Instr.{Instr}
use Rattle.thumb_model.specs.Listing.{Name, Statement, Nothing, Instruction, Words, Aligns, Sets, ListingLine, places_of}
use Rattle.thumb_model.specs.Layout.{cleared, instr_size, is_among, set_address, Layable}
use Rattle.thumb_model.specs.Replaced.{replaced_lines, IsWindow}
use Rattle.listing_parser.specs.Parsing.{own_line}
use Rattle.window_runs.specs.Rows.{is_unlabelled}
use Rattle.kept_layout.specs.declared.alignments.Loose.TheVariants as sort
use Rattle.kept_layout.specs.declared.kept.KeptLayout.{KeptLayout}
use Rattle.kept_layout.specs.declared.block.Aim.{Aim}
use Rattle.kept_layout.specs.declared.block.NameLocation.{NameLocation}
use Rattle.kept_layout.specs.declared.block.NameLocation.TheVariants as location
use Rattle.kept_layout.specs.declared.block.Head.{Head}
use Rattle.kept_layout.specs.declared.block.Head.TheVariants as head
use Rattle.kept_layout.specs.declared.block.Block.{Block}
use Rattle.kept_layout.specs.Blocks.{addresses, end_from, is_loose, lag_of, literal_last, footprints_of, starts_from, total_places, AllReach, AreWalls, Divides, HasSlack, IsAlignment, Footprint}

-- ---- blocks of lines ----

-- whether a statement takes the same bytes wherever it lies, and mentions nothing
abbrev pub is_fixed : Statement → Bool
is_fixed Nothing = true
is_fixed (Instruction i None) = true
is_fixed (Instruction i (Some m)) = false
is_fixed (Words vs) = true
is_fixed (Aligns size most) = false
is_fixed (Sets name address) = true

-- the bytes of a statement besides a padding, and those of lines
abbrev pub bytes_in : Statement → ℕ
bytes_in Nothing = 0
bytes_in (Instruction i mention) = instr_size i
bytes_in (Words vs) = 4 * length vs
bytes_in (Aligns size most) = 0
bytes_in (Sets name address) = 0

abbrev pub bytes_of : List ListingLine → ℕ
bytes_of [] = 0
bytes_of (l ∷ ls) = bytes_in l.statement + bytes_of ls

-- lines without labels whose statements are fixed
abbrev pub AreBare : List ListingLine → Type 0
AreBare [] = Unit {0}
AreBare (l ∷ ls) = (l.names ≡ []) × (is_fixed l.statement ≡ true) × AreBare ls

-- whether a line begins a block
abbrev pub begins : ListingLine → Bool
begins l = not (is_unlabelled l.names) || not (is_fixed l.statement)

-- the labels with which lines begin
abbrev pub first_names : List ListingLine → List Name
first_names [] = []
first_names (l ∷ ls) = l.names

abbrev pub joined : List (List ListingLine) → List ListingLine
joined [] = []
joined (p ∷ ps) = p ++ joined ps

-- the number of the first part, from n on, that begins with a label of the name
abbrev pub part_of : Name → ℕ → List (List ListingLine) → Option ℕ
part_of name n [] = None
part_of name n (p ∷ ps) = if is_among name (first_names p) then Some n else part_of name (n + 1) ps

-- where a name lies: at the label of a part, or at an address that is set
abbrev pub target_at : Option ℕ → Option ℕ → Option NameLocation
target_at None None = None
target_at None (Some a) = Some (location.Address a)
target_at (Some k) set = Some (location.Block k)

abbrev pub target_in : List (List ListingLine) → Name → Option NameLocation
target_in parts name = target_at (part_of name 0 parts) (cleared (set_address name (joined parts)))

-- what a statement is as the first of a block, given where names lie
abbrev pub head_of : (Name → Option NameLocation) → Statement → Head
head_of find Nothing = head.Plain
head_of find (Instruction i None) = head.Plain
head_of find (Instruction i (Some m)) = head.Aims (record { instr = i; to = find m.name; plus = m.plus })
head_of find (Words vs) = head.Plain
head_of find (Aligns size most) = head.Pads size most
head_of find (Sets name address) = head.Plain

abbrev pub first_head : (Name → Option NameLocation) → List ListingLine → Head
first_head find [] = head.Plain
first_head find (l ∷ ls) = head_of find l.statement

abbrev pub behind_first : List ListingLine → List ListingLine
behind_first [] = []
behind_first (l ∷ ls) = ls

-- the footprint is that of the lines, of which the first alone may have labels, mention a name or align
pub record IsFootprintOf (find : Name → Option NameLocation) (lines : List ListingLine) (s : Footprint) : Type 0 where
  pub head : s.head ≡ first_head find lines
  pub bare : AreBare (behind_first lines)
  pub bytes : s.bytes ≡ bytes_of lines
  pub places : s.places ≡ length (places_of lines)

abbrev pub AreFootprintsOf : (Name → Option NameLocation) → List (List ListingLine) → List Footprint → Type 0
AreFootprintsOf find [] [] = Unit {0}
AreFootprintsOf find [] (s ∷ ss) = ⊥
AreFootprintsOf find (p ∷ ps) [] = ⊥
AreFootprintsOf find (p ∷ ps) (s ∷ ss) = IsFootprintOf find p s × AreFootprintsOf find ps ss

-- each of the parts begins with a line that begins a block
abbrev pub AllBegin : List (List ListingLine) → Type 0
AllBegin [] = Unit {0}
AllBegin ([] ∷ ps) = ⊥
AllBegin ((l ∷ ls) ∷ ps) = (begins l ≡ true) × AllBegin ps

abbrev pub behind_first_part : List (List ListingLine) → List (List ListingLine)
behind_first_part [] = []
behind_first_part (p ∷ ps) = ps

-- the lines are cut into parts of these footprints
pub record AreCut (lines : List ListingLine) (footprints : List Footprint) : Type 0 where
  pub parts : List (List ListingLine)
  pub is : lines ≡ joined parts
  pub footprints_are : AreFootprintsOf (target_in parts) parts footprints
  pub begin : AllBegin (behind_first_part parts)

-- ---- what is kept ----

-- the 128 blocks from number n on have `room` places
abbrev pub IsRoom : List Footprint → ℕ → ℕ → Type 0
IsRoom footprints n room = total_places (take n footprints) + room ≡ total_places (take (n + 128) footprints)

-- the numbers say how many places each group of 128 blocks has
abbrev pub AreRooms : List ℕ → List Footprint → Type 0
AreRooms rooms footprints = (g room : ℕ) → slice_get rooms g ≡ Some room → IsRoom footprints (g * 128) room

-- the blocks lie one after the other from the base on, and each knows which blocks mention its label
pub record IsLaid (k : KeptLayout) : Type 0 where
  pub in_code : end_from k.base (footprints_of k.blocks.items) ≤ 2 ^ 29
  pub starts : addresses k.lag 0 k.blocks.items ≡ starts_from k.base (footprints_of k.blocks.items)
  pub border : k.lag.border ≤ length k.blocks.items
  pub noted : (j : ℕ) (s : Block) → slice_get k.blocks.items j ≡ Some s → lag_of k.lag j ≤ s.at
  pub alignments : (j : ℕ) (s : Block) → slice_get k.blocks.items j ≡ Some s → IsAlignment s.alignment (drop j (footprints_of k.blocks.items))
  -- 4 divides the alignments of the blocks up to the later of a literal and its label
  pub literals : (i j : ℕ) (s : Footprint) (d : Block) → slice_get (footprints_of k.blocks.items) i ≡ Some s → slice_get k.blocks.items j ≡ Some d → j ≤ literal_last i s.head → Divides 4 d.alignment
  pub reach : AllReach k.base (footprints_of k.blocks.items)
  pub targets : (i t : ℕ) (s : Block) (a : Aim) → slice_get k.blocks.items i ≡ Some s → s.head ≡ head.Aims a → a.to ≡ Some (location.Block t) → t < length k.blocks.items
  pub callers : (i t : ℕ) (s d : Block) (a : Aim) → slice_get k.blocks.items i ≡ Some s → s.head ≡ head.Aims a → a.to ≡ Some (location.Block t) → slice_get k.blocks.items t ≡ Some d → Contains d.callers.items i
  pub called : (t i : ℕ) (d : Block) → slice_get k.blocks.items t ≡ Some d → Contains d.callers.items i → i < length k.blocks.items
  -- the loose mentions are listed, and those of set addresses after the block `slack_from` may all move by `slack` bytes
  pub loose : (j : ℕ) (s : Block) → slice_get k.blocks.items j ≡ Some s → is_loose sort.Label j s.head ≡ true → Contains k.loose.items j
  pub loose_within : (j : ℕ) → Contains k.loose.items j → j < length k.blocks.items
  pub absolute : (j : ℕ) (s : Block) → slice_get k.blocks.items j ≡ Some s → is_loose sort.Address j s.head ≡ true → Contains k.absolute.items j
  pub absolute_within : (j : ℕ) → Contains k.absolute.items j → j < length k.blocks.items
  pub slack : (j at : ℕ) (s : Block) → k.slack_from < j → slice_get k.blocks.items j ≡ Some s → slice_get (starts_from k.base (footprints_of k.blocks.items)) j ≡ Some at → HasSlack k.slack at s.head
  -- the current block is one of them, and `first` places come before it
  pub here : k.here < length k.blocks.items
  pub first : k.first ≡ total_places (take k.here (footprints_of k.blocks.items))
  pub rooms : AreRooms k.rooms.items (footprints_of k.blocks.items)
  pub walls : AreWalls k.walls.items (footprints_of k.blocks.items)

-- k is the layout of the lines
pub record Lays (k : KeptLayout) (lines : List ListingLine) : Type 0 where
  pub laid : IsLaid k
  pub cut : AreCut lines (footprints_of k.blocks.items)

-- the current block has the place, if there is such a place
pub record IsNear (k : KeptLayout) (place : ℕ) : Type 0 where
  pub from : k.first ≤ place
  pub until : place < total_places (footprints_of k.blocks.items) → (s : Footprint) → slice_get (footprints_of k.blocks.items) k.here ≡ Some s → place < k.first + s.places

-- ---- windows that give way ----

-- k is the layout of some lines, and the window begins at a place of its current block
pub record StandsAt (k : KeptLayout) (window : List Instr) : Type 0 where
  pub lines : List ListingLine
  pub place : ℕ
  pub lays : Lays k lines
  pub near : IsNear k place
  pub is_window : IsWindow lines place window

-- and these lines can be laid out once the window has given way to the instructions
pub record LeavesLayable (k : KeptLayout) (window new : List Instr) : Type 0 where
  pub stands : StandsAt k window
  pub layable : Layable k.base (replaced_lines own_line stands.place (length window) new stands.lines)
