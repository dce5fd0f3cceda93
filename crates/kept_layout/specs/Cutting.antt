-- Lines cut into blocks: one begins at each line that has labels, mentions a name or aligns.
use Rattle.std.specs.Prelude.{◌≡◌, ℕ, ◌+◌, ◌<◌, List, [], ◌∷◌, map, length, Option, Some, None, slice_get, Contains, if◌then◌else◌}
use Rattle.thumb_model.specs.Listing.{Name, ListingLine, places_of}
use Rattle.kept_layout.specs.declared.block.NameLocation.{NameLocation}
use Rattle.kept_layout.specs.declared.block.NameLocation.TheVariants as location
use Rattle.kept_layout.specs.declared.block.Head.{Head}
use Rattle.kept_layout.specs.declared.block.Head.TheVariants as head
use Rattle.kept_layout.specs.declared.block.Block.{Block}
use Rattle.kept_layout.specs.Blocks.{Footprint, footprints_of}
use Rattle.kept_layout.specs.Kept.{begins, bytes_of, first_head, target_in}

-- ---- parts of lines ----

-- the lines before the first that begins a block
abbrev pub front_part : List ListingLine → List ListingLine
front_part [] = []
front_part (l ∷ ls) = if begins l then [] else l ∷ front_part ls

-- the parts from that line on
abbrev pub later_parts : List ListingLine → List (List ListingLine)
later_parts [] = []
later_parts (l ∷ ls) = if begins l then (l ∷ front_part ls) ∷ later_parts ls else later_parts ls

abbrev pub parts_of : List ListingLine → List (List ListingLine)
parts_of ls = front_part ls ∷ later_parts ls

-- the number of the part in which a line stands, where the line before stands in the n-th; and those of lines
abbrev pub number_at : ℕ → ListingLine → ℕ
number_at n l = if begins l then n + 1 else n

abbrev pub numbers_from : ℕ → List ListingLine → List ℕ
numbers_from n [] = []
numbers_from n (l ∷ ls) = number_at n l ∷ numbers_from (number_at n l) ls

-- where a name lies, in lines that are cut into parts so
abbrev pub lies_at : List ListingLine → Name → Option NameLocation
lies_at ls name = target_in (parts_of ls) name

abbrev pub part_footprint : (Name → Option NameLocation) → List ListingLine → Footprint
part_footprint find p = record { head = first_head find p; bytes = bytes_of p; places = length (places_of p) }

abbrev pub part_footprints : List ListingLine → List Footprint
part_footprints ls = map (part_footprint (lies_at ls)) (parts_of ls)

-- ---- mentions ----

-- the block whose label is mentioned
abbrev pub block_in : Option NameLocation → Option ℕ
block_in None = None
block_in (Some (location.Block k)) = Some k
block_in (Some (location.Address a)) = None

abbrev pub mentioned : Head → Option ℕ
mentioned head.Plain = None
mentioned (head.Pads size most) = None
mentioned (head.Aims aim) = block_in aim.to

-- the blocks that are mentioned are among them
abbrev pub AreMet : List Footprint → Type 0
AreMet footprints = (i t : ℕ) (s : Footprint) → slice_get footprints i ≡ Some s → mentioned s.head ≡ Some t → t < length footprints

-- each block knows those of the first n that mention its label
abbrev pub KnowCallers : ℕ → List Block → Type 0
KnowCallers n ss = (i t : ℕ) (s : Footprint) (d : Block) → i < n → slice_get (footprints_of ss) i ≡ Some s → mentioned s.head ≡ Some t → slice_get ss t ≡ Some d → Contains d.callers.items i

-- the callers of blocks are among the blocks
abbrev pub AreCallers : List Block → Type 0
AreCallers ss = (t i : ℕ) (d : Block) → slice_get ss t ≡ Some d → Contains d.callers.items i → i < length ss
