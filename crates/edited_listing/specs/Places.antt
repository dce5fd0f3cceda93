-- The items of a listing that is being changed as places of a code.
use Rattle.std.specs.Prelude.{◌≡◌, ℕ, Bool, true, List, [], ◌∷◌, Option, Some, is_some}
use Rattle.thumb_model.specs.Listing.{Place, plain, is_op_place}
use Rattle.edited_listing.specs.declared.standing.Standing.{Standing}
use Rattle.edited_listing.specs.declared.standing.Standing.TheVariants as standing
use Rattle.edited_listing.specs.Items.{Item, AsGiven, New}

-- what stands there, by what was given at each place
abbrev pub item_place : (ℕ → Option Place) → Item → Option Place
item_place at (AsGiven p) = at p
item_place at (New i home) = Some (plain i)

-- a new item's home was given as an instruction, and an item that is as given is a place that was given
abbrev pub has_home : (ℕ → Option Place) → Item → Bool
has_home at (AsGiven p) = is_some (at p)
has_home at (New i home) = is_op_place (at home)

abbrev pub AreHome : (ℕ → Option Place) → List Item → Type 0
AreHome at [] = Unit {0}
AreHome at (x ∷ xs) = (has_home at x ≡ true) × AreHome at xs

-- the item that stands at a place
abbrev pub item_of : ℕ → Standing → Item
item_of p standing.Given = AsGiven p
item_of p standing.Gone = AsGiven p
item_of p (standing.New i home) = New i home
