-- The kept places of a listing that is being changed, in order, each with the place on whose line it is emitted.
use Rattle.std.specs.Prelude.{ℕ, zero, suc, ◌≤◌, ◌==◌, ◌||◌, Bool, false, List, [], ◌∷◌, ◌++◌, map, drop}
use Rattle.thumb_instr.specs.declared.instr.Instr.{Instr}
use Rattle.edited_listing.specs.declared.standing.Standing.{Standing}
use Rattle.edited_listing.specs.declared.standing.Standing.TheVariants as standing

-- a place that is kept: one that stands as it was given, or a new instruction and the place on whose line it is emitted
pub data Item : Type 0 where
  AsGiven : (place : ℕ) → Item
  New : (i : Instr) (home : ℕ) → Item

abbrev pub home_of : Item → ℕ
home_of (AsGiven p) = p
home_of (New i home) = home

-- the places from p on that are kept, in order
abbrev pub items_from : ℕ → List Standing → List Item
items_from p [] = []
items_from p (standing.Given ∷ ss) = AsGiven p ∷ items_from (suc p) ss
items_from p (standing.Gone ∷ ss) = items_from (suc p) ss
items_from p (standing.New i home ∷ ss) = New i home ∷ items_from (suc p) ss

-- whether place p is among them, as it was given
abbrev pub has_given : ℕ → List Item → Bool
has_given p [] = false
has_given p (AsGiven q ∷ xs) = (q == p) || has_given p xs
has_given p (New i home ∷ xs) = has_given p xs

-- homes ascend, from `new` on for a new item, from `given` on for one as given; nothing else is emitted on the line of a place that is as given
abbrev pub AreSorted : ℕ → ℕ → List Item → Type 0
AreSorted new given [] = Unit {0}
AreSorted new given (AsGiven p ∷ xs) = (given ≤ p) × AreSorted (suc p) (suc p) xs
AreSorted new given (New i home ∷ xs) = (new ≤ home) × AreSorted home (suc home) xs

-- the items, where n of them from number r on give way to new instructions at a home
abbrev pub spliced : ℕ → ℕ → List Instr → List Item → List Item
spliced r n is [] = []
spliced zero n is (x ∷ xs) = map (λ i. New i (home_of x)) is ++ drop n (x ∷ xs)
spliced (suc r) n is (x ∷ xs) = x ∷ spliced r n is xs
