-- Places of which some give way: what stands at them then.
use Rattle.std.specs.Prelude.{ℕ, zero, suc, ◌==◌, Bool, true, false, List, [], ◌∷◌, map, drop, Option, Some, None, if◌then◌else◌}
use Rattle.thumb_instr.specs.declared.instr.Instr.{Instr}
use Rattle.edited_listing.specs.declared.standing.Standing.{Standing}
use Rattle.edited_listing.specs.declared.standing.Standing.TheVariants as standing
use Rattle.edited_listing.specs.Items.{Item, items_from}

-- whether nothing stands there
abbrev pub is_none : Standing → Bool
is_none standing.Given = false
is_none standing.Gone = true
is_none (standing.New i home) = false

-- which places are gone
abbrev pub marks_of : List Standing → List Bool
marks_of ss = map is_none ss

-- where what stands at place p is emitted
abbrev pub home_at : ℕ → Standing → ℕ
home_at p standing.Given = p
home_at p standing.Gone = p
home_at p (standing.New i home) = home

-- the first n kept places give way: the first of them take the new instructions, and the others are gone
abbrev pub giving : ℕ → List Instr → ℕ → List Standing → List Standing
giving n is home [] = []
giving zero is home (s ∷ ss) = s ∷ ss
giving (suc n) is home (standing.Gone ∷ ss) = standing.Gone ∷ giving (suc n) is home ss
giving (suc n) [] home (s ∷ ss) = standing.Gone ∷ giving n [] home ss
giving (suc n) (i ∷ is) home (s ∷ ss) = standing.New i home ∷ giving n is home ss

-- the same of the first n kept places from place p on
abbrev pub giving_from : ℕ → ℕ → List Instr → ℕ → List Standing → List Standing
giving_from p n is home [] = []
giving_from zero n is home (s ∷ ss) = giving n is home (s ∷ ss)
giving_from (suc p) n is home (s ∷ ss) = s ∷ giving_from p n is home ss

-- what stands at the next place that gives way
abbrev pub next_standing : List Instr → ℕ → Standing
next_standing [] home = standing.Gone
next_standing (i ∷ is) home = standing.New i home

-- the items from place p on
abbrev pub rest_items : ℕ → List Standing → List Item
rest_items p ss = items_from p (drop p ss)

-- whether it is as it was given
abbrev pub is_as_given : Standing → Bool
is_as_given standing.Given = true
is_as_given standing.Gone = false
is_as_given (standing.New i home) = false

-- the new instruction, where it has that home
abbrev pub new_with_home : ℕ → Standing → Option Instr
new_with_home p standing.Given = None
new_with_home p standing.Gone = None
new_with_home p (standing.New i home) = if home == p then Some i else None
