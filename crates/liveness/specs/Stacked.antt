-- The invariant of a stack of places.
use Rattle.std.specs.Prelude.{◌≡◌, ℕ, ◌≤◌, false, List, [], ◌∷◌, length, vec_capacity}
use Rattle.kept_places.specs.Marks.{marked}
use Rattle.thumb_instr.specs.Items.{one_of}
use Rattle.liveness.specs.Marked.{count_marked}
use Rattle.liveness.specs.declared.stack.PlaceStack.TheInside.{Inside}

-- no place is there twice
abbrev pub AreDistinct : List ℕ → Type 0
AreDistinct [] = Unit {0}
AreDistinct (p ∷ ps) = (one_of p ps ≡ false) × AreDistinct ps

pub record AreStacked (s : Inside) : Type 0 where
  pub room : length s.marks.items ≤ vec_capacity s.places
  pub marks : (p : ℕ) → marked s.marks.items p ≡ one_of p s.places.items
  pub distinct : AreDistinct s.places.items
  -- no more than there are marks
  pub few : length s.places.items ≤ count_marked s.marks.items
