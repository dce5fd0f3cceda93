-- When the code's ways of a place are those of the model.
use Rattle.std.specs.Prelude.{◌≡◌, ℕ, ◌+◌, List, [], ◌∷◌, Option, Some, None}
use Rattle.thumb_instr.specs.Items.{one_of, has}
use Rattle.thumb_model.specs.Flow.{Way as ModelWay, Leads, Onward, ToPlace, AnyPoint, Out}
use Rattle.code_flow.specs.declared.way.Next.{Next}
use Rattle.code_flow.specs.declared.way.Next.TheVariants as next
use Rattle.code_flow.specs.declared.way.Way.{Way}
use Rattle.code_flow.specs.declared.way.Ways.{Ways}

-- where a way from p leads
abbrev pub next_of : ℕ → Leads → Next
next_of p Onward = next.Place (p + 1)
next_of p (ToPlace q) = next.Place q
next_of p AnyPoint = next.Points
next_of p Out = next.Out

-- the ways in a list
abbrev pub second_list : Option Way → List Way
second_list None = []
second_list (Some w) = w ∷ []

abbrev pub way_list : Option Ways → List Way
way_list None = []
way_list (Some ws) = ws.first ∷ second_list ws.second

-- the code's way is the model's: it reads and writes the same items, and leads to the same place
pub record IsWay (p : ℕ) (m : ModelWay) (w : Way) : Type 0 where
  pub uses : (x : ℕ) → has w.uses.bits x ≡ one_of x m.reads
  pub writes : (x : ℕ) → has w.writes.bits x ≡ one_of x m.writes
  pub leads : w.next ≡ next_of p m.leads

-- the two lists have the same length, and their ways are the same one by one
abbrev pub AreWays : ℕ → List ModelWay → List Way → Type 0
AreWays p [] [] = Unit {0}
AreWays p (m ∷ ms) (w ∷ ws) = IsWay p m w × AreWays p ms ws
AreWays p [] (w ∷ ws) = ⊥
AreWays p (m ∷ ms) [] = ⊥
