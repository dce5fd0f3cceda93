-- Control flow and liveness: the ways on from each place (its edges), the places that runs may reach, and the items that are live.
use Rattle.std.specs.Prelude.{◌≡◌, ℕ, ◌+◌, not, true, false, List, [], ◌∷◌, ◌++◌, filter, Option, Some, None, slice_get, if◌then◌else◌}
use Rattle.thumb_instr.specs.declared.instr.Instr.{Instr}
use Rattle.thumb_instr.specs.declared.instr.Instr.TheVariants as instr
use Rattle.thumb_instr.specs.Items.{has}
use Rattle.thumb_instr.specs.Shape.{registers_in, uses_of, writes_of, condition_uses}
use Rattle.thumb_model.specs.Effect.{one_of, sp, lr}
use Rattle.thumb_model.specs.Listing.{Place, Op, Word, Code, IsPoint}
use Rattle.thumb_model.specs.States.{registers_left, handed, answered}
use Rattle.thumb_model.specs.Steps.{aim_of}

-- where a way leads: to the next place, to a place, to any code point, or out
pub data Leads : Type 0 where
  Onward : Leads
  ToPlace : (at : ℕ) → Leads
  AnyPoint : Leads
  Out : Leads

-- a way on from an instruction: what it reads, what it writes, and where it leads
pub record Way : Type 0 where
  pub reads : List ℕ
  pub writes : List ℕ
  pub leads : Leads

abbrev pub way : List ℕ → List ℕ → Leads → Way
way reads writes leads = record { reads = reads; writes = writes; leads = leads }

-- the way of a direct branch that reads these items: to a place, or out of the listing
abbrev pub jump_way : List ℕ → Option ℕ → Way
jump_way reads (Some p) = way reads [] (ToPlace p)
jump_way reads None = way (reads ++ registers_left) [] Out

-- the way of a call: to a place, or out and back
abbrev pub call_way : Option ℕ → Way
call_way (Some p) = way [] (lr ∷ []) (ToPlace p)
call_way None = way handed answered Onward

-- the registers of r0 to r11, sp and lr that aren't in the list
abbrev pub left_but : List ℕ → List ℕ
left_but list = filter (λ x. not (one_of x list)) registers_left

-- the ways of an instruction, given the place of the code label that it mentions
abbrev pub ways_of : Option ℕ → Instr → List Way
ways_of aim (instr.Bx m) = way (m.number ∷ []) [] AnyPoint ∷ way (m.number ∷ registers_left) [] Out ∷ []
ways_of aim (instr.Blx m) = way (m.number ∷ []) (lr ∷ []) AnyPoint ∷ way (m.number ∷ handed) answered Onward ∷ []
ways_of aim (instr.Pop l) =
    if has l.number 8 then way (sp ∷ []) (sp ∷ registers_in l.number) AnyPoint ∷ way (sp ∷ left_but (registers_in l.number)) (sp ∷ registers_in l.number) Out ∷ []
    else way (sp ∷ []) (sp ∷ registers_in l.number) Onward ∷ []
ways_of aim (instr.BranchIf c d) = jump_way (condition_uses c) aim ∷ way (condition_uses c) [] Onward ∷ []
ways_of aim (instr.Branch d) = jump_way [] aim ∷ []
ways_of aim (instr.Call d) = call_way aim ∷ []
ways_of aim i = way (uses_of i) (writes_of i) Onward ∷ []

-- the ways of a place: a data word and the end have none
abbrev pub ways_on : Code → Option Place → List Way
ways_on code None = []
ways_on code (Some (Word v)) = []
ways_on code (Some (Op i mention)) = ways_of (aim_of code mention) i

abbrev pub ways : Code → ℕ → List Way
ways code place = ways_on code (slice_get code.places place)

-- q is a successor of p by a way that leads so
abbrev pub Follows : Code → ℕ → Leads → ℕ → Type 0
Follows code p Onward q = q ≡ p + 1
Follows code p (ToPlace r) q = q ≡ r
Follows code p AnyPoint q = IsPoint code q
Follows code p Out q = ⊥

-- a finite path of ways from p reads the item x before any of them writes it
pub data Reads (code : Code) (x : ℕ) : ℕ → Type 0 where
  now : (p k : ℕ) (w : Way) → slice_get (ways code p) k ≡ Some w → one_of x w.reads ≡ true → Reads code x p
  later : (p k : ℕ) (w : Way) (q : ℕ) → slice_get (ways code p) k ≡ Some w → one_of x w.writes ≡ false → Follows code p w.leads q → Reads code x q → Reads code x p

-- x is live after p
abbrev pub LiveAfter : Code → ℕ → ℕ → Type 0
LiveAfter code p x = (k : ℕ) × (w : Way) × (q : ℕ) × (slice_get (ways code p) k ≡ Some w) × Follows code p w.leads q × Reads code x q

-- the reachable places: the least set that contains each code point and, with each place, all places to which its ways lead
pub data Reached (code : Code) : ℕ → Type 0 where
  point : (p : ℕ) → IsPoint code p → Reached code p
  along : (p k : ℕ) (w : Way) (q : ℕ) → Reached code p → slice_get (ways code p) k ≡ Some w → Follows code p w.leads q → Reached code q
