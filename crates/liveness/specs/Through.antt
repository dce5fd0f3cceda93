-- What is read through straight code, and along flows.
use Rattle.std.specs.Prelude.{◌≡◌, ℕ, ◌+◌, ◌&&◌, ◌||◌, not, Bool, false, true, List, [], ◌∷◌, drop, Option, Some, None, slice_get}
use Rattle.thumb_instr.specs.declared.instr.Instr.{Instr}
use Rattle.thumb_instr.specs.declared.items.Items.{Items}
use Rattle.thumb_instr.specs.Items.{one_of, has}
use Rattle.thumb_instr.specs.Shape.{uses_of, writes_of}
use Rattle.code_flow.specs.declared.way.Way.{Way}
use Rattle.liveness.specs.declared.flowing.Flow.{Flow}
use Rattle.liveness.specs.declared.kept.NewSets.{NewSets}

-- whether some way reads the item
abbrev pub uses_among : List Way → ℕ → Bool
uses_among [] x = false
uses_among (w ∷ ws) x = has w.uses.bits x || uses_among ws x

-- whether item x is live before straight code, where the items of `after` are live after it
abbrev pub live_through : List Instr → (ℕ → Bool) → ℕ → Bool
live_through [] after x = after x
live_through (i ∷ is) after x = one_of x (uses_of i) || (live_through is after x && not (one_of x (writes_of i)))

-- whether item x is read before it is written along the flows of consecutive places
abbrev pub passed : Option Items → Bool → ℕ → Bool
passed None rest x = false
passed (Some writes) rest x = rest && not (has writes.bits x)

abbrev pub read_along : List Flow → ℕ → Bool
read_along [] x = false
read_along (f ∷ fs) x = has f.reads.bits x || passed f.onward (read_along fs x) x

-- no item is live at all
abbrev pub nothing : ℕ → Bool
nothing x = false

-- what the old straight code reads before it writes, the new does too, or the flows ahead of both do
abbrev pub IsReadStill : List Instr → List Instr → List Flow → Type 0
IsReadStill old new ahead = (x : ℕ) → live_through old nothing x ≡ true → live_through new nothing x ≡ false → read_along ahead x ≡ true

-- the sets of straight code, where the items of `after` are live after it
abbrev pub AreThrough : List Instr → Items → List NewSets → Type 0
AreThrough is after sets =
    (k : ℕ) (n : NewSets) → slice_get sets k ≡ Some n → (x : ℕ) → (has n.before.bits x ≡ live_through (drop k is) (has after.bits) x) × (has n.after.bits x ≡ live_through (drop (k + 1) is) (has after.bits) x)
