-- Which items are passed on by ways: those that they don't write.
use Rattle.std.specs.Prelude.{◌≡◌, ℕ, zero, suc, ◌+◌, ◌&&◌, ◌||◌, not, Bool, true, false, List, [], ◌∷◌, Option, ◌⊎◌}
use Rattle.thumb_instr.specs.declared.items.Items.{Items}
use Rattle.thumb_instr.specs.Items.{has}
use Rattle.code_flow.specs.declared.way.Way.{Way}
use Rattle.code_flow.specs.declared.way.Ways.{Ways}
use Rattle.liveness.specs.Live.{set_at}
use Rattle.liveness.specs.Graph.{leads_to, is_return, ways_at}
use Rattle.liveness.specs.Through.{uses_among}

-- whether some way writes the item
abbrev pub writes_among : List Way → ℕ → Bool
writes_among [] x = false
writes_among (w ∷ ws) x = has w.writes.bits x || writes_among ws x

-- whether a way to the place doesn't write the item
abbrev pub passes_to : ℕ → List Way → ℕ → Bool
passes_to q [] x = false
passes_to q (w ∷ ws) x = (leads_to q w.next && not (has w.writes.bits x)) || passes_to q ws x

-- whether a way to any code point doesn't write it
abbrev pub passes_points : List Way → ℕ → Bool
passes_points [] x = false
passes_points (w ∷ ws) x = (is_return w.next && not (has w.writes.bits x)) || passes_points ws x

-- the place reads the item by some way, or has it for sure
abbrev pub Keeps : List (Option Ways) → List Items → ℕ → ℕ → Type 0
Keeps all forward p x = (uses_among (ways_at all p) x ≡ true) ⊎ (has (set_at forward p) x ≡ true)

-- whether so many places from p on, each of which goes on to the next, read the item before they write it, and whether they write it
abbrev pub reads_from : List (Option Ways) → ℕ → ℕ → ℕ → Bool
reads_from all p zero x = false
reads_from all p (suc n) x = uses_among (ways_at all p) x || (reads_from all (p + 1) n x && not (writes_among (ways_at all p) x))

abbrev pub writes_from : List (Option Ways) → ℕ → ℕ → ℕ → Bool
writes_from all p zero x = false
writes_from all p (suc n) x = writes_among (ways_at all p) x || writes_from all (p + 1) n x
