-- What is read for sure: along ways that lead to greater places.
use Rattle.std.specs.Prelude.{◌≡◌, ℕ, ◌&&◌, ◌||◌, not, nat_lt, Bool, true, false, List, [], ◌∷◌, Option, if◌then◌else◌}
use Rattle.thumb_instr.specs.declared.items.Items.{Items}
use Rattle.thumb_instr.specs.Items.{has}
use Rattle.kept_places.specs.Marks.{marked}
use Rattle.code_flow.specs.declared.way.Next.{Next}
use Rattle.code_flow.specs.declared.way.Next.TheVariants.{Place, Points, Out}
use Rattle.code_flow.specs.declared.way.Way.{Way}
use Rattle.code_flow.specs.declared.way.Ways.{Ways}
use Rattle.liveness.specs.Live.{set_at}
use Rattle.liveness.specs.Graph.{ways_at}

-- the set, as a word, of the place where a way from p leads, if that is greater than p
abbrev pub ahead : ℕ → Next → List Items → ℕ
ahead p (Place q) sets = if nat_lt p q then set_at sets q else 0
ahead p Points sets = 0
ahead p Out sets = 0

-- whether item x is read from p for sure, given the sets of the places ahead
abbrev pub gained_ahead : ℕ → List Way → List Items → ℕ → Bool
gained_ahead p [] sets x = false
gained_ahead p (w ∷ ws) sets x = (has w.uses.bits x || (has (ahead p w.next sets) x && not (has w.writes.bits x))) || gained_ahead p ws sets x

-- each set, but those of places that are due, has only what is read for sure
abbrev pub IsAheadBut : List (Option Ways) → List Items → List Bool → Type 0
IsAheadBut all sets due = (q x : ℕ) → marked due q ≡ false → has (set_at sets q) x ≡ true → gained_ahead q (ways_at all q) sets x ≡ true

abbrev pub IsAhead : List (Option Ways) → List Items → Type 0
IsAhead all sets = (q x : ℕ) → has (set_at sets q) x ≡ true → gained_ahead q (ways_at all q) sets x ≡ true
