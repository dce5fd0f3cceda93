-- The windows that begin at a place.
use Rattle.std.proofs.Common.{◌≡◌, ℕ, ◌+◌, ◌-◌, ◌<◌, ◌≤◌, true, false, List, [], length, take, drop, sym, ap, ◌∙◌, subst, arith, ◌↔◌}
use Rattle.thumb_instr.specs.declared.instr.Instr.{Instr}
use Rattle.thumb_instr.specs.Items.{has}
use Rattle.thumb_model.specs.Listing.{ListingLine, code_of}
use Rattle.thumb_model.specs.Flow.{LiveAfter}
use Rattle.liveness.specs.Live.{Sets as LiveSets}
use Rattle.window_runs.specs.declared.rows.WindowPlace.{WindowPlace}
use Rattle.thumb_model.specs.Replaced.{IsWindow}
use Rattle.window_runs.specs.Rows.{rows_from}
use Rattle.window_runs.specs.Runs.{run}
use Rattle.window_harvest.specs.Harvest.{Pair, Limits, spot_of, StandsThere, IsPairAt}
use Rattle.window_harvest.specs.Keys.{AreSeen}
use Rattle.window_harvest.specs.LimitsOf.{AreOf}
use Rattle.window_runs.proofs.Joined.{run_window, window_in_run}
use Rattle.thumb_model.proofs.Lists.{take_all as length-take}

-- the front of the run from a place is a window there
pub stands_there : (lines : List ListingLine) (rows : List WindowPlace) (sets : LiveSets) (place most last items : ℕ) (is : List Instr) → AreOf lines rows sets → is ≡ run true most (drop place rows) → last < length is
    → ((x : ℕ) → (has items x ≡ true) ↔ LiveAfter (code_of lines) (place + last) x) → StandsThere lines (spot_of place (last + 1)) (take (last + 1) is) items
stands_there lines rows sets place most last items is of e h live =
    let same : is ≡ run true most (drop place (rows_from false lines)) = e ∙ ap (λ (rs : List WindowPlace). run true most (drop place rs)) of.rows_are in
    let count : length (take (last + 1) is) ≡ last + 1 = length-take (last + 1) is (omega arith) in
    let some : 1 ≤ length (take (last + 1) (run true most (drop place (rows_from false lines)))) = omega (arith, count, ap (λ (l : List Instr). length (take (last + 1) l)) same) in
    record {
      as_many = count;
      is_window = subst (λ (l : List Instr). IsWindow lines place (take (last + 1) l)) (sym same) (run_window lines place most (last + 1) some);
      live = λ x. subst (λ p. (has items x ≡ true) ↔ LiveAfter (code_of lines) p x) (let f : place + last ≡ place + (last + 1) - 1 = omega arith in f) (live x);
    }

-- no window is longer than the run
pub none_beyond : (limits : Limits) (lines : List ListingLine) (rows : List WindowPlace) (sets : LiveSets) (place most m : ℕ) (is : List Instr) → AreOf lines rows sets → is ≡ run true most (drop place rows) → length is < m → m ≤ most
    → (pair : Pair) → IsPairAt limits lines (spot_of place m) pair → ⊥
none_beyond limits lines rows sets place most m is of e h k pair p =
    let same : is ≡ run true most (drop place (rows_from false lines)) = e ∙ ap (λ (rs : List WindowPlace). run true most (drop place rs)) of.rows_are in
    let within = window_in_run lines place most p.window (omega (arith, p.stands.as_many)) (omega (arith, p.stands.as_many)) p.stands.is_window in
    omega (arith, within, p.stands.as_many, ap (λ (l : List Instr). length l) same)

-- at first no pair was seen
pub none_seen : (pool : List ℕ) → AreSeen pool [] []
none_seen pool pair key is = (λ h. absurd (cc), λ c. absurd (omega (arith, c.1)))
