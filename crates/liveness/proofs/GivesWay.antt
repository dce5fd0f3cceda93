-- Straight code gives way to other straight code, of which it may be that only the last part differs.
use Rattle.std.proofs.Common.{◌≡◌, ℕ, ◌+◌, ◌-◌, ◌<◌, ◌≤◌, List, ◌++◌, length, length-append, take, drop, map, Some, ◌⊎◌, inl, inr, arith}
use Rattle.std.specs.Prelude.{slice_get}
use Rattle.thumb_instr.specs.declared.instr.Instr.{Instr}
use Rattle.thumb_model.specs.Listing.{plain, Code}
use Rattle.thumb_model.specs.Flow.{Way, Leads, ways, Follows}
use Rattle.thumb_model.specs.Replaced.{moved, replaced}
use Rattle.thumb_model.proofs.Lists.{length_map, take_all, length_drop}
use Rattle.thumb_model.proofs.Moved.{IsOutside}
use Rattle.liveness.specs.Kept.{KeepsAt}
use Rattle.shrinking_sets.proofs.Exchange.{Runs}
use Rattle.padded_code.proofs.Padded.{lead_to, way_to}
use Rattle.liveness.proofs.Moves.{window_runs, new_runs, is_within, ways_moved, lands, outside_label, outside_point, follows_moved, follows_back}

-- ---- a region ----

-- straight code from p on gives way to other straight code; each other place comes `to` another
pub record RegionGivesWay (code new_code : Code) (to : ℕ → ℕ) (p : ℕ) (window new : List Instr) : Type 0 where
  pub shorter : length new < length window
  pub within : p + length window ≤ length code.places
  pub as_many : length new_code.places + length window ≡ length code.places + length new
  pub before : (q : ℕ) → q ≤ p → to q ≡ q
  pub behind : (q : ℕ) → p + length window ≤ q → to q + length window ≡ q + length new
  pub window_runs : Runs code p window
  pub new_runs : Runs new_code p new
  pub ways_moved : (q : ℕ) → (q < p) ⊎ (p + length window ≤ q) → ways new_code (to q) ≡ map (way_to to) (ways code q)
  pub follows_outside : (q : ℕ) → (q < p) ⊎ (p + length window ≤ q) → (k : ℕ) (w : Way) (s : ℕ) → slice_get (ways code q) k ≡ Some w → Follows code q w.leads s → IsOutside p (length window) s
  pub follows_moved : (q : ℕ) → (q < p) ⊎ (p + length window ≤ q) → (l : Leads) (s : ℕ) → Follows code q l s → Follows new_code (to q) (lead_to to l) (to s)
  pub follows_back : (q : ℕ) → (q < p) ⊎ (p + length window ≤ q) → (l : Leads) (r : ℕ) → Follows new_code (to q) (lead_to to l) r → (s : ℕ) × Follows code q l s × (r ≡ to s)

-- where a window gives way
pub gives_way : (code : Code) (p : ℕ) (window new : List Instr) → KeepsAt code p window new → RegionGivesWay code (replaced code p (length window) new) (moved p (length window - length new)) p window new
gives_way code p window new at = record {
  shorter = at.shorter;
  within = is_within code p window new at;
  as_many = length_new;
  before = λ q h. omega arith;
  behind = λ q h. let s = at.shorter in omega arith;
  window_runs = window_runs code p window new at;
  new_runs = new_runs code p window new at;
  ways_moved = ways_moved code p window new at;
  follows_outside = λ q a. lands code p window new at (IsOutside p (length window)) q (next_outside q a) (outside_label code p window new at) (outside_point code p window new at);
  follows_moved = follows_moved code p window new at;
  follows_back = follows_back code p window new at;
}
  where
    length_new : length (replaced code p (length window) new).places + length window ≡ length code.places + length new
    length_new =
        let l = is_within code p window new at in
        let f : length (take p code.places) ≡ p = take_all p code.places (omega arith) in
        let a = length-append (take p code.places) (map plain new ++ drop (p + length window) code.places) in
        let b = length-append (map plain new) (drop (p + length window) code.places) in
        let c = length_drop (p + length window) code.places in
        let d = length_map plain new in
        omega arith

    next_outside : (q : ℕ) → (q < p) ⊎ (p + length window ≤ q) → IsOutside p (length window) (q + 1)
    next_outside q (inl h) = inl (omega arith)
    next_outside q (inr h) = inr (omega arith)
