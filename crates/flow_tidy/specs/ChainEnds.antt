-- Where chains of branches end, by places, and what the cache of ends holds.
use Rattle.std.specs.Prelude.{◌≡◌, ℕ, zero, suc, ◌<◌, ◌≤◌, nat_eq, nat_lt, Bool, false, List, length, Option, Some, None, option_and_then, slice_get, if◌then◌else◌}
use Rattle.thumb_model.specs.Listing.{Name, Code, code_of, place_of}
use Rattle.kept_places.specs.Marks.{is_gone, rank}
use Rattle.listing_draft.specs.Drafted.{lines_now, name_in, stands, Drafted}
use Rattle.flow_tidy.specs.declared.chain_ends.Stamped.{Stamped}
use Rattle.flow_tidy.specs.declared.chain_ends.Known.{Known}
use Rattle.flow_tidy.specs.declared.chain_ends.Known.TheVariants.{Nothing, Walked, Last}
use Rattle.flow_tidy.specs.Made.{label_of_always}

-- ---- chains by places ----

-- where the branch without a condition at a place goes
abbrev pub hop_at : Code → ℕ → Option ℕ
hop_at code p = option_and_then (place_of code) (label_of_always (slice_get code.places p))

-- a hop leads on from a place, and none from where that hop leads
pub record IsLastHop (code : Code) (p : ℕ) : Type 0 where
  pub end : ℕ
  pub hop : hop_at code p ≡ Some end
  pub stops : hop_at code end ≡ None

-- n hops lead from a place to the last one from which a hop leads on
abbrev pub LastBy : Code → ℕ → ℕ → ℕ → Type 0
LastBy code zero p last = (p ≡ last) × IsLastHop code last
LastBy code (suc n) p last = (via : ℕ) × (hop_at code p ≡ Some via) × LastBy code n via last

abbrev pub LastOf : Code → ℕ → ℕ → Type 0
LastOf code p last = (hops : ℕ) × LastBy code hops p last

-- the chain that goes on from a place has an end: the label that its last branch mentions
pub record HasLast (code : Code) (p : ℕ) (label : Option Name) : Type 0 where
  pub last : ℕ
  pub of : LastOf code p last
  pub named : name_in (slice_get code.places last) ≡ label

-- the chain that goes on from a kept place has as its end the label that is mentioned at this kept place, if it has an end
abbrev pub IsLast : Drafted → ℕ → Option ℕ → Type 0
IsLast d p None = (r : ℕ) → LastOf (code_of (lines_now d)) (rank d.gone p) r → ⊥
IsLast d p (Some last) = (last < length d.gone) × (is_gone d.gone last ≡ false) × HasLast (code_of (lines_now d)) (rank d.gone p) (name_in (stands d last))

-- ---- what is known ----

-- of each place something or nothing is known, and what is known of the kept ones is true of the draft
pub record AreEnds (d : Drafted) (known : List Known) : Type 0 where
  pub many : length known ≡ length d.gone
  pub each : (p : ℕ) (last : Option ℕ) → is_gone d.gone p ≡ false → slice_get known p ≡ Some (Last last) → IsLast d p last

-- the chains from all kept places that a walk came by have the same end, or none
abbrev pub AreWalked : Drafted → List Known → Option ℕ → Type 0
AreWalked d known last = (p : ℕ) → is_gone d.gone p ≡ false → slice_get known p ≡ Some Walked → IsLast d p last

-- that a walk passed a place counts for this walk only
abbrev pub known_by : Bool → Known → Known
known_by latest Nothing = Nothing
known_by latest Walked = if latest then Walked else Nothing
known_by latest (Last last) = Last last

-- what was found counts if its stamp is `since` or later
abbrev pub known_in : ℕ → ℕ → Stamped → Known
known_in since latest found = if nat_lt found.stamp since then Nothing else known_by (nat_eq found.stamp latest) found.known

-- what was found has no stamp later than the latest
pub record IsStamped (since latest : ℕ) (found : List Stamped) : Type 0 where
  pub since_then : since ≤ latest
  pub stamps : (p : ℕ) (f : Stamped) → slice_get found p ≡ Some f → f.stamp ≤ latest
