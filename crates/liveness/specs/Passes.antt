-- What a visit of a place finds, by the sets so far.
use Rattle.std.specs.Prelude.{◌≡◌, ◌≢◌, ℕ, zero, suc, ◌+◌, ◌≤◌, ◌||◌, ◌&&◌, not, Bool, true, false, List, [], ◌∷◌, Option, Some, slice_get}
use Rattle.std.specs.Int.{bit_at, from_bool}
use Rattle.thumb_instr.specs.declared.items.Items.{Items}
use Rattle.thumb_instr.specs.Items.{has}
use Rattle.thumb_model.specs.Listing.{Code, IsPoint}
use Rattle.thumb_model.specs.Flow.{Reads}
use Rattle.code_flow.specs.declared.way.Next.{Next}
use Rattle.code_flow.specs.declared.way.Next.TheVariants.{Place, Points, Out}
use Rattle.code_flow.specs.declared.way.Way.{Way}
use Rattle.code_flow.specs.declared.way.Ways.{Ways}
use Rattle.code_flow.specs.Flow.{way_list}
use Rattle.liveness.specs.Live.{set_at}

-- the set, as a word, where a way leads; `points` is that of all code points
abbrev pub there : Next → List Items → ℕ → ℕ
there (Place q) sets points = set_at sets q
there Points sets points = points
there Out sets points = 0

-- whether item x is read from a place with these ways on, and whether it is read after that place
abbrev pub gained : List Way → List Items → ℕ → ℕ → Bool
gained [] sets points x = false
gained (w ∷ ws) sets points x = (has w.uses.bits x || (has (there w.next sets points) x && not (has w.writes.bits x))) || gained ws sets points x

abbrev pub led : List Way → List Items → ℕ → ℕ → Bool
led [] sets points x = false
led (w ∷ ws) sets points x = has (there w.next sets points) x || led ws sets points x

-- how many items sets have
unfoldable pub weight_below : ℕ → ℕ → ℕ
weight_below zero w = 0
weight_below (suc k) w = weight_below k w + bit_at w k

unfoldable pub total : List Items → ℕ
total [] = 0
total (s ∷ ss) = weight_below 19 s.bits + total ss

-- a visit of place p, which has these ways, turned the sets b before and a after places, and the word w of all code points, into b', a' and w'
pub record IsVisit (ws : List Way) (is_point : Bool) (p : ℕ) (b a : List Items) (w : ℕ) (b' a' : List Items) (w' : ℕ) (changed : Bool) : Type 0 where
  pub after_here : (x : ℕ) → has (set_at a' p) x ≡ led ws b w x
  pub after_else : (q : ℕ) → q ≢ p → slice_get a' q ≡ slice_get a q
  pub here : (x : ℕ) → has (set_at b' p) x ≡ (has (set_at b p) x || gained ws b w x)
  pub elsewhere : (q : ℕ) → q ≢ p → slice_get b' q ≡ slice_get b q
  pub points : (x : ℕ) → has w' x ≡ (has w x || (changed && (is_point && has (set_at b' p) x)))
  pub idle : changed ≡ false → (b' ≡ b) × (w' ≡ w)
  pub more : total b + from_bool changed ≤ total b'

-- what the sets have is read, and the code points' word has what their sets have
pub record AreSound (code : Code) (b : List Items) (w : ℕ) : Type 0 where
  pub read : (p x : ℕ) → has (set_at b p) x ≡ true → Reads code x p
  pub point_read : (x : ℕ) → has w x ≡ true → (q : ℕ) × IsPoint code q × Reads code x q
  pub point_has : (q x : ℕ) → IsPoint code q → has (set_at b q) x ≡ true → has w x ≡ true

-- a visit of the place would change nothing
pub record IsClosed (ws : List Way) (p : ℕ) (b a : List Items) (w : ℕ) : Type 0 where
  pub before : (x : ℕ) → gained ws b w x ≡ true → has (set_at b p) x ≡ true
  pub after : (x : ℕ) → has (set_at a p) x ≡ led ws b w x

-- a visit of any place would change nothing
abbrev pub AreClosed : List (Option Ways) → List Items → List Items → ℕ → Type 0
AreClosed all b a w = (q : ℕ) (ws : Option Ways) → slice_get all q ≡ Some ws → IsClosed (way_list ws) q b a w
