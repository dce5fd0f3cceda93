-- Where the return points of calls lie: right after the call, whose number is how many calls come before it.
use Rattle.std.specs.Prelude.{◌≡◌, ◌↔◌, ℕ, ◌+◌, ◌<◌, true, List, [], ◌∷◌, ◌++◌, length, Contains}
use Rattle.thumb_model.specs.Listing.{Name, ListingLine, Place, places_of, is_call, call_count}
use Rattle.thumb_model.specs.Layout.{end_of}
use Rattle.thumb_model.specs.Naming.{IsCutAtCall, laid, Naming, returns_from}

-- at each call's number the lines can be split
abbrev pub EachCallIsACut : Type 0
EachCallIsACut = (lines : List ListingLine) (k : ℕ) → k < call_count (places_of lines) → (before : List ListingLine) × (call : ListingLine) × (after : List ListingLine) × IsCutAtCall lines k before call after

-- where lines are laid out, the word of a call's return point is 1 more than the address after the call
abbrev pub LaidReturnsLieBehind : Type 0
LaidReturnsLieBehind = (base : ℕ) (set : Name → ℕ) (lines : List ListingLine) (k : ℕ) (before : List ListingLine) (call : ListingLine) (after : List ListingLine)
    → IsCutAtCall lines k before call after → (laid base set lines).return_word k ≡ end_of base (before ++ call ∷ []) + 1

-- p is the place right after a call, and w the word of that call's number
pub record IsReturnPoint (names : Naming) (places : List Place) (w p : ℕ) : Type 0 where
  pub before : List Place
  pub call : Place
  pub after : List Place
  pub cut : places ≡ before ++ call ∷ after
  pub calls : is_call call ≡ true
  pub word : w ≡ names.return_word (call_count before)
  pub place : p ≡ length before + 1

-- `returns_from` lists exactly these
abbrev pub ReturnPointsStandBehind : Type 0
ReturnPointsStandBehind = (names : Naming) (places : List Place) (w p : ℕ) → Contains (returns_from names 0 0 places) (w, p) ↔ IsReturnPoint names places w p

pub record ReturnsAreCuts : Type 0 where
  pub each : EachCallIsACut
  pub laid : LaidReturnsLieBehind
  pub points : ReturnPointsStandBehind
