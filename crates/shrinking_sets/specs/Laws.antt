-- The laws of the marks of places: forward marks, marks that are cleared, and marks that grow back.
use Rattle.std.specs.Prelude.{◌≡◌, ℕ, ◌+◌, ◌<◌, ◌≤◌, ◌&&◌, ◌||◌, not, Bool, true, false, List, ◌++◌, length, take, drop, map, ◌⊎◌, ◌↔◌}
use Rattle.std.specs.List.{list_all}
use Rattle.thumb_instr.specs.declared.instr.Instr.{Instr}
use Rattle.thumb_model.specs.Listing.{plain, Code}
use Rattle.thumb_model.specs.Flow.{Reads}
use Rattle.thumb_model.specs.Replaced.{replaced}
use Rattle.shrinking_sets.specs.Straight.{is_straight, nops, reads_first, writes_in, IsApart, IsExchange, IsUnlabelled}
use Rattle.shrinking_sets.specs.Marks.{Passes, IsForwardAt, IsForward, is_lost, IsCleared, IsClosedAt, IsClearedByPoints}
use Rattle.shrinking_sets.specs.Clearing.{IsClearing, IsBegun, IsStep, IsStepByPoints, IsVisited, IsForwardStep}

-- from a place that is marked forward the item is read
abbrev pub ForwardIsRead : Type 0
ForwardIsRead = (code : Code) (x : ℕ) (f : ℕ → Bool) → IsForward code x f → (p : ℕ) → f p ≡ true → Reads code x p

-- what wasn't cleared is still read
abbrev pub ClearedIsRead : Type 0
ClearedIsRead =
    (code new : Code) (w : ℕ) (old is : List Instr) (x : ℕ) (f c : ℕ → Bool) → IsExchange code new w old is → IsForward new x f → IsCleared code w old is x f c
    → (p : ℕ) → c p ≡ true → Reads new x p

-- the same where all code points share one mark
abbrev pub ClearedByPointsIsRead : Type 0
ClearedByPointsIsRead =
    (code new : Code) (w : ℕ) (old is : List Instr) (x : ℕ) (f c : ℕ → Bool) (v : Bool) → IsExchange code new w old is → IsForward new x f → IsClearedByPoints code w old is x f c v
    → (p : ℕ) → c p ≡ true → Reads new x p

-- where a place outside the window wasn't cleared, a visit of it would mark nothing
abbrev pub OthersStayClosed : Type 0
OthersStayClosed =
    (code new : Code) (w : ℕ) (old is : List Instr) (x : ℕ) (c : ℕ → Bool) → IsExchange code new w old is → ((p : ℕ) → c p ≡ true → Reads code x p)
    → (p : ℕ) → IsApart w (length old) p → (Reads code x p → c p ≡ true) → IsClosedAt new x c p

-- ---- the window ----

-- no way from outside an unlabelled window leads to a place inside it but its first
abbrev pub NothingEnters : Type 0
NothingEnters =
    (code new : Code) (w : ℕ) (old is : List Instr) → IsExchange code new w old is → IsUnlabelled code w (length old)
    → (x p q : ℕ) → IsApart w (length old) p → Passes code x p q → (q ≤ w) ⊎ (w + length old ≤ q)

-- the item is read at the window exactly where the window reads it before it writes it, or doesn't write it and it is read behind the window
abbrev pub WindowIsThrough : Type 0
WindowIsThrough =
    (code new : Code) (w : ℕ) (old is : List Instr) (x : ℕ) → IsExchange code new w old is
    → Reads code x w ↔ ((reads_first old x ≡ true) ⊎ ((writes_in old x ≡ false) × Reads code x (w + length old)))

-- ---- the walk ----

-- the invariant of the walk holds at its beginning and is preserved by visits; where no place is pending, what wasn't cleared is read
abbrev pub ClearingBegins : Type 0
ClearingBegins =
    (code new : Code) (w : ℕ) (old is : List Instr) (x : ℕ) (f c pending : ℕ → Bool) → IsExchange code new w old is → IsUnlabelled code w (length old) → 0 < length old → IsBegun code w old is x f c pending
    → IsClearing code w old is x f c pending

abbrev pub ClearingGoesOn : Type 0
ClearingGoesOn =
    (code : Code) (w : ℕ) (old is : List Instr) (x : ℕ) (f c pending : ℕ → Bool) (q : ℕ) (c' pending' : ℕ → Bool) → IsClearing code w old is x f c pending → IsStep code w old x f c pending q c' pending'
    → IsClearing code w old is x f c' pending'

abbrev pub ClearingEnds : Type 0
ClearingEnds =
    (code new : Code) (w : ℕ) (old is : List Instr) (x : ℕ) (f c pending : ℕ → Bool) → IsExchange code new w old is → IsForward new x f → IsClearing code w old is x f c pending → ((q : ℕ) → pending q ≡ false)
    → (p : ℕ) → c p ≡ true → Reads new x p

-- a visit where all code points share one mark is a visit of that walk
abbrev pub StepsByPoints : Type 0
StepsByPoints =
    (code : Code) (w : ℕ) (old : List Instr) (x : ℕ) (f c pending : ℕ → Bool) (q : ℕ) (c' pending' : ℕ → Bool) (g : Bool) → IsStepByPoints code w old x f c pending q c' pending' g
    → IsStep code w old x f c pending q c' pending'

-- ---- growing back ----

-- a visit preserves that each place that isn't on the stack is closed
abbrev pub VisitsKeepClosed : Type 0
VisitsKeepClosed =
    (code : Code) (x : ℕ) (c stack : ℕ → Bool) (p : ℕ) (c' stack' : ℕ → Bool) → ((q : ℕ) → stack q ≡ false → IsClosedAt code x c q) → IsVisited code x c stack p c' stack'
    → (q : ℕ) → stack' q ≡ false → IsClosedAt code x c' q

-- where all places are closed, each from which the item is read is marked
abbrev pub ClosedHaveAll : Type 0
ClosedHaveAll = (code : Code) (x : ℕ) (c : ℕ → Bool) → ((q : ℕ) → IsClosedAt code x c q) → (p : ℕ) → Reads code x p → c p ≡ true

-- ---- forward marks that are worked out anew ----

-- where a window gave way, the forward marks of places outside it still hold; and a step preserves that those of places that aren't due hold
abbrev pub ForwardBegins : Type 0
ForwardBegins =
    (code new : Code) (w : ℕ) (old is : List Instr) (x : ℕ) (f : ℕ → Bool) → IsExchange code new w old is → IsForward code x f
    → (p : ℕ) → IsApart w (length old) p → IsForwardAt new x f p

abbrev pub ForwardGoesOn : Type 0
ForwardGoesOn =
    (code : Code) (x : ℕ) (f due : ℕ → Bool) (p : ℕ) (f' due' : ℕ → Bool) → ((q : ℕ) → due q ≡ false → IsForwardAt code x f q) → IsForwardStep code x f due p f' due'
    → (q : ℕ) → due' q ≡ false → IsForwardAt code x f' q

-- ---- what is lost ----

-- whether an item that was read at the window is lost there doesn't depend on what the old instructions write
abbrev pub LostIsSimpler : Type 0
LostIsSimpler =
    (code new : Code) (w : ℕ) (old is : List Instr) (x : ℕ) (sure : Bool) → IsExchange code new w old is → Reads code x w
    → is_lost old is sure x ≡ (not (reads_first is x) && ((reads_first old x || writes_in is x) && not sure))

-- ---- the model's replacement ----

-- the model's replacement by as many instructions is an exchange
abbrev pub ReplacingIsExchange : Type 0
ReplacingIsExchange =
    (code : Code) (w : ℕ) (old is : List Instr) → length is ≡ length old → 0 < length old → take (length old) (drop w code.places) ≡ map plain old → list_all is_straight old ≡ true → list_all is_straight is ≡ true
    → IsExchange code (replaced code w (length old) is) w old is

-- ---- places that are gone ----

-- what stands at places that are gone reads and writes nothing, and is straight
abbrev pub PaddingIsNothing : Type 0
PaddingIsNothing =
    (is : List Instr) (n x : ℕ) → (reads_first (is ++ nops n) x ≡ reads_first is x) × (writes_in (is ++ nops n) x ≡ writes_in is x) × (list_all is_straight (is ++ nops n) ≡ list_all is_straight is)
