-- Statements of three laws, which `laws.rt` proves: of steps, of live items, and of code points.
use Rattle.std.specs.Prelude.{◌≡◌, ℕ, ◌<◌, ◌++◌, map}
use Rattle.thumb_model.specs.Listing.{Code, label_places, return_places}
use Rattle.thumb_model.specs.Naming.{Naming, Fits, points}
use Rattle.thumb_model.specs.States.{State, IsWorld}
use Rattle.thumb_model.specs.Steps.{step}
use Rattle.thumb_model.specs.Flow.{LiveAfter}

-- a step leaves each number in its range
abbrev pub StepsKeepWorlds : Type 0
StepsKeepWorlds = (names : Naming) (code : Code) → Fits names code → (s : State) → IsWorld s.world → IsWorld (step names code s).world

-- only the nineteen items are live
abbrev pub OnlyItemsAreLive : Type 0
OnlyItemsAreLive = (code : Code) (p x : ℕ) → LiveAfter code p x → x < 19

-- the places to which the words of code points lead are those of code labels and return points
abbrev pub PointsArePlaces : Type 0
PointsArePlaces = (names : Naming) (code : Code) → map (λ a. a.1) (points names code) ≡ label_places code.places code.labels ++ return_places 0 code.places
