-- What holds of ranks.
use Rattle.std.specs.Prelude.{◌≡◌, ◌↔◌, ℕ, ◌+◌, ◌<◌, ◌≤◌, Bool, false, List, take, ◌⊎◌}
use Rattle.std.specs.List.{count_by}
use Rattle.kept_places.specs.Marks.{is_gone, rank}

-- a rank is a place less the places before it that are gone
abbrev pub RanksAreCounts : Type 0
RanksAreCounts = (gone : List Bool) (p : ℕ) → rank gone p + count_by (λ g. g) (take p gone) ≡ p

-- a place behind a kept one has a greater rank
abbrev pub RanksAscend : Type 0
RanksAscend = (gone : List Bool) (p q : ℕ) → is_gone gone p ≡ false → p < q → rank gone p < rank gone q

-- a place stands outside the kept places from p to q where its rank stands outside theirs
abbrev pub OutsideByRank : Type 0
OutsideByRank = (gone : List Bool) (p q m : ℕ) → is_gone gone p ≡ false → is_gone gone q ≡ false → ((rank gone m ≤ rank gone p) ⊎ (rank gone q < rank gone m)) ↔ ((m ≤ p) ⊎ (q < m))
