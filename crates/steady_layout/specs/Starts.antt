-- The list of where lines begin in the widest layout.
use Rattle.std.specs.Prelude.{◌≡◌, ℕ, ◌≤◌, ◌^◌, List, [], ◌∷◌}
use Rattle.thumb_model.specs.Listing.{ListingLine}
use Rattle.steady_layout.specs.declared.starts.Start.{Start}
use Rattle.steady_layout.specs.Steady.{behind, first, widest_end}

-- where each line begins
abbrev pub starts_from : Start → List ListingLine → List Start
starts_from here [] = []
starts_from here (l ∷ ls) = here ∷ starts_from (behind here l.statement) ls

-- the starts are those of the lines' widest layout, which ends within the Code region
pub record AreStarts (base : ℕ) (ls : List ListingLine) (starts : List Start) : Type 0 where
  pub in_code : (widest_end (first base) ls).at ≤ 2 ^ 29
  pub each : starts ≡ starts_from (first base) ls
