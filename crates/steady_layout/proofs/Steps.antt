-- The widest layout, line by line.
use Rattle.std.proofs.Common.{◌≡◌, inl, inr, ℕ, ◌+◌, ◌≤◌, List, [], ◌∷◌, Some, None, arith, if◌then◌else◌}
use Rattle.std.specs.Prelude.{nat_le}
use Rattle.std.proofs.lemmas.Bool.{cases_Bool, leb-true, le-leb}
use Rattle.thumb_model.specs.Listing.{Statement, ListingLine}
use Rattle.steady_layout.specs.declared.starts.Start.{Start}
use Rattle.steady_layout.specs.Steady.{most_of, behind, widest_end}

pub at_end : (here : Start) (ls : List ListingLine) → here.at ≤ (widest_end here ls).at
at_end here [] = omega arith
at_end here (l ∷ ls) = let h = at_end (behind here l.statement) ls in omega arith

pub stepped : (here : Start) (s : Statement) (limit : ℕ) (next : Start) → Some next ≡ (if nat_le (here.at + most_of s) limit then Some (behind here s) else None) → (next ≡ behind here s) × (here.at + most_of s ≤ limit)
stepped here s limit next e = elim (cases_Bool (nat_le (here.at + most_of s) limit)) [
  | inl h ↦ let same : Some next ≡ Some (behind here s) = rw h at e in ((cc), leb-true (here.at + most_of s) limit h)
  | inr h ↦ absurd (let bad : Some next ≡ None = rw h at e in cc)
]

pub fits : (here : Start) (s : Statement) (limit : ℕ) → None ≡ (if nat_le (here.at + most_of s) limit then Some (behind here s) else None) → here.at + most_of s ≤ limit → ⊥
fits here s limit e h = let bad : None ≡ Some (behind here s) = rw (le-leb (here.at + most_of s) limit h) at e in cc
