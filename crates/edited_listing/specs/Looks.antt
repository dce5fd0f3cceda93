-- Kept places that follow one another.
use Rattle.std.specs.Prelude.{◌≡◌, ℕ, suc, ◌<◌, true, false, List, length, slice_get, Option, Some, None}
use Rattle.kept_places.specs.Marks.{is_gone, rank}
use Rattle.thumb_model.specs.Listing.{is_op_place, places_of}
use Rattle.edited_listing.specs.declared.standing.Standing.{Standing}
use Rattle.edited_listing.specs.Changes.{home_at}
use Rattle.edited_listing.specs.Edited.{Edited, lines_now, marks}

-- the place on whose line what stands at place p is emitted
abbrev pub home_in : ℕ → Option Standing → ℕ
home_in p None = p
home_in p (Some s) = home_at p s

abbrev pub home_of_place : List Standing → ℕ → ℕ
home_of_place stands p = home_in p (slice_get stands p)

-- q is the next kept place after the kept place p, and an instruction stands at p
pub record IsNextKept (e : Edited) (p q : ℕ) : Type 0 where
  pub p_within : p < length e.stands
  pub p_kept : is_gone (marks e) p ≡ false
  pub q_within : q < length e.stands
  pub q_kept : is_gone (marks e) q ≡ false
  pub next : rank (marks e) q ≡ suc (rank (marks e) p)
  pub op : is_op_place (slice_get (places_of (lines_now e)) (rank (marks e) p)) ≡ true
