-- The invariant of a draft, as contracts see it and as the struct holds it.
use Rattle.std.specs.Prelude.{◌≡◌, ℕ, ◌<◌, ◌^◌, true, false, List, length, map, Option, option_map, slice_get}
use Rattle.std.specs.declared.vec.Vec.{Vec}
use Rattle.std.specs.declared.alloc.Global.{Global}
use Rattle.kept_places.specs.Marks.{is_gone}
use Rattle.thumb_model.specs.Listing.{Name, is_op_place, places_of}
use Rattle.listing_parser.specs.Targets.{DefineOnce}
use Rattle.listing_draft.specs.declared.draft.Draft.TheInside.{Inside}
use Rattle.listing_draft.specs.Drafted.{Drafted, lines_now, now_of}

-- labels as names
abbrev pub names_of : List (Option (Vec ℕ Global)) → List (Option Name)
names_of os = map (λ a. option_map (λ name. name.items) a) os

-- a mark and a label for each place; only instructions are gone; and the lines now define no name twice and have few places
pub record IsDraft (d : Drafted) : Type 0 where
  pub marks : length d.gone ≡ length (places_of d.given)
  pub labels : length d.aims ≡ length (places_of d.given)
  pub ops : (p : ℕ) → is_gone d.gone p ≡ true → is_op_place (slice_get (places_of d.given) p) ≡ true
  pub once : DefineOnce (lines_now d)
  pub few : length (places_of (lines_now d)) < 2 ^ 32

-- the struct's own invariant: that of the draft, and that the lines now are the given ones before anything is changed
pub record IsDraftInside (s : Inside) : Type 0 where
  pub draft : IsDraft (record { given = s.listing; gone = s.kept; aims = names_of s.aims.items })
  pub same : s.is_changed ≡ false → now_of s.kept (names_of s.aims.items) s.listing ≡ s.listing
