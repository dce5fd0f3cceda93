-- The first line that defines a name again, as it is found line by line with the names that are known so far.
use Rattle.std.specs.Prelude.{ℕ, ◌+◌, ◌||◌, Bool, false, List, [], ◌∷◌, ◌++◌, Option, Some, None, if◌then◌else◌}
use Rattle.thumb_model.specs.Listing.{Name, ListingLine}
use Rattle.thumb_model.specs.Layout.{is_among}
use Rattle.listing_parser.specs.Targets.{defined_in}

-- whether one of the names is known, or stands among them before itself
abbrev pub is_again : List Name → List Name → Bool
is_again known [] = false
is_again known (n ∷ ns) = is_among n known || is_again (known ++ n ∷ []) ns

-- the first line, counted from n, that defines a name which is known or defined before
abbrev pub first_twice : ℕ → List Name → List ListingLine → Option ℕ
first_twice n known [] = None
first_twice n known (l ∷ ls) = if is_again known (defined_in l) then Some n else first_twice (n + 1) (known ++ defined_in l) ls
