use Rattle.std.proofs.Common.{◌≡◌, ◌++◌, false, map, take}
use Rattle.thumb_model.specs.Listing.{Words}
use Rattle.listing_parser.specs.Views.{value_view}
use Rattle.window_runs.specs.Rows.{rows_of}
use Rattle.window_runs.proofs.rows.add_words.Given as goal

abbrev pub invariant-loop : goal.invariant-loop
invariant-loop l = l.rows.items ≡ l.initial.rows.items ++ rows_of false (Words (map value_view (take l.index l.values)))
