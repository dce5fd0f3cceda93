use Rattle.std.proofs.Common.{◌≡◌, ◌+◌, ◌++◌, List, ℕ, drop, map, length}
use Rattle.std.specs.Map.{lookup}
use Rattle.thumb_syntax.specs.Operands.{or_else}
use Rattle.thumb_model.specs.Layout.{set_address}
use Rattle.thumb_model.specs.Listing.{places_of}
use Rattle.listing_parser.specs.Views.{line_view}
use Rattle.listing_parser.specs.TableWords.{is_key, label_line, passed_from, spots_from}
use Rattle.listing_parser.proofs.index.tables.Given as goal

abbrev pub invariant-loop-n : goal.invariant-loop-n
invariant-loop-n l = record {
  spots : l.index.spots.items ++ spots_from l.n (map line_view (drop l.n l.lines)) ≡ spots_from 0 (map line_view l.lines);
  passed : l.index.passed.items ++ passed_from l.places (map line_view (drop l.n l.lines)) ≡ passed_from 0 (map line_view l.lines);
  places : l.places + length (places_of (map line_view (drop l.n l.lines))) ≡ length (places_of (map line_view l.lines));
  labels : (q : List ℕ) → or_else (lookup (is_key q) l.index.labels.entries) (label_line q l.n (map line_view (drop l.n l.lines))) ≡ label_line q 0 (map line_view l.lines);
  addresses : (q : List ℕ) → or_else (lookup (is_key q) l.index.addresses.entries) (set_address q (map line_view (drop l.n l.lines))) ≡ set_address q (map line_view l.lines);
}
