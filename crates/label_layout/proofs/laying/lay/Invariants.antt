use Rattle.std.proofs.Common.{◌≡◌, ◌≤◌, ◌^◌, ◌++◌, drop, map}
use Rattle.std.specs.Map.{lookup}
use Rattle.thumb_model.specs.Listing.{Name}
use Rattle.thumb_model.specs.Layout.{end_of, label_address, or_else}
use Rattle.label_layout.specs.Addresses.{is_key}
use Rattle.listing_parser.specs.Views.{line_view}
use Rattle.label_layout.specs.Addresses.{addresses_from}
use Rattle.label_layout.proofs.laying.lay.Given as goal

abbrev pub invariant-loop-line : goal.invariant-loop-line
invariant-loop-line l = record {
  in_code : l.at ≤ 2 ^ 29;
  end : end_of l.at (map line_view (drop l.line-index l.lines)) ≡ end_of l.base (map line_view l.lines);
  places : l.places.items ++ addresses_from l.at (map line_view (drop l.line-index l.lines)) ≡ addresses_from l.base (map line_view l.lines);
  label : (q : Name) → or_else (lookup (is_key q) l.labels.entries) (label_address q l.at (map line_view (drop l.line-index l.lines))) ≡ label_address q l.base (map line_view l.lines);
}
