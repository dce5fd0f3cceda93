use Rattle.std.proofs.Common.{◌≡◌, ◌+◌, drop, map}
use Rattle.thumb_model.specs.Layout.{end_of, faults_from, lies_in}
use Rattle.listing_parser.specs.Views.{line_view}
use Rattle.label_layout.specs.Refusals.{first_fault}
use Rattle.label_layout.proofs.faults.find_fault.Given as goal

abbrev pub invariant-loop-line : goal.invariant-loop-line
invariant-loop-line l = record {
  end : end_of l.at (map line_view (drop l.line-index l.line-items)) ≡ l.layout.end;
  number : l.number ≡ l.line-index + 1;
  fault : faults_from (lies_in l.layout.base l.listing) l.number l.at (map line_view (drop l.line-index l.line-items)) ≡ first_fault l.layout.base l.listing;
}
