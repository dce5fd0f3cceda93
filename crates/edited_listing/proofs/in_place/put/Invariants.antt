use Rattle.std.proofs.Common.{◌≡◌, ◌+◌, ◌++◌, drop, length, take}
use Rattle.edited_listing.proofs.in_place.put.Given as goal

abbrev pub invariant-loop-line : goal.invariant-loop-line
invariant-loop-line l = record {
  at : l.at ≡ l.from + length l.new.items;
  many : length l.lines.items ≡ length l.initial.lines.items;
  front : take l.at l.lines.items ≡ take l.at l.initial.lines.items;
  back : l.new.items ++ drop l.at l.lines.items ≡ l.initial.new.items ++ drop (l.from + length l.initial.new.items) l.initial.lines.items;
}

abbrev pub decreases-loop-line : goal.decreases-loop-line
decreases-loop-line l = length l.new.items
