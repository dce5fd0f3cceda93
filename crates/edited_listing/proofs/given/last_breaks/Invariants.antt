use Rattle.std.proofs.Common.{◌≡◌, ◌++◌, length, drop}
use Rattle.edited_listing.specs.Known.{last_breaks}
use Rattle.edited_listing.proofs.given.last_breaks.Given as goal

abbrev pub invariant-loop-row : goal.invariant-loop-row
invariant-loop-row l = l.breaks.items ++ last_breaks (length l.breaks.items) l.last (drop l.row-index l.rows) ≡ last_breaks 0 0 l.rows
