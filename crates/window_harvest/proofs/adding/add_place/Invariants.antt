use Rattle.std.proofs.Common.{List, map}
use Rattle.thumb_model.specs.Listing.{ListingLine}
use Rattle.seq_enum.specs.Alphabet.{numbers_from}
use Rattle.window_harvest.specs.Harvest.{pair_of, spot_of, AreAdded}
use Rattle.window_harvest.specs.Keys.{AreSeen}
use Rattle.window_harvest.specs.LimitsOf.{limits_of, AreOf}
use Rattle.window_harvest.proofs.adding.add_place.Given as goal

abbrev pub invariant-loop-last : goal.invariant-loop-last
invariant-loop-last l =
    (lines : List ListingLine) → AreOf lines l.rows l.live → AreSeen l.limits.pool.now l.initial.seen.keys (map pair_of l.initial.pairs.items)
    → AreSeen l.limits.pool.now l.seen.keys (map pair_of l.pairs.items) × AreAdded (limits_of l.limits) lines (map (spot_of l.place) (numbers_from 1 l.last)) (map pair_of l.initial.pairs.items) (map pair_of l.pairs.items)
