use Rattle.call_tests.proofs.GaveWay.{was_live}
use Rattle.call_tests.proofs.live_items.updated.Goals as goal

pub change-requires : goal.change-requires
change-requires c =
    was_live c.args.listing.now c.args.place c.args._instr c.args.changed.now c.in_ok-sets.sets c.requires.gave_way c.requires.in_window c.in_ok-sets.ensures.live
