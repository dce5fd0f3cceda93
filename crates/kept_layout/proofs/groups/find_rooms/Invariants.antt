use Rattle.kept_layout.specs.Blocks.{footprints_of}
use Rattle.kept_layout.proofs.Rooms.{IsCounted}
use Rattle.kept_layout.proofs.groups.find_rooms.Given as goal

abbrev pub invariant-loop-number : goal.invariant-loop-number
invariant-loop-number l = IsCounted (footprints_of l.blocks) l.rooms.items l.start l.room l.number
