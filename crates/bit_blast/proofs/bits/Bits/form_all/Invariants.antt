use Rattle.std.proofs.Common.{◌≡◌, drop, length}
use Rattle.bit_blast.specs.Slots.{AreSlotsOver}
use Rattle.bit_blast.specs.Forming.{formed_all}
use Rattle.bit_blast.proofs.bits.Bits.form_all.Given as goal

-- forming the remaining slots from the current bits gives the same end as forming all slots from the first bits
abbrev pub invariant-loop-slot : goal.invariant-loop-slot
invariant-loop-slot l = record {
  count : length l.self.r ≡ length l.fn.self.r;
  over : AreSlotsOver (length l.self.r) (drop l.slot-index l.side);
  ends : formed_all l.symbol l.builder (drop l.slot-index l.side) l.self ≡ formed_all l.symbol l.fn.builder l.side l.fn.self;
}
