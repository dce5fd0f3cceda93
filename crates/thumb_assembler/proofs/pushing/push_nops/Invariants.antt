use Rattle.std.proofs.Common.{◌≡◌, ◌++◌}
use Rattle.thumb_assembler.specs.Bytes.{nops}
use Rattle.thumb_assembler.proofs.pushing.push_nops.Given as goal

abbrev pub invariant-loop-left : goal.invariant-loop-left
invariant-loop-left l = l.bytes.items ++ nops l.left ≡ l.initial.bytes.items ++ nops l.padding

abbrev pub decreases-loop-left : goal.decreases-loop-left
decreases-loop-left l = l.left
