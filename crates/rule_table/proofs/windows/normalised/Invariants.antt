use Rattle.std.proofs.Common.{◌≡◌, take, map}
use Rattle.thumb_instr.specs.Window.{normal_of}
use Rattle.rule_table.proofs.windows.normalised.Given as goal

abbrev pub invariant-loop-instr : goal.invariant-loop-instr
invariant-loop-instr l = l.seq ≡ map normal_of (take l.instr-index l.window)
