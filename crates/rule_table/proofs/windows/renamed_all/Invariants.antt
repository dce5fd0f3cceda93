use Rattle.std.proofs.Common.{◌≡◌, take, map}
use Rattle.thumb_instr.specs.Window.{renamed}
use Rattle.rule_table.proofs.windows.renamed_all.Given as goal

abbrev pub invariant-loop-instr : goal.invariant-loop-instr
invariant-loop-instr l = l.seq ≡ map (renamed l.registers) (take l.instr-index l.instrs)
