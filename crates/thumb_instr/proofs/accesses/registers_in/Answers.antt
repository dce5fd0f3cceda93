use Rattle.thumb_instr.proofs.Listed.{has_registers}
use Rattle.thumb_instr.proofs.accesses.registers_in.Goals as goal

pub returns : goal.returns
returns c = has_registers c.args.list
