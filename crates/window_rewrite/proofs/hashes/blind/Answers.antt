use Rattle.std.proofs.Common.{◌∙◌, ap, sym}
use Rattle.thumb_instr.specs.declared.instr.Instr.TheVariants as instr
use Rattle.thumb_instr.proofs.Registers.{same_number}
use Rattle.bit_blast.specs.Slots.{Byte}
use Rattle.window_rewrite.specs.Hashes.{blind, no_byte}
use Rattle.window_rewrite.proofs.hashes.blind.Goals as goal

pub returns-in-TwoNumber : goal.returns-in-TwoNumber
returns-in-TwoNumber c = ap (λ (b : Byte). instr.TwoNumber c.in-TwoNumber.operation c.in-TwoNumber.target b) (same_number c.of.result no_byte c.of.ensures) ∙ sym (ap blind c.in-TwoNumber.is)
