use Rattle.std.proofs.Common.{◌∙◌, sym, ap, Option}
use Rattle.thumb_instr.specs.Window.{Low, widened, wide_or}
use Rattle.thumb_instr.proofs.Registers.{same_number, widened_number}
use Rattle.thumb_instr.proofs.renaming.wide_or.Goals as goal

pub returns-in-Some : goal.returns-in-Some
returns-in-Some c =
    same_number c.of.result (widened c.in-Some.other) (c.of.ensures ∙ sym (widened_number c.in-Some.other))
    ∙ ap (λ (o : Option Low). wide_or o c.args.register) (sym c.in-Some.is)
