use Rattle.std.proofs.Common.{◌∙◌, List, ap}
use Rattle.std.proofs.lemmas.List.{take_rest}
use Rattle.thumb_instr.specs.declared.instr.Instr.{Instr}
use Rattle.thumb_instr.specs.Items.{has}
use Rattle.liveness.specs.Through.{live_through}
use Rattle.liveness.proofs.kept.set_from.Goals as goal

pub returns : goal.returns
returns c = λ x. c.set_before.ensures x ∙ ap (λ (is : List Instr). live_through is (λ y. has c.args.after.bits y) x) (take_rest c.args.instrs.now c.args.at)
