use Rattle.std.proofs.Common.{ap, ◌∙◌}
use Rattle.thumb_instr.specs.declared.instr.Instr.TheVariants as instr
use Rattle.thumb_instr.proofs.Encodings.{normal_is}
use Rattle.thumb_instr.proofs.window.normal.Goals as goal

pub returns-else-target-source : goal.returns-else-target-source
returns-else-target-source c =
    ap (λ o. instr.TwoNumber o c.in-ThreeNumber.target c.of.result) c.byte_sum.ensures
    ∙ normal_is c.in-ThreeNumber.sum c.in-ThreeNumber.target c.in-ThreeNumber.source c.in-ThreeNumber.number c.of.result c.args.instr c.in-ThreeNumber.is c.if-target-source.false c.of.ensures
