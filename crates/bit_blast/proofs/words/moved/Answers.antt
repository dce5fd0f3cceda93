use Rattle.std.proofs.Common.{◌∙◌, ap}
use Rattle.bit_blast.specs.Words.{filled}
use Rattle.bit_blast.proofs.Ends.{moved_lsl, moved_lsr, moved_asr}
use Rattle.bit_blast.proofs.words.moved.Goals as goal

pub returns-in-Lsl : goal.returns-in-Lsl
returns-in-Lsl c = moved_lsl c.args.kind c.args.n c.args.x.now c.filled-rest.result c.joined.result c.in-Lsl.is c.requires (c.filled-rest.ensures ∙ ap filled c.fill.ensures) c.joined.ensures

pub returns-in-Lsr : goal.returns-in-Lsr
returns-in-Lsr c =
    moved_lsr c.args.kind c.args.n c.args.x.now c.filled-rest.result c.joined-in-Lsr.result c.in-Lsr.is c.requires c.type_inv.x (c.filled-rest.ensures ∙ ap filled c.fill.ensures) c.joined-in-Lsr.ensures

pub returns-in-Asr : goal.returns-in-Asr
returns-in-Asr c =
    moved_asr c.args.kind c.args.n c.args.x.now c.filled-rest.result c.joined-in-Asr.result c.in-Asr.is c.requires c.type_inv.x (c.filled-rest.ensures ∙ ap filled c.fill.ensures) c.joined-in-Asr.ensures
