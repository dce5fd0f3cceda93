use Rattle.std.proofs.Common.{length, refl}
use Rattle.std.proofs.lemmas.Option.{slice_get_read}
use Rattle.kept_layout.proofs.ShrinkingReach.{aim_told, none_told}
use Rattle.kept_layout.proofs.kept.KeptLayout.is_right.Goals as goal

pub new_target-to-requires-clause-within : goal.new_target-to-requires-clause-within
new_target-to-requires-clause-within c = λ t e.
    let k = c.args.self.now in
    let is = slice_get_read k.blocks.items (length k.blocks.items) c.args.number c.index.result.now refl c.requires.within c.index.ensures in
    c.requires.laid.targets c.args.number t c.index.result.now c.in-Aims.aim is c.in-Aims.is e

pub returns-in-Aims : goal.returns-in-Aims
returns-in-Aims c =
    let k = c.args.self.now in
    let is = slice_get_read k.blocks.items (length k.blocks.items) c.args.number c.index.result.now refl c.requires.within c.index.ensures in
    aim_told k _ c.args.number c.index.result.now c.new_address-at.result c.in-Aims.aim _ c.aim_fault.result c.is_none.result is c.in-Aims.is c.new_address-at.ensures c.new_target-to.ensures c.aim_fault.ensures c.is_none.ensures

pub returns-in_default : goal.returns-in_default
returns-in_default c =
    let k = c.args.self.now in
    let is = slice_get_read k.blocks.items (length k.blocks.items) c.args.number c.index.result.now refl c.requires.within c.index.ensures in
    (λ t. none_told k _ c.args.number c.index.result.now is c.in_default.not-Aims, λ r. refl)
