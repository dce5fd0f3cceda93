use Rattle.thumb_instr.proofs.RenamingLemmas.{parts_low}
use Rattle.thumb_instr.proofs.renaming.registers_of.Goals as goal

pub and_named-found-requires-clause-low : goal.and_named-found-requires-clause-low
and_named-found-requires-clause-low c = (parts_low c.args.instr.now c.parts-parts.result c.roles-roles.result c.parts-parts.ensures c.roles-roles.ensures c.requires).0

pub and_named-found-requires-2-clause-low : goal.and_named-found-requires-2-clause-low
and_named-found-requires-2-clause-low c = (parts_low c.args.instr.now c.parts-parts.result c.roles-roles.result c.parts-parts.ensures c.roles-roles.ensures c.requires).1

pub and_named-requires-clause-low : goal.and_named-requires-clause-low
and_named-requires-clause-low c = (parts_low c.args.instr.now c.parts-parts.result c.roles-roles.result c.parts-parts.ensures c.roles-roles.ensures c.requires).2
