use Rattle.rule_table.proofs.MaskTexts.{rows_small}
use Rattle.rule_table.proofs.lines.write_mask.Goals as goal

pub write_items-requires : goal.write_items-requires
write_items-requires c = rows_small c.mask_items.result.now c.mask_items.ensures
