use Rattle.std.proofs.Common.{sym, ◌∙◌}
use Rattle.thumb_model.specs.Effect.{after}
use Rattle.fingerprints.proofs.SequenceLemmas.{column_printed, columns_printed}
use Rattle.fingerprints.proofs.sequences.print_next.Goals as goal

pub loop-column-preserved : goal.loop-column-preserved
loop-column-preserved c =
    column_printed (after c.args.instr.now) c.args.mask.items.bits c.loop-column.h c.args.columns.now c.loop-column.column-index c.column-item.result c.after.result c.with_column-h.result
    c.loop-column-test.true c.column-item.is c.after.ensures c.with_column-h.ensures
    ∙ c.loop-column.invariant

pub returns : goal.returns
returns c = sym (columns_printed (after c.args.instr.now) c.args.mask.items.bits c.loop-column.h c.args.columns.now c.loop-column.column-index c.loop-column-test.false) ∙ c.loop-column.invariant
