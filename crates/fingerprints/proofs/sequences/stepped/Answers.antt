use Rattle.std.proofs.Common.{sym, map, ◌∙◌}
use Rattle.thumb_model.specs.Effect.{after}
use Rattle.fingerprints.specs.Columns.{states_in}
use Rattle.fingerprints.proofs.SequenceLemmas.{none_stepped, column_stepped, columns_done}
use Rattle.fingerprints.proofs.sequences.stepped.Goals as goal

pub loop-column-init : goal.loop-column-init
loop-column-init c = none_stepped (map (after c.args.instr.now) (states_in c.args.columns.now)) c.in_ok-later.later.items c.in_ok-later.ensures.items

pub loop-column-preserved : goal.loop-column-preserved
loop-column-preserved c =
    column_stepped (after c.args.instr.now) c.args.columns.now c.loop-column.later.items c.push.new.self.items c.loop-column.column-index c.column-item.result c.after.result
    c.loop-column-test.true c.column-item.is c.after.ensures c.in_ok-push.ensures.items
    ∙ c.loop-column.invariant

pub returns : goal.returns
returns c = sym (columns_done (after c.args.instr.now) c.args.columns.now c.loop-column.later.items c.loop-column.column-index c.loop-column-test.false) ∙ c.loop-column.invariant
