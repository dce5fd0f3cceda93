use Rattle.thumb_model.specs.Effect.{after}
use Rattle.fingerprints.proofs.ColumnLemmas.{column_after}
use Rattle.fingerprints.proofs.columns.Column.after.Goals as goal

pub returns : goal.returns
returns c = column_after (after c.args.instr.now) c.args.self.now.lanes c.step8.result c.args.self.now.count c.step8.ensures c.args.self.now.most
