use Rattle.fingerprints.proofs.ColumnLemmas.{column_holds}
use Rattle.fingerprints.proofs.columns.Column.of.Goals as goal

pub returns : goal.returns
returns c = column_holds c.of.result c.args.states.now (λ j s e. c.of.ensures j s (c.eight_of.ensures j s e))
