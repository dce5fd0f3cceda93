use Rattle.fingerprints.specs.Columns.{states_of}
use Rattle.fingerprints.proofs.ColumnLemmas.{over_more, run_on, run_through}
use Rattle.fingerprints.proofs.columns.Column.run.Goals as goal

pub loop-instr-preserved : goal.loop-instr-preserved
loop-instr-preserved c = record {
  over = over_more c.args.instrs.now c.loop-instr.instr-index c.instr-item.result c.loop-instr-test.true c.loop-instr.invariant.over;
  ends = run_on c.args.instrs.now c.loop-instr.instr-index c.instr-item.result (states_of c.loop-instr.column) (states_of c.after-column.result) _ c.loop-instr-test.true c.instr-item.is c.after-column.ensures c.loop-instr.invariant.ends;
}

pub returns : goal.returns
returns c = run_through c.args.instrs.now c.loop-instr.instr-index (states_of c.loop-instr.column) _ c.loop-instr-test.false c.loop-instr.invariant.ends
