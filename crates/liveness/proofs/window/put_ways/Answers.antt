use Rattle.liveness.proofs.Windows.{put_more, others_more}
use Rattle.liveness.proofs.window.put_ways.Goals as goal

pub loop-number-preserved : goal.loop-number-preserved
loop-number-preserved c =
    let number = c.loop-number.number in
    record {
      put = put_more c.args.places.now c.args.new.now c.loop-number.ways number c.instr_at.result c.ways_of.result c.requires.ascending c.loop-number-test.true c.instr_at.ensures c.ways_of.ensures c.loop-number.invariant.put;
      others = others_more c.args.places.now c.args.ways.now c.loop-number.ways number c.ways_of.result c.loop-number-test.true c.loop-number.invariant.others;
    }
