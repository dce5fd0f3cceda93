use Rattle.std.proofs.Common.{◌∙◌, map}
use Rattle.window_exec.specs.State.{values_of}
use Rattle.fingerprints.proofs.SequenceLemmas.{none_stepped, column_arranged}
use Rattle.fingerprints.proofs.arranging.columns_of.Goals as goal

pub loop-rest-init : goal.loop-rest-init
loop-rest-init c = none_stepped (map values_of c.args.states.now) c.new-columns.result.items c.new-columns.ensures.items

pub loop-rest-preserved : goal.loop-rest-preserved
loop-rest-preserved c =
    column_arranged c.loop-rest.columns.items c.push.new.self.items c.of.result c.loop-rest.rest.now c.split_at.result.0.now c.split_at.result.1.now c.min.result
    c.split_at.ensures.front c.split_at.ensures.back c.of.ensures c.in_ok-push.ensures.items
    ∙ c.loop-rest.invariant
