use Rattle.std.proofs.Common.{◌∙◌}
use Rattle.thumb_model.specs.Listing.{code_of}
use Rattle.liveness.proofs.Startings.{exact_before}
use Rattle.liveness.proofs.starting.live_sets.Goals as goal

pub returns-clause-live : goal.returns-clause-live
returns-clause-live g c =
    let done = c.in_ok-settle.ensures in
    exact_before (code_of c.args.listing.now) c.args.ways.now c.settle.new.found.before.items c.settle.new.found.after.items c.settle.new.found.points.bits (record {
      as_many = c.requires.graph.as_many;
      has_ways = c.requires.graph.ways;
      sound = done.sound;
      closed = done.closed;
    })
    (done.before_len ∙ c.requires.graph.as_many) (done.after_len ∙ c.requires.graph.as_many)
