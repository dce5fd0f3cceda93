use Rattle.thumb_model.specs.Listing.{code_of}
use Rattle.std.proofs.Common.{◌∙◌}
use Rattle.liveness.proofs.Paths.{finished_live}
use Rattle.liveness.proofs.Settles.{nothing_sound}
use Rattle.liveness.proofs.finding.live_by.Goals as goal

pub settle-requires-clause-sound : goal.settle-requires-clause-sound
settle-requires-clause-sound g c =
    nothing_sound (code_of c.args.listing.now) c.place_count-count.result c.none.result c.in_ok-vec.field-0.items c.none-3.result.bits (c.in_ok-vec.ensures.items_if_clones_equal (λ y e. e)) c.none.ensures c.none-3.ensures

pub returns-clause-live : goal.returns-clause-live
returns-clause-live g c =
    let done = c.in_ok-settle.ensures in
    finished_live (code_of c.args.listing.now) c.args.ways.now c.settle.new.found.before.items c.settle.new.found.after.items c.settle.new.found.points.bits (record {
      as_many = c.requires.len;
      has_ways = c.requires.ways;
      sound = done.sound;
      closed = done.closed;
    })
    (done.before_len ∙ c.requires.len) (done.after_len ∙ c.requires.len)
