use Rattle.std.proofs.Common.{arith, refl}
use Rattle.std.proofs.lemmas.List.{nil_from_length}
use Rattle.thumb_model.specs.Listing.{code_of}
use Rattle.code_flow.proofs.Reaches.{taken, was_marked, marks_reached}
use Rattle.code_flow.proofs.reaching.reached.Goals as goal

pub follow_all-requires-clause-place : goal.follow_all-requires-clause-place
follow_all-requires-clause-place g c = was_marked (code_of c.args.listing.now) c.loop-place.reaching c.pop.new.self.items c.in-Some.place c.in-Some.ensures.items c.loop-place.invariant.reaching

pub follow_all-requires-clause-reaching : goal.follow_all-requires-clause-reaching
follow_all-requires-clause-reaching g c = taken (code_of c.args.listing.now) c.loop-place.reaching _ c.in-Some.place c.in-Some.ensures.items refl c.loop-place.invariant.reaching

pub returns-clause-reached : goal.returns-clause-reached
returns-clause-reached g c = marks_reached (code_of c.args.listing.now) c.loop-place.reaching c.loop-place.invariant.reaching c.loop-place.invariant.points (nil_from_length c.loop-place.reaching.waiting.items (omega (arith, c.in_default.ensures.cases.0, c.loop-place.reaching.waiting.ok.0)))
