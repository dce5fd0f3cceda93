use Rattle.std.proofs.Common.{◌≡◌, ◌+◌, ◌∙◌, ◌++◌, drop, Some, sym, ap, arith}
use Rattle.std.specs.Prelude.{slice_get}
use Rattle.thumb_model.specs.Listing.{places_of}
use Rattle.listing_parser.specs.Views.{place_view}
use Rattle.thumb_model.specs.Naming.{returns_from}
use Rattle.thumb_machine.specs.Naming.{naming_of}
use Rattle.thumb_machine.proofs.PointsMade.{returns_next}
use Rattle.thumb_machine.proofs.points.add_returns.Goals as goal

pub loop-place-preserved : goal.loop-place-preserved
loop-place-preserved c =
    let here : slice_get (places_of c.args.listing.now) c.loop-place.place ≡ Some (place_view c.in-Some.found) = sym c.in-Some.ensures in
    record {
      few = omega (arith, c.calls_in-calls.ensures.few, c.loop-place.invariant.few);
      completes = λ w rest.
          c.in_ok-add_return.ensures w (returns_from (naming_of c.args.naming.now) (c.loop-place.calls + c.calls_in-calls.result) (c.loop-place.place + 1) (drop (c.loop-place.place + 1) (places_of c.args.listing.now)) ++ rest)
          ∙ rw (returns_next w (naming_of c.args.naming.now) c.loop-place.calls (c.loop-place.calls + c.calls_in-calls.result) c.loop-place.place (places_of c.args.listing.now) (place_view c.in-Some.found) rest here
          (ap (λ n. c.loop-place.calls + n) c.calls_in-calls.ensures.value))
          (c.loop-place.invariant.completes w rest);
    }
