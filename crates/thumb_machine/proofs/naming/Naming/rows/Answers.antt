use Rattle.std.proofs.Common.{◌≡◌, ◌∙◌, Some, sym, arith, add-one, refl}
use Rattle.std.specs.Prelude.{slice_get}
use Rattle.thumb_model.specs.Listing.{code_of, places_of}
use Rattle.listing_parser.specs.Views.{place_view}
use Rattle.thumb_machine.specs.Naming.{naming_of}
use Rattle.thumb_machine.proofs.Rows.{call_next, row_next, row_past}
use Rattle.thumb_machine.proofs.naming.Naming.rows.Goals as goal

pub loop-place-preserved : goal.loop-place-preserved
loop-place-preserved c =
    let here : slice_get (places_of c.args.listing.now) c.loop-place.place ≡ Some (place_view c.in-Some.found) = sym c.in-Some.ensures in
    record {
      count = omega (arith, c.in_ok-push.ensures.len, c.loop-place.invariant.count);
      calls = rw add-one (rw (call_next (places_of c.args.listing.now) c.loop-place.place (place_view c.in-Some.found) here, c.calls_in-calls.ensures.value, c.loop-place.invariant.calls) refl);
      few = omega (arith, c.calls_in-calls.ensures.few, c.loop-place.invariant.few);
      rows = rw c.in_ok-push.ensures.items (row_next (naming_of c.args.self.now) (code_of c.args.listing.now) c.loop-place.rows.items c.row.result c.loop-place.place
          (sym c.loop-place.rows.ok.0 ∙ c.loop-place.invariant.count) c.loop-place.invariant.rows
          (rw here (c.row.ensures c.loop-place.place c.loop-place.invariant.calls)));
    }

pub returns-clause-rows : goal.returns-clause-rows
returns-clause-rows c =
    row_past (naming_of c.args.self.now) (code_of c.args.listing.now) c.loop-place.rows.items c.loop-place.place (sym c.loop-place.rows.ok.0 ∙ c.loop-place.invariant.count) (omega (arith, c.place_count-place-end.ensures)) c.loop-place.invariant.rows
