use Rattle.std.proofs.Common.{◌≡◌, ◌∙◌, [], List, map, length, false, subst, sym, ap, arith}
use Rattle.thumb_model.specs.Listing.{ListingLine, places_of}
use Rattle.window_harvest.specs.declared.keys.Key.{Key}
use Rattle.window_runs.specs.declared.rows.WindowPlace.{WindowPlace}
use Rattle.window_runs.specs.Rows.{rows_from}
use Rattle.window_harvest.specs.Harvest.{pair_of}
use Rattle.window_harvest.specs.Keys.{AreSeen}
use Rattle.window_harvest.specs.LimitsOf.{AreOf}
use Rattle.window_harvest.proofs.Added.{places_none, places_more}
use Rattle.window_harvest.proofs.Places.{none_seen}
use Rattle.window_runs.proofs.Lengths.{rows_length}
use Rattle.window_harvest.proofs.harvesting.windows.Goals as goal

pub loop-place-init : goal.loop-place-init
loop-place-init c = rw (c.new-pairs.ensures.items) record {
  seen = subst (λ (keys : List Key). AreSeen c.args.pool.now keys []) (sym c.new-seen.ensures.empty) (none_seen c.args.pool.now);
  added = places_none (record { regs = c.args.regs; left = c.args.left; pool = c.args.pool.now }) c.args.listing.now c.args.left [];
}

pub add_place-requires-clause-rows : goal.add_place-requires-clause-rows
add_place-requires-clause-rows c =
    ap (λ (rs : List WindowPlace). length rs) (c.deref.ensures.value ∙ c.in_ok-rows.ensures ∙ ap (λ (ls : List ListingLine). rows_from false ls) c.lines.ensures) ∙ rows_length false c.args.listing.now ∙ sym c.requires.live.after_len

pub add_place-requires-clause-few : goal.add_place-requires-clause-few
add_place-requires-clause-few c =
    let count : length c.deref.result.now ≡ length (places_of c.args.listing.now) = ap (λ (rs : List WindowPlace). length rs) (c.deref.ensures.value ∙ c.in_ok-rows.ensures ∙ ap (λ (ls : List ListingLine). rows_from false ls) c.lines.ensures) ∙ rows_length false c.args.listing.now in
    omega (arith, c.place_count-place-end.ensures, c.place_count-place-end.type_inv)

pub add_place-requires-clause-place : goal.add_place-requires-clause-place
add_place-requires-clause-place c =
    let count : length c.deref.result.now ≡ length (places_of c.args.listing.now) = ap (λ (rs : List WindowPlace). length rs) (c.deref.ensures.value ∙ c.in_ok-rows.ensures ∙ ap (λ (ls : List ListingLine). rows_from false ls) c.lines.ensures) ∙ rows_length false c.args.listing.now in
    omega (arith, c.place_count-place-end.ensures, c.loop-place-test.true)

pub loop-place-preserved : goal.loop-place-preserved
loop-place-preserved c =
    let rows : c.deref.result.now ≡ rows_from false c.args.listing.now = c.deref.ensures.value ∙ c.in_ok-rows.ensures ∙ ap (λ (ls : List ListingLine). rows_from false ls) c.lines.ensures in
    let of : AreOf c.args.listing.now c.deref.result.now c.args.live.now = record { rows_are = rows; live = c.requires.live } in
    let more = c.in_ok-add_place.ensures c.args.listing.now of c.loop-place.invariant.seen in
    record {
      seen = more.0;
      added = places_more (record { regs = c.args.regs; left = c.args.left; pool = c.args.pool.now }) c.args.listing.now c.args.left c.loop-place.place [] (map pair_of c.loop-place.pairs.items) (map pair_of c.add_place.new.pairs.items) c.loop-place.invariant.added more.1;
    }
