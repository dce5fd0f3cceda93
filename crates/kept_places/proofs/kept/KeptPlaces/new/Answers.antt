use Rattle.std.proofs.Common.{◌≡◌, ap, false, length, replicate, arith}
use Rattle.std.proofs.lemmas.List.{length-replicate}
use Rattle.kept_places.proofs.Counts.{none_counted}
use Rattle.kept_places.proofs.Ways.{lead_nowhere, start_alone}
use Rattle.kept_places.proofs.kept.KeptPlaces.new.Goals as goal

pub invariant_of-result : goal.invariant_of-result
invariant_of-result c =
    let e : c.in_ok-vec.field-0.items ≡ replicate c.args.count false = c.in_ok-vec.ensures.items_if_clones_equal (λ y e. e) in
    record {
      few = omega (arith, ap length e, length-replicate c.args.count false, c.ranges.count.fits);
      leads = lead_nowhere c.args.count _ _ e c.in_ok-to_themselves.ensures.as_many c.in_ok-to_themselves.ensures.same;
      starts = start_alone c.args.count _ _ e c.in_ok-to_themselves-2.ensures.as_many c.in_ok-to_themselves-2.ensures.same;
      small = none_counted 64 c.args.count _ _ (omega arith) e (c.in_ok-vec-2.ensures.items_if_clones_equal (λ y e. e));
      large = none_counted 4096 c.args.count _ _ (omega arith) e (c.in_ok-vec-3.ensures.items_if_clones_equal (λ y e. e));
    }
