use Rattle.std.proofs.Common.{◌∙◌, ◌+◌, ◌++◌, List, ℕ, drop, ap, arith}
use Rattle.thumb_model.specs.Listing.{code_of, places_of}
use Rattle.flow_tidy.specs.Halves.{wides_before}
use Rattle.flow_tidy.proofs.Halves.{wides_more}
use Rattle.flow_tidy.proofs.Starting.{caused_may, one_more_due}
use Rattle.flow_tidy.proofs.widest_layout.look_over.Goals as goal

pub loop-place-preserved : goal.loop-place-preserved
loop-place-preserved c =
    let ps = places_of c.args.listing.now in
    let code = code_of c.args.listing.now in
    let i = c.loop-place.invariant in
    let p : ℕ = c.loop-place.place in
    let next : ℕ = c.loop-place.count + c.look_at-facts.result.wide in
    let mark = c.requires.reached.says p c.at.result c.at.ensures in
    record {
      few = omega (arith, c.look_at-facts.ensures.few, i.few);
      wide =
          ap (λ (xs : List ℕ). xs ++ wides_before next (drop (p + 1) ps)) c.in_ok-push.ensures.items
          ∙ wides_more c.loop-place.wide.items c.loop-place.count c.look_at-facts.result.wide ps p (omega (arith, c.place_count-places.ensures, c.loop-place-test.true)) c.look_at-facts.ensures.wide i.wide;
      many = omega (arith, c.in_ok-push-2.ensures.len, i.many);
      due = one_more_due code c.loop-place.due.items c.push-in-loop-place.new.self.items p c.look_at-facts.result.may_change i.many c.in_ok-push-2.ensures.items i.due
          (λ k. c.look_at-facts.ensures.may_change ∙ caused_may code p c.at.result mark k);
    }
