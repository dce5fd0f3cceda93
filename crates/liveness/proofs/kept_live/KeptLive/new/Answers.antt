use Rattle.std.proofs.Common.{◌≡◌, ◌∙◌, List, Bool, Option, length, subst, sym, ap, arith}
use Rattle.thumb_instr.specs.declared.items.Items.{Items}
use Rattle.thumb_model.specs.Listing.{code_of}
use Rattle.code_flow.specs.declared.way.Ways.{Ways}
use Rattle.liveness.specs.Graph.{IsGraph}
use Rattle.liveness.specs.Live.{set_at}
use Rattle.liveness.specs.Ahead.{IsAhead}
use Rattle.liveness.specs.Counted.{AreCounted}
use Rattle.liveness.specs.Walk.{IsFitWalk}
use Rattle.liveness.proofs.Startings.{idle_first, kept_first}
use Rattle.liveness.proofs.kept_live.KeptLive.new.Goals as goal

pub all_forward-requires-clause-few : goal.all_forward-requires-clause-few
all_forward-requires-clause-few g c = omega (arith, ap length c.as_slice-4.ensures.value, c.in_ok-ways.ensures.len, c.place_count.ensures)

pub walk_of-requires-clause-few : goal.walk_of-requires-clause-few
walk_of-requires-clause-few g c = omega (arith, ap length c.as_slice-6.ensures.value, ap length c.as_slice-2.ensures.value, c.in_ok-sets.ensures.many, c.in_ok-ways.ensures.len, c.place_count.ensures)

pub invariant_of-result : goal.invariant_of-result
invariant_of-result g c =
    let ways = c.in_ok-ways.ways.items in
    let graph : IsGraph (code_of c.args.listing.now) ways c.in_ok-graph.graph = subst (λ (ws : List (Option Ways)). IsGraph (code_of c.args.listing.now) ws c.in_ok-graph.graph) c.as_slice.ensures.value c.in_ok-graph.ensures in
    let counted : AreCounted c.in_ok-graph.graph.is_point.items c.in_ok-forward.forward = subst (λ (ms : List Bool). AreCounted ms c.in_ok-forward.forward) c.as_slice-3.ensures.value c.in_ok-forward.ensures.counted in
    let many : length c.as_slice-6.result.now ≡ length ways = ap length c.as_slice-6.ensures.value ∙ c.in_ok-sets.ensures.many ∙ ap length c.as_slice-2.ensures.value in
    let fit : IsFitWalk c.in_ok-graph.graph.is_point.items (length ways) c.in_ok-walk.walk = subst (λ (ms : List Bool). IsFitWalk ms (length ways) c.in_ok-walk.walk) c.as_slice-5.ensures.value (subst (λ n. IsFitWalk c.as_slice-5.result.now n c.in_ok-walk.walk) many c.in_ok-walk.ensures.fit) in
    idle_first (code_of c.args.listing.now) _ c.place_count.result graph counted (c.in_ok-forward.ensures.many ∙ ap length c.as_slice-4.ensures.value) c.in_ok-due.ensures (c.place_count.ensures ∙ sym c.in_ok-ways.ensures.len) fit c.in_ok-walk.ensures.stack c.in_ok-walk.ensures.touched

pub returns-clause-kept : goal.returns-clause-kept
returns-clause-kept g c =
    let ways = c.in_ok-ways.ways.items in
    let graph : IsGraph (code_of c.args.listing.now) ways c.in_ok-graph.graph = subst (λ (ws : List (Option Ways)). IsGraph (code_of c.args.listing.now) ws c.in_ok-graph.graph) c.as_slice.ensures.value c.in_ok-graph.ensures in
    let many : length c.as_slice-6.result.now ≡ length ways = ap length c.as_slice-6.ensures.value ∙ c.in_ok-sets.ensures.many ∙ ap length c.as_slice-2.ensures.value in
    kept_first (code_of c.args.listing.now) _ c.in_ok-sets.sets.items graph (c.in_ok-walk.ensures.fit.before_many ∙ many) (λ p. c.in_ok-walk.ensures.same p ∙ ap (λ (ss : List Items). set_at ss p) c.as_slice-6.ensures.value) c.in_ok-sets.ensures.live
    (subst (λ (ws : List (Option Ways)). IsAhead ws c.in_ok-forward.forward.sets.items) c.as_slice-4.ensures.value c.in_ok-forward.ensures.ahead)
