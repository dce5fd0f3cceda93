use Rattle.std.proofs.Common.{◌≡◌, ◌+◌, ◌/◌, ◌<◌, ℕ, List, Bool, true, length, ap, sym, ◌∙◌, subst, arith}
use Rattle.std.specs.Prelude.{slice_set, slice_index}
use Rattle.std.proofs.lemmas.List.{length-set, get_or_default}
use Rattle.std.proofs.lemmas.Nat.{div-add-mod', mod_below}
use Rattle.kept_places.specs.Kept.{AreCounts, EndsAt}
use Rattle.kept_places.proofs.Ranks.{marked_at}
use Rattle.kept_places.proofs.Counts.{count_small, gone_counted, small_within, large_within}
use Rattle.kept_places.proofs.Ways.{gone_leads, gone_starts, is_node}
use Rattle.kept_places.proofs.kept.KeptPlaces.remove.Goals as goal

pub add_one-requires-clause-small : goal.add_one-requires-clause-small
add_one-requires-clause-small c =
    let w : c.args.place < length c.self.inside.gone.items = omega (arith, c.requires, ap length c.self.view_is) in
    let s = count_small 64 c.self.inside.gone.items c.self.inside.small.items c.self.invariant.small (c.args.place / 64) (small_within _ _ c.args.place c.self.invariant.small (omega arith)) in
    omega (arith, s)

pub add_one-requires-2-clause-small : goal.add_one-requires-2-clause-small
add_one-requires-2-clause-small c =
    let w : c.args.place < length c.self.inside.gone.items = omega (arith, c.requires, ap length c.self.view_is) in
    let s = count_small 4096 c.self.inside.gone.items c.self.inside.large.items c.self.invariant.large (c.args.place / 4096) (large_within _ _ c.args.place c.self.invariant.large (omega arith)) in
    omega (arith, s)

pub invariant_of-self : goal.invariant_of-self
invariant_of-self c =
    let p : ℕ = c.args.place in
    let gone : List Bool = c.self.inside.gone.items in
    let w : p < length gone = omega (arith, c.requires, ap length c.self.view_is) in
    let kept : _ = marked_at gone p c.index.result.now w ∙ sym c.index.ensures ∙ c.if-index.false in
    let ends : EndsAt c.self.inside.next.items (p + 1) c.end-behind.result = subst (λ (l : List ℕ). EndsAt l (p + 1) c.end-behind.result) c.deref.ensures.value c.end-behind.ensures in
    let at : c.index-2.result.now ≡ slice_index c.self.inside.first.items p = c.index-2.ensures ∙ get_or_default c.self.inside.first.items p c.index-2.result.now 0 (omega (arith, w, c.self.invariant.starts.as_many)) in
    record {
      few = omega (arith, c.self.invariant.few, length-set gone p true);
      leads = gone_leads gone c.self.inside.next.items p c.end-behind.result c.self.invariant.leads w ends;
      starts = gone_starts gone c.self.inside.first.items p c.end-behind.result c.index-2.result.now c.self.invariant.starts w kept (is_node gone c.self.inside.next.items (p + 1) c.end-behind.result c.self.invariant.leads ends) at;
      small = subst (AreCounts 64 (slice_set gone p true)) (sym c.add_one.ensures) (gone_counted 64 gone c.self.inside.small.items c.self.invariant.small p (p / 64) w kept (omega (arith, div-add-mod' p 64)) (omega (arith, div-add-mod' p 64, mod_below p 64 (omega arith))) (small_within gone _ p c.self.invariant.small (omega (arith, w))));
      large = subst (AreCounts 4096 (slice_set gone p true)) (sym c.add_one-2.ensures) (gone_counted 4096 gone c.self.inside.large.items c.self.invariant.large p (p / 4096) w kept (omega (arith, div-add-mod' p 4096)) (omega (arith, div-add-mod' p 4096, mod_below p 4096 (omega arith))) (large_within gone _ p c.self.invariant.large (omega (arith, w))));
    }
