use Rattle.std.proofs.Common.{◌≡◌, ◌∙◌, length, ap, subst, arith}
use Rattle.liveness.specs.declared.kept.NewSets.{NewSets}
use Rattle.liveness.specs.Live.{Sets}
use Rattle.liveness.specs.Kept.{replaced_sets}
use Rattle.liveness.proofs.GaveWay.{same_sets}
use Rattle.liveness.proofs.Replaced.{put_left}
use Rattle.liveness.proofs.sets.Live.give_way.Goals as goal

pub returns : goal.returns
returns c =
    let p = c.args.place in
    let befores = c.self.inside.before.items in
    let afters = c.self.inside.after.items in
    let before_len = ap (λ (s : Sets). length s.before) c.self.view_is in
    let after_len = ap (λ (s : Sets). length s.after) c.self.view_is in
    let before = put_left (λ (n : NewSets). n.before) p c.args.count befores c.args.new.now c.put.new.before.items c.put.ensures.before c.requires.few (omega (arith, before_len, c.requires.before)) in
    let after = put_left (λ (n : NewSets). n.after) p c.args.count afters c.args.new.now c.put.new.after.items c.put.ensures.after c.requires.few (omega (arith, after_len, c.requires.after)) in
    subst (λ (s : Sets). (let t : Sets = record { before = c.leave_out.new.sets.items; after = c.leave_out-2.new.sets.items } in t) ≡ replaced_sets p c.args.count c.args.new.now s) c.self.view_is
    (same_sets _ _ _ _ (c.leave_out.ensures ∙ before) (c.leave_out-2.ensures ∙ after))
