use Rattle.std.proofs.Common.{◌≡◌, ◌||◌, ◌&&◌, List, true, false, sym, ap, ◌∙◌, refl}
use Rattle.std.proofs.lemmas.Option.{slice_get_read}
use Rattle.thumb_instr.specs.declared.items.Items.{Items}
use Rattle.thumb_instr.specs.Items.{has}
use Rattle.code_flow.specs.Flow.{way_list}
use Rattle.liveness.specs.Live.{set_at, word_of}
use Rattle.liveness.specs.Passes.{gained, led}
use Rattle.liveness.proofs.Visits.{changes}
use Rattle.common_lemmas.proofs.Booleans.{or_false}
use Rattle.liveness.proofs.visiting.visit.Goals as goal

pub returns-then-is_point-clause-visit : goal.returns-then-is_point-clause-visit
returns-then-is_point-clause-visit g c =
    let at : set_at c.args.found.now.before.items c.args.place ≡ c.index-old.result.now.bits = ap word_of (slice_get_read c.args.found.now.before.items _ c.args.place c.index-old.result.now refl c.requires.before c.index-old.ensures) in
    changes _ _ _ _ _ _ c.index-old.result.now _ _ _ c.requires.before c.requires.after at c.if-new-old.false
    (λ x. c.union-new.ensures x ∙ ap (λ b. has c.index-old.result.now.bits x || b) (c.look-seen.ensures.before x ∙ ap (λ (l : List Items). gained (way_list c.args.ways) l c.args.found.now.points.bits x) c.as_slice.ensures.value))
    (λ x. c.look-seen.ensures.after x ∙ ap (λ (l : List Items). led (way_list c.args.ways) l c.args.found.now.points.bits x) c.as_slice.ensures.value)
    (λ x. c.union-found.ensures x ∙ ap (λ b. has c.args.found.now.points.bits x || (b && has c.union-new.result.bits x)) (sym c.if-is_point.true))

pub returns-else-is_point-clause-visit : goal.returns-else-is_point-clause-visit
returns-else-is_point-clause-visit g c =
    let at : set_at c.args.found.now.before.items c.args.place ≡ c.index-old.result.now.bits = ap word_of (slice_get_read c.args.found.now.before.items _ c.args.place c.index-old.result.now refl c.requires.before c.index-old.ensures) in
    changes _ _ _ _ _ _ c.index-old.result.now _ _ _ c.requires.before c.requires.after at c.if-new-old.false
    (λ x. c.union-new.ensures x ∙ ap (λ b. has c.index-old.result.now.bits x || b) (c.look-seen.ensures.before x ∙ ap (λ (l : List Items). gained (way_list c.args.ways) l c.args.found.now.points.bits x) c.as_slice.ensures.value))
    (λ x. c.look-seen.ensures.after x ∙ ap (λ (l : List Items). led (way_list c.args.ways) l c.args.found.now.points.bits x) c.as_slice.ensures.value)
    (λ x. sym (or_false (has c.args.found.now.points.bits x)) ∙ ap (λ b. has c.args.found.now.points.bits x || (b && has c.union-new.result.bits x)) (sym c.if-is_point.false))
