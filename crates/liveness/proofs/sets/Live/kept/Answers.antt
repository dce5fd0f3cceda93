use Rattle.std.proofs.Common.{◌≡◌, ◌<◌, ◌+◌, ◌-◌, ◌∙◌, List, length, refl, sym, ap, subst, arith}
use Rattle.std.proofs.lemmas.Option.{slice_get_read}
use Rattle.thumb_instr.specs.declared.instr.Instr.{Instr}
use Rattle.thumb_instr.specs.Items.{has}
use Rattle.thumb_model.specs.Listing.{code_of}
use Rattle.liveness.specs.Live.{Sets, set_at, word_of}
use Rattle.liveness.specs.Changes.{AreReadFrom}
use Rattle.liveness.specs.Through.{live_through, AreThrough}
use Rattle.liveness.proofs.GaveWay.{before_within, after_within, new_ones, changed_live}
use Rattle.liveness.proofs.sets.Live.kept.Goals as goal

pub returns-clause-live : goal.returns-clause-live
returns-clause-live c =
    let lines = c.args.listing.now in
    let place = c.args.place in
    let old = c.args.old in
    let sets = c.args.self.now in
    let w = c.requires in
    let shorter : c.args.new < old = omega (arith, c.if-new-old.false) in
    let before = c.index-before.result.now in
    let after = c.index-after.result.now in
    let some = w.some in
    let before_len : length c.self.inside.before.items ≡ length sets.before = ap (λ (s : Sets). length s.before) c.self.view_is in
    let after_len : length c.self.inside.after.items ≡ length sets.after = ap (λ (s : Sets). length s.after) c.self.view_is in
    let before_in : place < length c.self.inside.before.items = omega (arith, some, before_len, before_within lines place old c.args.new sets w) in
    let after_in : place + old - 1 < length c.self.inside.after.items = omega (arith, some, after_len, after_within lines place old c.args.new sets w) in
    let eb : set_at sets.before place ≡ before.bits =
    ap (λ (s : Sets). set_at s.before place) (sym c.self.view_is) ∙ ap word_of (slice_get_read c.self.inside.before.items _ place before refl before_in c.index-before.ensures) in
    let ea : set_at sets.after (place + old - 1) ≡ after.bits =
    ap (λ (s : Sets). set_at s.after (place + old - 1)) (sym c.self.view_is) ∙ ap word_of (slice_get_read c.self.inside.after.items _ (place + old - 1) after refl after_in c.index-after.ensures) in
    let ones = new_ones lines place old c.args.new sets w shorter c.in_ok-instrs.instrs c.in_ok-instrs.ensures.as_many c.in_ok-instrs.ensures.stand in
    let first_ones : c.as_slice.result.now ≡ w.instrs = c.as_slice.ensures.value ∙ ones in
    let second_ones : c.as_slice-2.result.now ≡ w.instrs = c.as_slice-2.ensures.value ∙ ones in
    let third_ones : c.as_slice-3.result.now ≡ w.instrs = c.as_slice-3.ensures.value ∙ ones in
    changed_live lines place old c.args.new sets w shorter before after c.new_sets.result.items eb ea
    (λ x. ap (λ (is : List Instr). live_through is (λ y. has after.bits y) x) (sym first_ones) ∙ sym (c.set_before.ensures x) ∙ ap (λ b. has b x) c.if-set_before-before.false)
    (subst (λ (is : List Instr). AreReadFrom (code_of lines) is before (place + c.args.new)) second_ones (c.are_read.ensures c.if-not-are_read.false))
    (omega (arith, c.new_sets.ensures.as_many, ap (λ (is : List Instr). length is) third_ones))
    (subst (λ (is : List Instr). AreThrough is after c.new_sets.result.items) third_ones c.new_sets.ensures.through)
