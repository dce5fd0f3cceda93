use Rattle.std.proofs.Common.{◌≡◌, ap, sym, subst, length, IfOk}
use Rattle.bit_blast.specs.Slots.{AreSlotsOver}
use Rattle.bit_blast.proofs.Inputs.{both_done}
use Rattle.bit_blast.proofs.sides.sides_from.Goals as goal

pub form_all-requires : goal.form_all-requires
form_all-requires c = subst (λ n. AreSlotsOver n c.args.left.now) (sym (ap (λ s. length s.r) c.in_ok-l.ensures)) c.requires.left

pub returns : goal.returns
returns c =
    let same = both_done c.args.symbol.now c.args.left.now c.args.right.now c.args.mask.items.bits c.args.builder.now c.form_all.new.builder c.form_all-2.new.builder c.args.start c.in_ok-l.l c.form_all.new.self c.form_all-2.new.self
    c.in_ok-l.ensures c.in_ok-form_all.ensures.exact c.in_ok-form_all-2.ensures.exact in
    subst (λ y. IfOk c.differences.result (λ f. (c.differences.new.builder, f.items) ≡ y)) same c.differences.ensures
