use Rattle.std.proofs.Common.{◌∙◌, ◌-◌, length, refl, ap, arith}
use Rattle.std.proofs.lemmas.Option.{slice_get_read}
use Rattle.kept_layout.specs.declared.kept.KeptLayout.{KeptLayout}
use Rattle.kept_layout.proofs.MovingPlaces.{back_one, not_first}
use Rattle.kept_layout.proofs.kept.KeptLayout.go_back.Goals as goal

pub overflow_sub-self : goal.overflow_sub-self
overflow_sub-self c =
    let k = c.leap_back.new.self in
    let stays = ap (λ (x : KeptLayout). x.first) (c.leap_back.ensures.stays c.if-leap_back.false) in
    let some = not_first k c.leap_back.ensures.laid (omega arith) in
    let within = c.leap_back.ensures.laid.here in
    let before = slice_get_read k.blocks.items (length k.blocks.items) (k.here - 1) c.index.result.now refl (omega arith) c.index.ensures in
    (back_one k c.index.result.now c.leap_back.ensures.laid (omega arith) before).0

pub loop-self-preserved : goal.loop-self-preserved
loop-self-preserved c =
    let k = c.leap_back.new.self in
    let stays = ap (λ (x : KeptLayout). x.first) (c.leap_back.ensures.stays c.if-leap_back.false) in
    let some = not_first k c.leap_back.ensures.laid (omega arith) in
    let within = c.leap_back.ensures.laid.here in
    let before = slice_get_read k.blocks.items (length k.blocks.items) (k.here - 1) c.index.result.now refl (omega arith) c.index.ensures in
    record {
      laid = (back_one k c.index.result.now c.leap_back.ensures.laid (omega arith) before).1;
      blocks = c.leap_back.ensures.blocks ∙ c.loop-self.invariant.blocks;
      base = c.leap_back.ensures.base ∙ c.loop-self.invariant.base;
    }
