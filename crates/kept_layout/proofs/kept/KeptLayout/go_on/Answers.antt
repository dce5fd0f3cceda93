use Rattle.std.proofs.Common.{◌∙◌, List, length, refl, ap, arith}
use Rattle.std.proofs.lemmas.Option.{slice_get_read}
use Rattle.kept_layout.specs.declared.kept.KeptLayout.{KeptLayout}
use Rattle.kept_layout.specs.declared.block.Block.{Block}
use Rattle.kept_layout.proofs.MovingPlaces.{on_one, within_near, last_near}
use Rattle.kept_layout.proofs.kept.KeptLayout.go_on.Goals as goal

pub loop-self-preserved-then-leap_on : goal.loop-self-preserved-then-leap_on
loop-self-preserved-then-leap_on c = record {
  laid = c.leap_on.ensures.laid;
  blocks = c.leap_on.ensures.blocks ∙ c.loop-self.invariant.blocks;
  base = c.leap_on.ensures.base ∙ c.loop-self.invariant.base;
  count = let same = ap (λ (x : List Block). length x) c.leap_on.ensures.blocks in omega (arith, same, c.loop-self.invariant.count);
  from = c.leap_on.ensures.from;
}

pub loop-self-preserved : goal.loop-self-preserved
loop-self-preserved c =
    let k = c.leap_on.new.self in
    let laid = c.leap_on.ensures.laid in
    let stays = ap (λ (x : KeptLayout). x.here) (c.leap_on.ensures.stays c.if-leap_on.false) in
    let same = ap (λ (x : List Block). length x) c.leap_on.ensures.blocks in
    let count = c.loop-self.invariant.count in
    let here = slice_get_read k.blocks.items (length k.blocks.items) k.here c.index.result.now refl laid.here c.index.ensures in
    record {
      laid = on_one k c.index.result.now laid (omega arith) here;
      blocks = c.leap_on.ensures.blocks ∙ c.loop-self.invariant.blocks;
      base = c.leap_on.ensures.base ∙ c.loop-self.invariant.base;
      count = omega arith;
      from = let from = c.leap_on.ensures.from in omega arith;
    }

pub returns-then-place-self-clause-near : goal.returns-then-place-self-clause-near
returns-then-place-self-clause-near c =
    let k = c.leap_on.new.self in
    let within = c.leap_on.ensures.laid.here in
    let here = slice_get_read k.blocks.items (length k.blocks.items) k.here c.index.result.now refl within c.index.ensures in
    within_near k c.index.result.now c.args.place c.leap_on.ensures.from here c.if-place-self.true

pub returns-clause-near : goal.returns-clause-near
returns-clause-near c = last_near c.loop-self.self c.args.place c.loop-self.invariant.laid c.loop-self.invariant.from (omega arith)
