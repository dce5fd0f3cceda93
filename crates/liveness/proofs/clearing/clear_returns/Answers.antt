use Rattle.std.proofs.Common.{◌∙◌, get_or, add-one, ap, sym, subst, inl, inr}
use Rattle.thumb_instr.specs.Items.{has}
use Rattle.liveness.specs.Live.{set_at}
use Rattle.liveness.specs.Graph.{ways_at}
use Rattle.liveness.specs.Passing.{passes_points, Keeps}
use Rattle.liveness.proofs.Callers.{among, one_taken}
use Rattle.liveness.proofs.Walks.{clears_on}
use Rattle.liveness.proofs.clearing.clear_returns.Goals as goal

pub clear_return-requires-clause-before : goal.clear_return-requires-clause-before
clear_return-requires-clause-before c = c.requires.returns (get_or c.args.returns.now c.loop-place.place-index 0) (among c.args.returns.now c.loop-place.place-index c.loop-place-test.true)

pub loop-place-preserved : goal.loop-place-preserved
loop-place-preserved c = record {
  fit = c.clear_return.ensures.fit;
  on = clears_on c.args.walk.now c.loop-place.walk c.clear_return.new.walk c.loop-place.invariant.on c.clear_return.ensures.on;
  told = λ p x o i q b. elim (one_taken p c.args.returns.now c.loop-place.place-index c.loop-place-test.true (rw add-one at o)) [
    | inl h ↦ c.loop-place.invariant.told p x h i q (c.clear_return.ensures.on.fewer p x b)
    | inr e ↦ subst (λ y. Keeps c.args.ways.now c.args.forward.now y x) (sym e) (c.clear_return.ensures.told x i (ap (λ y. passes_points (ways_at c.args.ways.now y) x) (sym e) ∙ q) (ap (λ y. has (set_at c.clear_return.new.walk.before.sets.items y) x) (sym e) ∙ b))
  ];
}
