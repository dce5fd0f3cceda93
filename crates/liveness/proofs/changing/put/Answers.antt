use Rattle.std.proofs.Common.{◌≡◌, ◌<◌, ◌+◌, ◌∙◌, List, length, Some, refl, sym, ap, arith}
use Rattle.std.specs.Prelude.{slice_get, slice_set}
use Rattle.std.proofs.lemmas.Option.{slice_get_read}
use Rattle.thumb_instr.specs.declared.items.Items.{Items}
use Rattle.liveness.specs.declared.kept.NewSets.{NewSets}
use Rattle.liveness.proofs.Replaced.{put_one}
use Rattle.liveness.proofs.changing.put.Goals as goal

pub loop-at-preserved : goal.loop-at-preserved
loop-at-preserved c =
    let p = c.args.place in
    let k = c.loop-at.at in
    let t : k < length c.args.new.now = c.loop-at-test.true in
    let one = c.index-new-at.result in
    let two = c.index-new-at-in-loop-at.result in
    let first : slice_get c.args.new.now k ≡ Some one = slice_get_read c.args.new.now _ k one refl t c.index-new-at.is in
    let second : slice_get c.args.new.now k ≡ Some two = slice_get_read c.args.new.now _ k two refl t c.index-new-at-in-loop-at.is in
    record {
      before =
          ap (λ (n : NewSets). slice_set c.loop-at.before.items (p + k) n.before) (sym c.index-new-at.is)
          ∙ ap (λ (xs : List Items). slice_set xs (p + k) one.before) c.loop-at.invariant.before
          ∙ put_one (λ (n : NewSets). n.before) p k c.args.before.now.items c.args.new.now one (omega (arith, t, c.requires.before)) first;
      after =
          ap (λ (n : NewSets). slice_set c.loop-at.after.items (p + k) n.after) (sym c.index-new-at-in-loop-at.is)
          ∙ ap (λ (xs : List Items). slice_set xs (p + k) two.after) c.loop-at.invariant.after
          ∙ put_one (λ (n : NewSets). n.after) p k c.args.after.now.items c.args.new.now two (omega (arith, t, c.requires.after)) second;
    }
