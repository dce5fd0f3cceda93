use Rattle.std.proofs.Common.{◌<◌, length, arith, ap, ◌∙◌, sym, refl, inl, inr}
use Rattle.edited_listing.specs.Edited.{marks}
use Rattle.kept_places.specs.Marks.{marked, rank}
use Rattle.std.proofs.lemmas.Bool.{cases_lt}
use Rattle.window_rewrite.proofs.DueMarks.{marked_now, stay_both, stay_now}
use Rattle.window_rewrite.proofs.DuePlaces.{same_place}
use Rattle.window_rewrite.proofs.work_list.WorkList.add_up_to.Goals as goal

pub loop-passed-init : goal.loop-passed-init
loop-passed-init c =
    let w : c.args.place < length c.args.self.now.due = omega (arith, c.requires.within, c.requires.many) in
    record {
      due = stay_now c.args.self.now.due c.insert.new.self c.args.place w c.insert.ensures;
      within = c.requires.within;
      kept = c.requires.kept;
      passed = omega arith;
      reached = λ p k l h. ap (marked c.insert.new.self) (sym (same_place (marks c.args.scene.now.listing) c.args.place p c.requires.kept k (omega arith))) ∙ marked_now c.args.self.now.due c.insert.new.self c.args.place w c.insert.ensures;
      refused = refl;
      lost = refl;
    }

pub loop-passed-preserved : goal.loop-passed-preserved
loop-passed-preserved c =
    let i = c.loop-passed.invariant in
    let b = c.in-Some.ensures.some in
    let l : c.in-Some.before < c.loop-passed.at = b.0 in
    let w : c.in-Some.before < length c.loop-passed.self.due = omega (arith, l, i.within, c.requires.many, i.due.as_many) in
    let s = stay_now c.loop-passed.self.due c.insert-in-Some.new.self c.in-Some.before w c.insert-in-Some.ensures in
    record {
      due = stay_both c.args.self.now.due c.loop-passed.self.due c.insert-in-Some.new.self i.due s;
      within = omega (arith, l, i.within);
      kept = b.1;
      passed = omega (arith, b.2, i.passed);
      reached = λ p k from to. elim (cases_lt (rank (marks c.args.scene.now.listing) c.in-Some.before) (rank (marks c.args.scene.now.listing) p)) [
        | inl h ↦ s.stay p (i.reached p k (omega (arith, b.2, h)) to)
        | inr h ↦ ap (marked c.insert-in-Some.new.self) (sym (same_place (marks c.args.scene.now.listing) c.in-Some.before p b.1 k (omega arith))) ∙ marked_now c.loop-passed.self.due c.insert-in-Some.new.self c.in-Some.before w c.insert-in-Some.ensures
      ];
      refused = i.refused;
      lost = i.lost;
    }
