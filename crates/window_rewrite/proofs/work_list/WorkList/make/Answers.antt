use Rattle.std.proofs.Common.{◌≡◌, List, Bool, ℕ, length, take, ap, ◌∙◌, sym, subst, inr, arith}
use Rattle.std.specs.Prelude.{slice_get}
use Rattle.kept_places.specs.Marks.{marked}
use Rattle.edited_listing.specs.Edited.{marks}
use Rattle.thumb_model.proofs.Lists.{take_all}
use Rattle.padded_code.specs.Windows.{AreRanked}
use Rattle.window_rewrite.specs.WorkList.{StayMarked}
use Rattle.window_rewrite.proofs.DueMarks.{stay_both}
use Rattle.window_rewrite.proofs.DuePlaces.{ranked_at, taken_ranked}
use Rattle.window_rewrite.proofs.DueScenes.{choice_within, marks_many, tried_again, AreDueAgain}
use Rattle.window_rewrite.proofs.work_list.WorkList.make.Goals as goal

pub slice_bounds-add-end : goal.slice_bounds-add-end
slice_bounds-add-end c =
    let q = c.requires in
    let w = choice_within c.args.rules.now c.args.scene.now c.args.site.now c.args.choice.now q.ready q.site q.is q.here in
    let many = ap (λ (ps : List ℕ). length ps) c.as_slice.ensures.value in
    sym (take_all c.len.result c.as_slice.result.now (omega (arith, w, many, q.site.as_many, c.len.ensures.value)))

pub add-requires : goal.add-requires
add-requires c =
    let q = c.requires in
    let ranked : AreRanked (marks c.args.scene.now.listing) c.args.site.now.number (take c.len.result c.as_slice.result.now) =
    subst (λ (ps : List ℕ). AreRanked (marks c.args.scene.now.listing) c.args.site.now.number (take c.len.result ps)) (sym c.as_slice.ensures.value)
    (taken_ranked (marks c.args.scene.now.listing) c.args.site.now.number c.len.result c.args.site.now.run.places.items q.site.places) in
    record {
      within = λ k p e.
          let t = ranked_at (marks c.args.scene.now.listing) c.args.site.now.number (take c.len.result c.as_slice.result.now) ranked k p e in
          omega (arith, t.within, marks_many c.args.scene.now.listing, q.tried.are.due_many);
    }

pub make-requires-clause-within : goal.make-requires-clause-within
make-requires-clause-within c = let q = c.requires in choice_within c.args.rules.now c.args.scene.now c.args.site.now c.args.choice.now q.ready q.site q.is q.here

pub returns-clause-tried : goal.returns-clause-tried
returns-clause-tried c =
    let q = c.requires in
    let made = c.in_ok-make.ensures in
    let w = choice_within c.args.rules.now c.args.scene.now c.args.site.now c.args.choice.now q.ready q.site q.is q.here in
    let same : take c.len.result c.as_slice.result.now ≡ take (length c.args.choice.now.window) c.args.site.now.run.places.items =
    ap (λ n. take n c.as_slice.result.now) c.len.ensures.value ∙ ap (λ (ps : List ℕ). take (length c.args.choice.now.window) ps) c.as_slice.ensures.value in
    let first : StayMarked c.args.self.now.due c.add.new.self.due = c.add.ensures.due in
    let second : StayMarked c.args.self.now.due c.add_up_to.new.self.due = stay_both c.args.self.now.due c.add.new.self.due c.add_up_to.new.self.due first c.add_up_to.ensures.due in
    let behind : StayMarked c.add_up_to.new.self.due c.add_refused.new.self.due = stay_both c.add_up_to.new.self.due c.add_lost.new.self.due c.add_refused.new.self.due c.add_lost.ensures.due c.add_refused.ensures.due in
    let again : AreDueAgain c.args.rules.now.longest c.args.scene.now c.make.new.self (take (length c.args.choice.now.window) c.args.site.now.run.places.items) c.args.site.now.place c.args.self.now c.add_refused.new.self c.make.new.lost = record {
      stay = stay_both c.args.self.now.due c.add_up_to.new.self.due c.add_refused.new.self.due second behind;
      window = λ k p e. behind.stay p (c.add_up_to.ensures.due.stay p (c.add.ensures.these k p (ap (λ (ps : List ℕ). slice_get ps k) same ∙ e)));
      before = λ p h. behind.stay p (c.add_up_to.ensures.reached p h);
      behind = λ p k h g r. c.add_refused.ensures.due.stay p (c.add_lost.ensures.reached p k h g r);
      are_lost = λ p l. (made.lost p).1 (inr l);
      refused = λ p h. c.add_refused.ensures.reached p (ap (λ (ms : List Bool). marked ms p) (c.add_lost.ensures.refused ∙ c.add_up_to.ensures.refused ∙ c.add.ensures.refused) ∙ h);
      are = record {
        due_many = (stay_both c.args.self.now.due c.add_up_to.new.self.due c.add_refused.new.self.due second behind).as_many ∙ q.tried.are.due_many ∙ sym made.many;
        refused_many = c.add_refused.ensures.refused_many ∙ ap (λ (ms : List Bool). length ms) (c.add_lost.ensures.refused ∙ c.add_up_to.ensures.refused ∙ c.add.ensures.refused) ∙ q.tried.are.refused_many ∙ sym made.many;
        lost_many = ap (λ (ms : List Bool). length ms) c.add_refused.ensures.lost ∙ c.add_lost.ensures.lost_many ∙ made.room ∙ ap (λ (ms : List Bool). length ms) (c.add_up_to.ensures.lost ∙ c.add.ensures.lost) ∙ q.tried.are.lost_many ∙ sym made.many;
        none_lost = λ p. ap (λ (ms : List Bool). marked ms p) c.add_refused.ensures.lost ∙ c.add_lost.ensures.none_lost p;
      };
    } in
    tried_again c.args.rules.now c.args.scene.now c.make.new.self c.args.site.now c.args.choice.now (record {
      ready = q.ready;
      old_kept = q.over.kept;
      new_kept = made.over.kept;
      site = q.site;
      is = q.is;
      here = q.here;
      within = omega (arith, w, q.site.as_many);
      lines = made.lines;
      many = made.many;
      gone = made.gone;
      is_padded = made.padded;
    }) c.args.self.now c.add_refused.new.self c.make.new.lost q.tried again
