use Rattle.std.proofs.Common.{◌≡◌, suc, false, length, subst, sym, ◌∙◌, ap, arith, inl, inr, ◌-◌, List, Bool, true≢false}
use Rattle.window_rewrite.specs.WorkList.{Reaches}
use Rattle.kept_places.proofs.Ranks.{marked_within}
use Rattle.edited_listing.specs.Edited.{marks}
use Rattle.kept_places.specs.Marks.{is_gone}
use Rattle.window_rewrite.proofs.DueMarks.{measure_taken, set_length, stay_both, taken_left}
use Rattle.window_rewrite.proofs.work_list.WorkList.add_lost.Goals as goal
use Rattle.window_rewrite.proofs.work_list.WorkList.add_lost.Goals.{else-place-gt0-via-then-place-gt0+else-not-is_gone, else-place-gt0-via-else-place-gt0}

pub is_gone-requires : goal.is_gone-requires
is_gone-requires c =
    let w = marked_within c.loop-place.self.lost c.in-Some.place c.in-Some.ensures.least.here in
    let i = c.loop-place.invariant in
    omega (arith, w, i.lost_many, c.requires.lost_many)

pub add_up_to-requires-clause-within : goal.add_up_to-requires-clause-within
add_up_to-requires-clause-within c =
    let w = marked_within c.loop-place.self.lost c.in-Some.place c.in-Some.ensures.least.here in
    let i = c.loop-place.invariant in
    omega (arith, w, i.lost_many, c.requires.lost_many)

pub loop-place-smaller-then-not-is_gone : goal.loop-place-smaller-then-not-is_gone
loop-place-smaller-then-not-is_gone c = measure_taken c.loop-place.self.lost c.add_up_to.new.self.lost c.in-Some.place c.in-Some.ensures.least (c.add_up_to.ensures.lost ∙ c.in-Some.ensures.taken)

pub loop-place-preserved-then-not-is_gone : goal.loop-place-preserved-then-not-is_gone
loop-place-preserved-then-not-is_gone c =
    let i = c.loop-place.invariant in
    let e = c.add_up_to.ensures in
    let now : c.add_up_to.new.self.lost ≡ _ = e.lost ∙ c.in-Some.ensures.taken in
    record {
      due = stay_both _ c.loop-place.self.due c.add_up_to.new.self.due i.due e.due;
      reached = λ p q l k r. elim (i.reached p q l k r) [
        | inl h ↦ inl (e.due.stay p h)
        | inr h ↦ elim (taken_left c.loop-place.self.lost c.add_up_to.new.self.lost c.in-Some.place (suc q) now h) [
          | inl f ↦ inl (e.reached p (subst (Reaches (marks c.args.scene.now.listing) c.args.longest p) (let g : q ≡ c.in-Some.place - 1 = omega arith in g) r))
          | inr t ↦ inr t
        ]
      ];
      lost_many = ap (λ (ms : List Bool). length ms) now ∙ set_length c.loop-place.self.lost c.in-Some.place false ∙ i.lost_many;
      refused = e.refused ∙ i.refused;
    }

pub loop-place-smaller : goal.loop-place-smaller
loop-place-smaller c = measure_taken c.loop-place.self.lost c.take_least.new.self c.in-Some.place c.in-Some.ensures.least c.in-Some.ensures.taken

pub loop-place-preserved : goal.loop-place-preserved
loop-place-preserved c =
    let i = c.loop-place.invariant in
    record {
      due = i.due;
      reached = λ p q l k r. elim (i.reached p q l k r) [
        | inl h ↦ inl h
        | inr h ↦ elim (taken_left c.loop-place.self.lost c.take_least.new.self c.in-Some.place (suc q) c.in-Some.ensures.taken h) [
          | inl f ↦ elim c.else-place-gt0.branch [
            | else-place-gt0-via-then-place-gt0+else-not-is_gone w ↦ absurd (let g : q ≡ c.in-Some.place - 1 = omega arith in true≢false (w.if-not-is_gone.ensures ∙ sym (ap (is_gone (marks c.args.scene.now.listing)) g) ∙ k))
            | else-place-gt0-via-else-place-gt0 w ↦ absurd (omega (arith, w.if-place-gt0.false, f))
          ]
          | inr t ↦ inr t
        ]
      ];
      lost_many = ap (λ (ms : List Bool). length ms) c.in-Some.ensures.taken ∙ set_length c.loop-place.self.lost c.in-Some.place false ∙ i.lost_many;
      refused = i.refused;
    }

pub returns-clause-reached : goal.returns-clause-reached
returns-clause-reached c = λ p q l k r. elim (c.loop-place.invariant.reached p q l k r) [
  | inl h ↦ h
  | inr h ↦ absurd (true≢false (sym h ∙ c.in_default.ensures.none (suc q)))
]
