use Rattle.std.proofs.Common.{◌∙◌, ◌<◌, length, false, List, Bool, true, subst, sym, arith, inl, inr, ap, set}
use Rattle.kept_places.specs.Marks.{marked}
use Rattle.kept_places.proofs.Ranks.{marked_set, marked_within}
use Rattle.window_rewrite.specs.WorkList.{StayMarked}
use Rattle.window_rewrite.proofs.DueMarks.{measure_taken, set_length, stay_both, stay_set, taken_left}
use Rattle.window_rewrite.proofs.work_list.WorkList.add_refused.Goals as goal

pub insert-requires : goal.insert-requires
insert-requires c =
    let w = marked_within c.loop-place.self.refused c.in-Some.place c.in-Some.ensures.least.here in
    let i = c.loop-place.invariant in
    omega (arith, w, i.refused_many, i.due.as_many, c.requires.many)

pub loop-place-smaller : goal.loop-place-smaller
loop-place-smaller c = measure_taken c.loop-place.self.refused c.take_least.new.self c.in-Some.place c.in-Some.ensures.least c.in-Some.ensures.taken

pub loop-place-preserved : goal.loop-place-preserved
loop-place-preserved c =
    let i = c.loop-place.invariant in
    let w = marked_within c.loop-place.self.refused c.in-Some.place c.in-Some.ensures.least.here in
    let within : c.in-Some.place < length c.loop-place.self.due = omega (arith, w, i.refused_many, i.due.as_many, c.requires.many) in
    let more : StayMarked c.loop-place.self.due c.insert.new.self = subst (λ (ms : List Bool). StayMarked c.loop-place.self.due ms) (sym c.insert.ensures) (stay_set c.loop-place.self.due c.in-Some.place within) in
    record {
      due = stay_both _ c.loop-place.self.due c.insert.new.self i.due more;
      reached = λ p h. elim (i.reached p h) [
        | inl d ↦ inl (more.stay p d)
        | inr r ↦ elim (taken_left c.loop-place.self.refused c.take_least.new.self c.in-Some.place p c.in-Some.ensures.taken r) [
          | inl e ↦ inl (ap (λ (ms : List Bool). marked ms p) c.insert.ensures ∙ ap (marked (set c.loop-place.self.due c.in-Some.place true)) e ∙ marked_set c.loop-place.self.due c.in-Some.place true within)
          | inr l ↦ inr l
        ]
      ];
      refused_many = ap (λ (ms : List Bool). length ms) c.in-Some.ensures.taken ∙ set_length c.loop-place.self.refused c.in-Some.place false ∙ i.refused_many;
      lost = i.lost;
    }
