use Rattle.std.proofs.Common.{◌<◌, ◌∙◌, length, refl, arith, true}
use Rattle.std.proofs.lemmas.Option.{slice_get_read}
use Rattle.kept_places.proofs.Ranks.{marked_set}
use Rattle.code_flow.proofs.Marking.{marked_is}
use Rattle.code_flow.proofs.Reaches.{marks_more, still_reaching}
use Rattle.code_flow.proofs.reaching.Reaching.reach.Goals as goal
use Rattle.code_flow.proofs.reaching.Reaching.reach.Goals.{then-at-len-via-then-at-len, then-at-len-via-else-at-len+then-index}

pub returns-then-at-len-clause-here : goal.returns-then-at-len-clause-here
returns-then-at-len-clause-here c = λ l. elim c.then-at-len.branch [
  | then-at-len-via-then-at-len w ↦ absurd (omega (arith, l, w.if-at-len.true, c.len.ensures))
  | then-at-len-via-else-at-len+then-index w ↦
      marked_is c.args.self.now.marks.items c.args.place w.index.result.now (slice_get_read c.args.self.now.marks.items _ c.args.place w.index.result.now refl l w.index.ensures) ∙ w.if-index.true
]

pub returns-clause-reaching : goal.returns-clause-reaching
returns-clause-reaching c =
    let within : c.args.place < length c.args.self.now.marks.items = omega (arith, c.if-at-len.false, c.len.ensures) in
    λ code others r a.
    still_reaching code others c.args.self.now _ c.args.place
    (record {
      within = within;
      new = marked_is c.args.self.now.marks.items c.args.place c.index.result.now (slice_get_read c.args.self.now.marks.items _ c.args.place c.index.result.now refl within c.index.ensures) ∙ c.if-index.false;
      waits = c.in_ok-push.ensures.items;
      marks = refl;
    })
    r a

pub returns-clause-more : goal.returns-clause-more
returns-clause-more c =
    let within : c.args.place < length c.args.self.now.marks.items = omega (arith, c.if-at-len.false, c.len.ensures) in
    marks_more c.args.self.now _ c.args.place
    (record {
      within = within;
      new = marked_is c.args.self.now.marks.items c.args.place c.index.result.now (slice_get_read c.args.self.now.marks.items _ c.args.place c.index.result.now refl within c.index.ensures) ∙ c.if-index.false;
      waits = c.in_ok-push.ensures.items;
      marks = refl;
    })

pub returns-clause-here : goal.returns-clause-here
returns-clause-here c = λ l. marked_set c.args.self.now.marks.items c.args.place true l
