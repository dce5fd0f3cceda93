use Rattle.std.proofs.Common.{◌∙◌, refl, true}
use Rattle.std.proofs.lemmas.Option.{slice_get_read}
use Rattle.kept_places.proofs.Ranks.{marked_set}
use Rattle.code_flow.proofs.Marking.{marked_is}
use Rattle.liveness.proofs.Waits.{pushed}
use Rattle.liveness.proofs.waiting.Waiting.push.Goals as goal

pub returns-then-index-clause-here : goal.returns-then-index-clause-here
returns-then-index-clause-here c =
    marked_is c.args.self.now.marks.items c.args.place c.index.result.now (slice_get_read c.args.self.now.marks.items _ c.args.place c.index.result.now refl c.requires.place c.index.ensures) ∙ c.if-index.true

pub returns-clause-more : goal.returns-clause-more
returns-clause-more c =
    pushed c.args.self.now _ c.args.place c.requires.waiting c.requires.place
    (marked_is c.args.self.now.marks.items c.args.place c.index.result.now (slice_get_read c.args.self.now.marks.items _ c.args.place c.index.result.now refl c.requires.place c.index.ensures) ∙ c.if-index.false) refl c.in_ok-push.ensures.items refl

pub returns-clause-here : goal.returns-clause-here
returns-clause-here c = marked_set c.args.self.now.marks.items c.args.place true c.requires.place
