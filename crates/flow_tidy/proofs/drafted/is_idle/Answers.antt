use Rattle.std.proofs.Common.{◌∙◌, sym}
use Rattle.thumb_model.specs.Listing.{code_of}
use Rattle.kept_places.specs.Marks.{rank}
use Rattle.listing_draft.specs.Drafted.{lines_now}
use Rattle.flow_tidy.proofs.Hopping.{idle_mark}
use Rattle.flow_tidy.proofs.Lefts.{left_at}
use Rattle.flow_tidy.proofs.drafted.is_idle.Goals as goal

pub returns-then-not-is_call : goal.returns-then-not-is_call
returns-then-not-is_call c =
    let d = c.args.draft.now in
    let r = rank d.gone c.args.place in
    idle_mark (code_of (lines_now d)) r c.in-Some.instr c.at.result (sym c.in-Some.ensures) (sym c.is_call.ensures ∙ c.if-not-is_call.true)
    (c.requires.reached.says r c.at.result (left_at d.gone c.args.reached.now c.args.place c.requires.kept ∙ c.at.ensures))
