use Rattle.std.proofs.Common.{◌≡◌, ◌∙◌, true, false, sym}
use Rattle.thumb_model.specs.Listing.{code_of}
use Rattle.kept_places.specs.Marks.{rank}
use Rattle.listing_draft.specs.Drafted.{lines_now}
use Rattle.flow_tidy.proofs.Draftings.{taken_quick}
use Rattle.flow_tidy.proofs.Quickly.{no_cause, soonest_idle}
use Rattle.flow_tidy.proofs.quick.change_idle.Goals as goal

pub returns-then-is_idle-clause-outcome : goal.returns-then-is_idle-clause-outcome
returns-then-is_idle-clause-outcome c =
    let d = c.args.draft.now in
    soonest_idle c.args.widest.now.base (lines_now d) (lines_now c.leave.new.draft) (rank d.gone c.args.place) c.requires.later c.requires.refused (c.is_idle.ensures.0 c.if-is_idle.true) c.leave.ensures.lines

pub returns-then-not-is_refused-clause-quick : goal.returns-then-not-is_refused-clause-quick
returns-then-not-is_refused-clause-quick c =
    let d = c.args.draft.now in
    let never = no_cause (code_of (lines_now d)) (rank d.gone c.args.place) c.requires.later (c.requires.end c.if-not-is_refused.true) (λ i. let no : true ≡ false = sym (c.is_idle.ensures.1 i) ∙ c.if-is_idle.false in absurd (cc)) in
    taken_quick d c.args.place c.args.reached.now c.args.due.now c.take.new.self c.requires.kept never c.take.ensures c.requires.quick
