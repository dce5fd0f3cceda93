use Rattle.std.proofs.Common.{◌∙◌, Some, ap, refl}
use Rattle.thumb_model.specs.Listing.{code_of}
use Rattle.listing_draft.specs.Drafted.{lines_now}
use Rattle.flow_tidy.proofs.Quickly.{not_due}
use Rattle.flow_tidy.proofs.quick.change_if_due.Goals as goal

pub returns-then-not-has-clause-outcome : goal.returns-then-not-has-clause-outcome
returns-then-not-has-clause-outcome c =
    let d = c.args.draft.now in
    (refl, λ kept o q. not_due d.gone c.args.due.now c.args.place (code_of (lines_now d)) (c.has.ensures ∙ ap Some c.if-not-has.true) c.requires.quick.due kept (record { cause = o; is = q.cause }))
