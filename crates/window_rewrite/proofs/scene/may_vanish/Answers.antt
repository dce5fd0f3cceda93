use Rattle.std.proofs.Common.{[], refl}
use Rattle.thumb_model.specs.Listing.{labels_from, places_of}
use Rattle.kept_places.specs.Marks.{rank}
use Rattle.edited_listing.specs.Edited.{lines_now, marks}
use Rattle.window_rewrite.proofs.Scenes.{settled_labelled, settled_unlabelled}
use Rattle.window_rewrite.proofs.scene.may_vanish.Goals as goal

pub returns-then-not-is_labelled-clause-settled : goal.returns-then-not-is_labelled-clause-settled
returns-then-not-is_labelled-clause-settled c =
    (λ _. settled_unlabelled c.is_labelled.result (places_of (lines_now c.args.listing.now)) (labels_from 0 (lines_now c.args.listing.now)) (rank (marks c.args.listing.now) c.args.place) c.args.count [] c.is_labelled.ensures c.if-not-is_labelled.true, λ _. refl)

pub returns-clause-settled : goal.returns-clause-settled
returns-clause-settled c =
    settled_labelled c.is_op_behind.result c.is_labelled.result (places_of (lines_now c.args.listing.now)) (labels_from 0 (lines_now c.args.listing.now)) (rank (marks c.args.listing.now) c.args.place) c.args.count c.is_labelled.ensures c.if-not-is_labelled.false c.is_op_behind.ensures.op
