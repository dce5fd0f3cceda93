use Rattle.std.proofs.Common.{◌∙◌, ◌||◌, Bool, List, ap}
use Rattle.thumb_model.specs.Effect.{one_of}
use Rattle.thumb_model.specs.Listing.{code_of, places_of, labels_from, label_places, return_places}
use Rattle.kept_places.specs.Marks.{marked}
use Rattle.kept_places.proofs.Ranks.{unmarked}
use Rattle.code_flow.proofs.Marking.{points_marked}
use Rattle.code_flow.proofs.points.all_points.Goals as goal

pub returns-clause-points : goal.returns-clause-points
returns-clause-points c = points_marked (code_of c.args.listing.now) c.mark_lines.new.marks.items (λ q.
    c.mark_lines.ensures.marks q
    ∙ ap (λ t. t || one_of q (label_places (places_of c.args.listing.now) (labels_from 0 c.args.listing.now)) || one_of q (return_places 0 (places_of c.args.listing.now))) (ap (λ (ms : List Bool). marked ms q) (c.in_ok-marks.ensures.items_if_clones_equal (λ y e. e)) ∙ unmarked _ q))
