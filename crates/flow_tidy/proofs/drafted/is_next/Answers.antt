use Rattle.std.proofs.Common.{◌≡◌, arith, sym}
use Rattle.std.proofs.lemmas.Bool.{eqb-true}
use Rattle.std.proofs.lemmas.Bool.Decides.{nat_tests}
use Rattle.thumb_model.specs.Listing.{code_of}
use Rattle.kept_places.specs.Marks.{rank}
use Rattle.listing_draft.specs.Drafted.{lines_now}
use Rattle.flow_tidy.proofs.Hopping.{is_next, node_next, not_before}
use Rattle.flow_tidy.proofs.drafted.is_next.Goals as goal

pub returns-then-to-place-clause-next : goal.returns-then-to-place-clause-next
returns-then-to-place-clause-next c =
    let d = c.args.draft.now in
    let is = is_next (code_of (lines_now d)) (rank d.gone c.args.place) (rank d.gone c.args.to) (sym c.requires.goes.is) in
    (λ t. absurd (cc), λ g. absurd (not_before d.gone c.args.place c.args.to (omega arith) (is.1 g)))

pub returns-clause-next : goal.returns-clause-next
returns-clause-next c =
    let d = c.args.draft.now in
    let is = is_next (code_of (lines_now d)) (rank d.gone c.args.place) (rank d.gone c.args.to) (sym c.requires.goes.is) in
    let next = node_next d.gone c.args.place c.args.to c.node.result c.requires.kept c.requires.goes.kept c.node.ensures.node (omega arith) in (
      λ t. is.0 (next.0 (eqb-true c.node.result c.args.to t)),
      λ g. let same : c.node.result ≡ c.args.to = next.1 (is.1 g) in grind (arith, nat_tests),
    )
