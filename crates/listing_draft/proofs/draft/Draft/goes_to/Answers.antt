use Rattle.std.proofs.Common.{◌≤◌, ◌∙◌, true, false, length, ap, arith, subst, sym}
use Rattle.std.specs.Prelude.{slice_get}
use Rattle.kept_places.specs.Marks.{IsNode}
use Rattle.thumb_model.specs.Listing.{is_op_place, places_of}
use Rattle.listing_draft.specs.Drafted.{name_in, stands, Drafted}
use Rattle.listing_draft.specs.Invariant.{IsDraft}
use Rattle.listing_draft.proofs.Drafts.{found_within, leads_nowhere, leads_on, op_within}
use Rattle.listing_draft.proofs.draft.Draft.goes_to.Goals as goal

pub returns-in-None-clause-place : goal.returns-in-None-clause-place
returns-in-None-clause-place c =
    let held = subst IsDraft c.self.view_is c.self.invariant.draft in
    sym (leads_nowhere c.args.self.now (name_in (stands c.args.self.now c.args.place)) held (sym c.label_place.ensures ∙ c.in-None.is))

pub node-node-requires : goal.node-node-requires
node-node-requires c =
    let held = subst IsDraft c.self.view_is c.self.invariant.draft in
    let within : c.in-Some.label ≤ length c.args.self.now.gone = found_within c.args.self.now (name_in (stands c.args.self.now c.args.place)) c.in-Some.label held (sym c.label_place.ensures ∙ c.in-Some.is) in
    omega (arith, within, ap (λ (d : Drafted). length d.gone) c.self.view_is)

pub returns-then-not-is_op-clause-place : goal.returns-then-not-is_op-clause-place
returns-then-not-is_op-clause-place c =
    let held = subst IsDraft c.self.view_is c.self.invariant.draft in
    let node = subst (λ (d : Drafted). IsNode d.gone c.in-Some.label c.node-node.result) c.self.view_is c.node-node.ensures.node in
    let op = sym c.if-not-is_op.true ∙ c.is_op.ensures ∙ ap (λ (d : Drafted). is_op_place (slice_get (places_of d.given) c.node-node.result)) c.self.view_is in
    sym (leads_on c.args.self.now (name_in (stands c.args.self.now c.args.place)) c.in-Some.label c.node-node.result held (sym c.label_place.ensures ∙ c.in-Some.is) node false op)

pub returns-else-not-is_op-clause-place : goal.returns-else-not-is_op-clause-place
returns-else-not-is_op-clause-place c =
    let held = subst IsDraft c.self.view_is c.self.invariant.draft in
    let node = subst (λ (d : Drafted). IsNode d.gone c.in-Some.label c.node-node.result) c.self.view_is c.node-node.ensures.node in
    let op = sym c.if-not-is_op.false ∙ c.is_op.ensures ∙ ap (λ (d : Drafted). is_op_place (slice_get (places_of d.given) c.node-node.result)) c.self.view_is in
    sym (leads_on c.args.self.now (name_in (stands c.args.self.now c.args.place)) c.in-Some.label c.node-node.result held (sym c.label_place.ensures ∙ c.in-Some.is) node true op)

pub returns-else-not-is_op-clause-within : goal.returns-else-not-is_op-clause-within
returns-else-not-is_op-clause-within c =
    let held = subst IsDraft c.self.view_is c.self.invariant.draft in
    let op = sym c.if-not-is_op.false ∙ c.is_op.ensures ∙ ap (λ (d : Drafted). is_op_place (slice_get (places_of d.given) c.node-node.result)) c.self.view_is in
    op_within c.args.self.now c.node-node.result held (sym op)
