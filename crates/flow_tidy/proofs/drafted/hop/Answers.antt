use Rattle.std.proofs.Common.{◌∙◌, ap, sym}
use Rattle.std.specs.Prelude.{option_and_then}
use Rattle.thumb_model.specs.Listing.{code_of, place_of}
use Rattle.listing_draft.specs.Drafted.{lines_now, stands}
use Rattle.flow_tidy.specs.DuePlaces.{is_branch_always}
use Rattle.flow_tidy.proofs.Branches.{always_branch, always_other}
use Rattle.flow_tidy.proofs.drafted.hop.Goals as goal

pub returns-then-is_branch_always-clause-place : goal.returns-then-is_branch_always-clause-place
returns-then-is_branch_always-clause-place c =
    c.goes_to.ensures.place
    ∙ ap (option_and_then (place_of (code_of (lines_now c.args.draft.now)))) (sym (always_branch (stands c.args.draft.now c.args.place) (sym (c.is_branch_always.ensures ∙ ap is_branch_always c.instr.ensures) ∙ c.if-is_branch_always.true)))

pub returns-else-is_branch_always-clause-place : goal.returns-else-is_branch_always-clause-place
returns-else-is_branch_always-clause-place c =
    ap (option_and_then (place_of (code_of (lines_now c.args.draft.now)))) (sym (always_other (stands c.args.draft.now c.args.place) (sym (c.is_branch_always.ensures ∙ ap is_branch_always c.instr.ensures) ∙ c.if-is_branch_always.false)))
