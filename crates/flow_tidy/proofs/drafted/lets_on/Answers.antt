use Rattle.std.proofs.Common.{◌≡◌, ◌∙◌, ◌+◌, ◌&&◌, true, ap, subst, sym}
use Rattle.std.specs.Prelude.{slice_get}
use Rattle.thumb_model.specs.Listing.{places_of}
use Rattle.kept_places.specs.Marks.{rank}
use Rattle.listing_draft.specs.Drafted.{instr_in, lines_now, stands, Drafted}
use Rattle.flow_tidy.specs.DuePlaces.{is_branch_always, is_branch_if}
use Rattle.flow_tidy.proofs.Hopping.{next_rank}
use Rattle.flow_tidy.proofs.drafted.lets_on.Goals as goal

pub returns-then-is_branch_if-clause-on : goal.returns-then-is_branch_if-clause-on
returns-then-is_branch_if-clause-on c =
    let d = c.args.draft.now in
    let r = rank d.gone c.args.place in
    let at : rank d.gone c.node-next.result ≡ r + 1 = next_rank d.gone c.args.place c.node-next.result c.requires.kept c.node-next.ensures.node in
    let first : is_branch_if (instr_in (stands d c.args.place)) ≡ true = subst (λ (x : Drafted). is_branch_if (instr_in (stands x c.args.place)) ≡ true) c.node-next.ensures.same (sym (c.is_branch_if.ensures ∙ ap is_branch_if c.instr.ensures) ∙ c.if-is_branch_if.true) in
    let second : c.is_branch_always.result ≡ is_branch_always (instr_in (stands d c.node-next.result)) = subst (λ (x : Drafted). c.is_branch_always.result ≡ is_branch_always (instr_in (stands x c.node-next.result))) c.node-next.ensures.same (c.is_branch_always.ensures ∙ ap is_branch_always c.instr_at.ensures) in
    second
    ∙ ap (λ n. is_branch_always (instr_in (slice_get (places_of (lines_now d)) n))) at
    ∙ sym (ap (λ b. b && is_branch_always (instr_in (slice_get (places_of (lines_now d)) (r + 1)))) first)
