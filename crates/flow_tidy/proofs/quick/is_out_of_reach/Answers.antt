use Rattle.std.proofs.Common.{◌≡◌, ◌∙◌, ℕ, List, ap, subst, sym}
use Rattle.thumb_instr.specs.declared.instr.Instr.{Instr}
use Rattle.thumb_model.specs.Listing.{places_of, labels_from, ListingLine}
use Rattle.thumb_model.specs.Layout.{aim_fault}
use Rattle.thumb_model.specs.Steps.{label_place}
use Rattle.kept_places.specs.Marks.{rank}
use Rattle.listing_draft.specs.Drafted.{lines_now, Drafted}
use Rattle.flow_tidy.specs.Halves.{halves, IsBeyond}
use Rattle.flow_tidy.proofs.Safes.{never_possible}
use Rattle.flow_tidy.proofs.quick.is_out_of_reach.Goals as goal

-- a branch is beyond reach by the half-words of the definitions, where it is by those that the code counts
beyond : (d : Drafted) (p q half from to : ℕ) → from ≡ halves (places_of (lines_now d)) (rank d.gone p) → to ≡ halves (places_of (lines_now d)) (rank d.gone q) → IsBeyond half from to
    → IsBeyond half (halves (places_of (lines_now d)) (rank d.gone p)) (halves (places_of (lines_now d)) (rank d.gone q))
beyond d p q half from to e f h = subst (λ n. IsBeyond half n (halves (places_of (lines_now d)) (rank d.gone q))) e (subst (λ n. IsBeyond half from n) f h)

pub returns-in-BranchIf : goal.returns-in-BranchIf
returns-in-BranchIf c = λ t other.
    let d = c.args.draft.now in
    let name = c.in-Some-name.name.now in
    let label : ℕ = c.in-Some-label_place.label in
    let leads = sym (c.in-Some-label_place.ensures ∙ ap (λ (ls : List ListingLine). label_place name (labels_from 0 ls)) c.given.ensures) in
    let far = beyond d c.args.place label 128 c.halves_before-from.result c.halves_before-to.result c.halves_before-from.ensures.halves c.halves_before-to.ensures.halves (c.is_beyond.ensures t) in
    never_possible c.args.widest.now d c.args.place c.args.last label 128 c.in-Some.instr c.requires.safe c.requires.end name (sym c.in-Some-name.ensures) (sym c.in-Some.ensures) leads far
    (λ a to. ap (λ (i : Instr). aim_fault a i to 0) c.in-BranchIf.is) other

pub returns-in-Branch : goal.returns-in-Branch
returns-in-Branch c = λ t other.
    let d = c.args.draft.now in
    let name = c.in-Some-name.name.now in
    let label : ℕ = c.in-Some-label_place.label in
    let leads = sym (c.in-Some-label_place.ensures ∙ ap (λ (ls : List ListingLine). label_place name (labels_from 0 ls)) c.given.ensures) in
    let far = beyond d c.args.place label 1024 c.halves_before-from.result c.halves_before-to.result c.halves_before-from.ensures.halves c.halves_before-to.ensures.halves (c.is_beyond-in-Branch.ensures t) in
    never_possible c.args.widest.now d c.args.place c.args.last label 1024 c.in-Some.instr c.requires.safe c.requires.end name (sym c.in-Some-name.ensures) (sym c.in-Some.ensures) leads far
    (λ a to. ap (λ (i : Instr). aim_fault a i to 0) c.in-Branch.is) other
