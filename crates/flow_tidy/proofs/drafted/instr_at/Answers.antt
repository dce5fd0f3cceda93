use Rattle.std.proofs.Common.{◌≡◌, ◌∙◌, None, sym, ap, arith}
use Rattle.thumb_model.specs.Listing.{places_of}
use Rattle.listing_draft.specs.Drafted.{aim_at, instr_in, stands}
use Rattle.listing_draft.proofs.Stands.{aimed_to, stands_at}
use Rattle.flow_tidy.proofs.drafted.instr_at.Goals as goal
use Rattle.std.proofs.lemmas.Option.{slice_get_past}

pub returns-then-place-place_count : goal.returns-then-place-place_count
returns-then-place-place_count c =
    let d = c.args.draft.now in
    let h = c.place_count.ensures.draft in
    let many = h.marks in
    let none : stands d c.args.place ≡ None =
    stands_at d.given d.gone d.aims c.args.place h.ops c.requires.kept
    ∙ ap (λ o. aimed_to o (aim_at d.aims c.args.place)) (slice_get_past (places_of d.given) c.args.place (omega (arith, many, c.place_count.ensures.count, c.if-place-place_count.true))) in
    ap instr_in (sym none)
