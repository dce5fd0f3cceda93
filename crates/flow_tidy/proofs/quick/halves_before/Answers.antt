use Rattle.std.proofs.Common.{◌≡◌, ◌+◌, ◌∙◌, length, get_or, ap, arith, List, ℕ}
use Rattle.std.proofs.lemmas.Option.{get_or_from_slice_get}
use Rattle.thumb_model.specs.Listing.{places_of}
use Rattle.flow_tidy.specs.Halves.{wide_count, wides_before}
use Rattle.flow_tidy.proofs.Halves.{get_wides, wide_kept, wides_length}
use Rattle.flow_tidy.proofs.quick.halves_before.Goals as goal

pub index-requires : goal.index-requires
index-requires c =
    let s = c.requires.safe in
    let many = wides_length 0 (places_of c.args.draft.now.given) in
    omega (arith, ap length s.widest.wide, many, s.draft.marks, c.args.widest.now.wide.ok, c.requires.within)

pub returns-clause-halves : goal.returns-clause-halves
returns-clause-halves c =
    let s = c.requires.safe in
    let ps = places_of c.args.draft.now.given in
    let p : ℕ = c.args.place in
    let at = get_wides 0 ps p (omega (arith, s.draft.marks, c.requires.within)) in
    let read : c.index.result.now ≡ 0 + wide_count ps p =
    c.index.ensures ∙ ap (λ (xs : List ℕ). get_or xs p c.index.result.now) s.widest.wide ∙ get_or_from_slice_get (wides_before 0 ps) p (0 + wide_count ps p) c.index.result.now at in
    let now = wide_kept c.args.draft.now s.draft s.narrow p in
    omega (arith, c.number.ensures, read, now)
