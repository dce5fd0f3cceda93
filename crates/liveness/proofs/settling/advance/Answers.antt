use Rattle.std.proofs.Common.{◌≡◌, ◌∙◌, Some, List, refl, ap, inl, inr, arith}
use Rattle.std.specs.Prelude.{slice_get}
use Rattle.std.proofs.lemmas.Option.{slice_get_read}
use Rattle.thumb_instr.specs.declared.items.Items.{Items}
use Rattle.thumb_instr.specs.Items.{one_of}
use Rattle.thumb_model.specs.Listing.{code_of}
use Rattle.liveness.specs.Live.{set_at}
use Rattle.liveness.proofs.Jumps.{is_within}
use Rattle.liveness.proofs.Settles.{visited}
use Rattle.liveness.proofs.Waits.{more_same, more_on}
use Rattle.liveness.proofs.settling.advance.Goals as goal

pub returns-then-not-grew-clause-settling : goal.returns-then-not-grew-clause-settling
returns-then-not-grew-clause-settling g c =
    let all = c.args.ways.now in
    let v = c.visit-grew.ensures in
    let at : slice_get all c.args.place ≡ Some c.index-ways-at.result = slice_get_read all _ c.args.place c.index-ways-at.result refl c.requires.place c.index-ways-at.is in
    let point : slice_get c.args.graph.now.is_point.items c.args.place ≡ Some c.index.result.now = slice_get_read c.args.graph.now.is_point.items _ c.args.place c.index.result.now refl (omega (arith, c.requires.place, c.requires.graph.marks)) c.index.ensures in
    let idle = v.visit.idle c.if-not-grew.true in
    visited (code_of c.args.listing.now) all c.args.graph.now c.index-ways-at.result c.index.result.now c.args.place c.args.found.now c.visit-grew.new.found c.args.waiting.now c.args.waiting.now c.visit-grew.result c.requires.graph at point c.requires.settling v.visit v.before_len v.after_len
    (more_same c.args.waiting.now c.requires.settling.waiting) (λ q h. inl (ap (λ (b : List Items). set_at b c.args.place) idle.0)) (λ q h. inl idle.1)

pub returns-then-found-points-clause-settling : goal.returns-then-found-points-clause-settling
returns-then-found-points-clause-settling g c =
    let all = c.args.ways.now in
    let v = c.visit-grew.ensures in
    let at : slice_get all c.args.place ≡ Some c.index-ways-at.result = slice_get_read all _ c.args.place c.index-ways-at.result refl c.requires.place c.index-ways-at.is in
    let point : slice_get c.args.graph.now.is_point.items c.args.place ≡ Some c.index.result.now = slice_get_read c.args.graph.now.is_point.items _ c.args.place c.index.result.now refl (omega (arith, c.requires.place, c.requires.graph.marks)) c.index.ensures in
    visited (code_of c.args.listing.now) all c.args.graph.now c.index-ways-at.result c.index.result.now c.args.place c.args.found.now c.visit-grew.new.found c.args.waiting.now c.tell_leading.new.waiting c.visit-grew.result c.requires.graph at point c.requires.settling v.visit v.before_len v.after_len
    c.in_ok-tell_leading.ensures.more (λ q h. inr (c.in_ok-tell_leading.ensures.told q h)) (λ q h. inl c.if-found-points.true)

pub returns-clause-settling : goal.returns-clause-settling
returns-clause-settling g c =
    let all = c.args.ways.now in
    let v = c.visit-grew.ensures in
    let at : slice_get all c.args.place ≡ Some c.index-ways-at.result = slice_get_read all _ c.args.place c.index-ways-at.result refl c.requires.place c.index-ways-at.is in
    let point : slice_get c.args.graph.now.is_point.items c.args.place ≡ Some c.index.result.now = slice_get_read c.args.graph.now.is_point.items _ c.args.place c.index.result.now refl (omega (arith, c.requires.place, c.requires.graph.marks)) c.index.ensures in
    let more = c.in_ok-tell_returns.ensures.more in
    visited (code_of c.args.listing.now) all c.args.graph.now c.index-ways-at.result c.index.result.now c.args.place c.args.found.now c.visit-grew.new.found c.args.waiting.now c.tell_returns.new.waiting c.visit-grew.result c.requires.graph at point c.requires.settling v.visit v.before_len v.after_len
    (more_on c.args.waiting.now c.tell_leading.new.waiting c.tell_returns.new.waiting c.in_ok-tell_leading.ensures.more more) (λ q h. inr (more.kept q (c.in_ok-tell_leading.ensures.told q h)))
    (λ q h. inr (c.in_ok-tell_returns.ensures.told q (ap (one_of q) c.as_slice.ensures.value ∙ c.requires.graph.returns.all_of_them q (is_within all q h) h)))
