use Rattle.std.proofs.Common.{◌∙◌, ◌≤◌, ◌^◌, Option, length, map, ap, arith, subst, sym}
use Rattle.std.specs.Prelude.{MatchOption}
use Rattle.std.specs.declared.vec.Vec.{Vec}
use Rattle.std.specs.declared.alloc.Global.{Global}
use Rattle.thumb_model.proofs.Lists.{length_map}
use Rattle.listing_parser.specs.Views.{line_view}
use Rattle.steady_layout.specs.declared.starts.Start.{Start}
use Rattle.steady_layout.specs.Starts.{AreStarts}
use Rattle.steady_layout.specs.Steady.{first, widest_end}
use Rattle.steady_layout.proofs.Lines.{as_many}
use Rattle.flow_tidy.proofs.widest_layout.widest_layout_of.Goals as goal

pub place_starts-requires : goal.place_starts-requires
place_starts-requires c =
    let base = c.args.base in
    let lines = map line_view c.lines.result.now in
    let starts : AreStarts base lines c.in-Some.lines.items =
    subst (λ (o : Option (Vec Start Global)). MatchOption o ((widest_end (first base) lines).at ≤ 2 ^ 29 → ⊥) (λ s. AreStarts base lines s.items)) c.in-Some.is c.in_ok-lay_widest.ensures in
    let many = as_many (first base) lines in
    let own = length_map line_view c.lines-in-Some.result.now in
    let same = ap length (c.lines.ensures ∙ sym c.lines-in-Some.ensures) in
    omega (arith, ap length starts.each, ap length c.deref.ensures.value, many, own, same)
