use Rattle.std.proofs.Common.{◌≡◌, ◌∙◌, ◌+◌, ◌++◌, ◌∷◌, ◌&&◌, ℕ, true, List, drop, length, map, sym, ap, ap₂, append_assoc, arith, rules}
use Rattle.std.proofs.lemmas.Grind.{common_steps}
use Rattle.thumb_model.specs.Listing.{ListingLine, call_count, labels_at, places_in, places_of}
use Rattle.thumb_model.specs.Naming.{points_of, returns_from}
use Rattle.listing_parser.specs.Views.{line_view}
use Rattle.thumb_machine.specs.Naming.{naming_of}
use Rattle.thumb_machine.specs.Walking.{all_pass, points_from}
use Rattle.thumb_machine.proofs.Walked.{calls_few}
use Rattle.thumb_machine.proofs.naming.Naming.points_pass.Goals as goal

pub loop-line-preserved : goal.loop-line-preserved
loop-line-preserved g c =
    let names = naming_of c.args.self.now in
    let places = places_of c.args.listing.now in
    let line = line_view c.line-item.result in
    let behind : List ListingLine = map line_view (drop (c.loop-line.line-index + 1) c.lines-line-items.result.now) in
    let tail : map line_view (drop c.loop-line.line-index c.lines-line-items.result.now) ≡ line_view c.line-item.result ∷ behind = grind (arith, common_steps) in
    let size : c.places-place.result ≡ length (places_in (line_view c.line-item.result).statement) = search rules in
    let call : c.next_call-call.result ≡ c.loop-line.call + call_count (places_in (line_view c.line-item.result).statement) = search rules in
    let labels = points_of names places (labels_at c.loop-line.place line.names) in
    let returns = returns_from names c.loop-line.call c.loop-line.place (places_in line.statement) in
    let rest = points_from names places (c.loop-line.call + call_count (places_in line.statement)) (c.loop-line.place + length (places_in line.statement)) behind in
    let labels_ok : c.labels_pass.result ≡ true = search rules in
    let return_ok : c.return_passes.result ≡ true = search rules in
    let first : all_pass g.T.PointTest.passes g.T.PointTest.after c.loop-line.test (labels ++ (returns ++ rest)) ≡ all_pass g.T.PointTest.passes g.T.PointTest.after c.labels_pass.new.test (returns ++ rest) =
    (rw c.as_slice.ensures.value at (c.labels_pass.ensures (returns ++ rest))) ∙ ap (λ b. b && all_pass g.T.PointTest.passes g.T.PointTest.after c.labels_pass.new.test (returns ++ rest)) labels_ok in
    let second : all_pass g.T.PointTest.passes g.T.PointTest.after c.labels_pass.new.test (returns ++ rest) ≡ all_pass g.T.PointTest.passes g.T.PointTest.after c.return_passes.new.test rest =
    c.return_passes.ensures rest ∙ ap (λ b. b && all_pass g.T.PointTest.passes g.T.PointTest.after c.return_passes.new.test rest) return_ok in
    record {
      places = grind (arith, common_steps);
      few = let n = calls_few (places_in line.statement) in omega (arith, call, size, c.loop-line.invariant.few);
      passes =
          ap₂ (λ (k n : ℕ). all_pass g.T.PointTest.passes g.T.PointTest.after c.return_passes.new.test (points_from names places k (c.loop-line.place + n) behind)) call size
          ∙ sym second
          ∙ sym first
          ∙ ap (all_pass g.T.PointTest.passes g.T.PointTest.after c.loop-line.test) (sym (append_assoc labels returns rest))
          ∙ ap (λ (ls : List ListingLine). all_pass g.T.PointTest.passes g.T.PointTest.after c.loop-line.test (points_from names places c.loop-line.call c.loop-line.place ls)) (sym tail)
          ∙ c.loop-line.invariant.passes;
    }
