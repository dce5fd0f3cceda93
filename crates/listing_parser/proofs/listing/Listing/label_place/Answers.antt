use Rattle.std.proofs.Common.{◌≡◌, ◌∙◌, List, Some, map, length, sym, ap, arith}
use Rattle.listing_parser.specs.Views.{line_view}
use Rattle.listing_parser.specs.TableWords.{label_line}
use Rattle.listing_parser.specs.declared.index.Passed.{Passed}
use Rattle.listing_parser.proofs.SpotLemmas.{before_line, passed_length}
use Rattle.listing_parser.proofs.LabelLemmas.{label_found, label_within, unlabelled}
use Rattle.listing_parser.proofs.listing.Listing.label_place.Goals as goal

pub returns-in-None : goal.returns-in-None
returns-in-None c = sym (unlabelled c.args.name.now 0 0 c.args.self.now (sym c.label_line.ensures ∙ c.in-None.is))

pub index-requires : goal.index-requires
index-requires c =
    let found : label_line c.args.name.now 0 (map line_view c.self.inside.lines.items) ≡ Some c.in-Some.line = rw c.self.view_is (sym c.label_line.ensures ∙ c.in-Some.is) in
    let within = label_within c.args.name.now (map line_view c.self.inside.lines.items) c.in-Some.line found in
    let all : length c.self.inside.index.passed.items ≡ length (map line_view c.self.inside.lines.items) = ap (λ (xs : List Passed). length xs) c.self.invariant.passed ∙ passed_length 0 (map line_view c.self.inside.lines.items) in
    omega (arith, c.self.inside.index.passed.ok)

pub overflow_cast-result : goal.overflow_cast-result
overflow_cast-result c =
    let found : label_line c.args.name.now 0 (map line_view c.self.inside.lines.items) ≡ Some c.in-Some.line = rw c.self.view_is (sym c.label_line.ensures ∙ c.in-Some.is) in
    let within = label_within c.args.name.now (map line_view c.self.inside.lines.items) c.in-Some.line found in
    let told = before_line _ _ _ _ within c.self.invariant.passed c.index.ensures in
    omega (arith, told.1, c.self.invariant.few)

pub returns-in-Some : goal.returns-in-Some
returns-in-Some c =
    let found : label_line c.args.name.now 0 (map line_view c.self.inside.lines.items) ≡ Some c.in-Some.line = rw c.self.view_is (sym c.label_line.ensures ∙ c.in-Some.is) in
    rw (← c.self.view_is) (label_found c.args.name.now _ _ _ _ found c.self.invariant.passed c.index.ensures)
