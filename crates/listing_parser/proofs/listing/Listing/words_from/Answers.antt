use Rattle.std.proofs.Common.{◌≡◌, ◌∙◌, ℕ, List, Some, map, length, sym, ap, arith}
use Rattle.listing_parser.specs.Views.{line_view}
use Rattle.listing_parser.specs.TableWords.{label_line, words_from}
use Rattle.listing_parser.proofs.RunLemmas.{runs_length, words_at_label}
use Rattle.listing_parser.proofs.LabelLemmas.{label_within, no_label_from}
use Rattle.listing_parser.proofs.listing.Listing.words_from.Goals as goal

pub returns-in-None : goal.returns-in-None
returns-in-None c = sym (ap words_from (no_label_from c.args.name.now 0 c.args.self.now (sym c.label_line.ensures ∙ c.in-None.is)))

pub index-requires : goal.index-requires
index-requires c =
    let found : label_line c.args.name.now 0 (map line_view c.self.inside.lines.items) ≡ Some c.in-Some.line = rw c.self.view_is (sym c.label_line.ensures ∙ c.in-Some.is) in
    let within = label_within c.args.name.now (map line_view c.self.inside.lines.items) c.in-Some.line found in
    let all : length c.self.inside.index.runs.items ≡ length (map line_view c.self.inside.lines.items) = ap (λ (xs : List ℕ). length xs) c.self.invariant.runs ∙ runs_length (map line_view c.self.inside.lines.items) in
    omega (arith, c.self.inside.index.runs.ok)

pub returns-in-Some : goal.returns-in-Some
returns-in-Some c =
    let found : label_line c.args.name.now 0 (map line_view c.self.inside.lines.items) ≡ Some c.in-Some.line = rw c.self.view_is (sym c.label_line.ensures ∙ c.in-Some.is) in
    let within = label_within c.args.name.now (map line_view c.self.inside.lines.items) c.in-Some.line found in
    rw (← c.self.view_is) (words_at_label c.args.name.now _ _ _ _ found within c.self.invariant.runs c.index.ensures)
