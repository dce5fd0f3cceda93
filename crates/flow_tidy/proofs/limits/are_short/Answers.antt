use Rattle.std.proofs.Common.{◌≡◌, ◌∙◌, ◌≤◌, true, false, List, ℕ, map, sym, subst, arith}
use Rattle.listing_parser.specs.Grammar.{longest_line}
use Rattle.listing_parser.specs.Views.{line_view}
use Rattle.flow_tidy.specs.Tidying.{line_length}
use Rattle.flow_tidy.proofs.Lines.{all_short, as_many_lines, one_more_short, read_line}
use Rattle.flow_tidy.proofs.limits.are_short.Goals as goal

pub returns-then-not-is_short : goal.returns-then-not-is_short
returns-then-not-is_short c =
    let here = read_line c.args.lines.now c.loop-line.line-index c.line-item.result c.loop-line-test.true c.line-item.is in (
      λ t. absurd (cc),
      λ h.
          let short : line_length c.line-item.result.text.items ≤ longest_line = h c.loop-line.line-index (line_view c.line-item.result) here in
          let yes = c.is_short.ensures.1 (subst (λ (bs : List ℕ). line_length bs ≤ longest_line) (sym c.deref.ensures.value) short) in
          let no : true ≡ false = sym yes ∙ c.if-not-is_short.true in
          absurd (cc),
    )

pub loop-line-preserved : goal.loop-line-preserved
loop-line-preserved c =
    let here = read_line c.args.lines.now c.loop-line.line-index c.line-item.result c.loop-line-test.true c.line-item.is in
    let short : line_length c.line-item.result.text.items ≤ longest_line = subst (λ (bs : List ℕ). line_length bs ≤ longest_line) c.deref.ensures.value (c.is_short.ensures.0 c.if-not-is_short.false) in
    one_more_short longest_line (map line_view c.args.lines.now) c.loop-line.line-index (line_view c.line-item.result) c.loop-line.invariant here short

pub returns : goal.returns
returns c =
    let many = as_many_lines c.args.lines.now in
    (λ t. all_short longest_line (map line_view c.args.lines.now) c.loop-line.line-index (omega arith) c.loop-line.invariant, λ h. cc)
