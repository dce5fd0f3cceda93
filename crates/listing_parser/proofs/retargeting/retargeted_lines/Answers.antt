use Rattle.std.proofs.Common.{◌∙◌, List, map, ap}
use Rattle.std.proofs.lemmas.List.{map-append}
use Rattle.listing_parser.specs.Parsing.{line_mentioning}
use Rattle.listing_parser.specs.Views.{line_view, statement_view}
use Rattle.listing_parser.specs.declared.line.ListingLine.{ListingLine as Lines}
use Rattle.listing_parser.proofs.ReplaceLemmas.{branch_step}
use Rattle.listing_parser.proofs.retargeting.retargeted_lines.Goals as goal

pub returns-in-Instruction : goal.returns-in-Instruction
returns-in-Instruction c =
    branch_step line_view line_mentioning c.args.name.now (map line_view c.loop-n.out.items) (map line_view c.add_labels.new.out.items) (map line_view c.push.new.self.items) (map line_view c.add_without.new.out.items) _ _
    c.args.lines.now c.loop-n.n c.loop-n.passing c.index-lines-n.result _ _ (line_view c.in_ok-branch.branch) c.loop-n-test.true c.index-lines-n.is c.if-passing-eq0.true (ap statement_view c.in-Instruction.is)
    c.in_ok-branch.ensures.line
    c.in_ok-add_labels.ensures
    (ap (λ (ls : List Lines). map line_view ls) c.in_ok-push.ensures.items ∙ map-append _ _ _)
    c.in_ok-add_without.ensures
    (ap (λ (ls : List Lines). map line_view ls) c.split_at.ensures.back)
    c.loop-n.invariant
