use Rattle.std.proofs.Common.{◌∙◌, List, ℕ, Some, arith, length, sym}
use Rattle.std.proofs.lemmas.Bool.{leb-true}
use Rattle.std.proofs.lemmas.List.Sums.{prefix_len-le-length}
use Rattle.listing_parser.specs.Parsing.{line_mentioning}
use Rattle.flow_tidy.specs.Made.{is_no_newline}
use Rattle.flow_tidy.proofs.Lines.{length_is}
use Rattle.flow_tidy.proofs.OwnLines.{branch_short}
use Rattle.flow_tidy.proofs.limits.is_short_branch.Goals as goal

pub returns : goal.returns
returns c = λ t.
    let name : List ℕ = c.args.name.now in
    let own : List ℕ = line_mentioning c.args.instr.now (Some (record { name = name; plus = 0 })) in
    let short = leb-true (length name) 1018 t in
    let few = branch_short c.args.instr.now name (sym c.is_branch.ensures ∙ c.if-not-is_branch.false) in
    omega (arith, short, few, length_is own, prefix_len-le-length is_no_newline own)
