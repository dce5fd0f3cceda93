use Rattle.std.proofs.Common.{◌≡◌, ◌≤◌, ◌∙◌, refl, arith}
use Rattle.std.proofs.lemmas.Bool.{leb-true}
use Rattle.std.proofs.lemmas.Bool.Decides.{nat_tests}
use Rattle.std.proofs.lemmas.List.Sums.{prefix_len-le-length}
use Rattle.flow_tidy.specs.Tidying.{line_length}
use Rattle.flow_tidy.specs.Made.{is_no_newline}
use Rattle.flow_tidy.proofs.Lines.{length_is}
use Rattle.flow_tidy.proofs.limits.is_short.Goals as goal

pub returns-then-text-le-LONGEST_LINE : goal.returns-then-text-le-LONGEST_LINE
returns-then-text-le-LONGEST_LINE c = (
  λ t. omega (arith, length_is c.args.text.now, prefix_len-le-length is_no_newline c.args.text.now, c.if-text-le-LONGEST_LINE.true),
  λ h. refl,
)

pub returns : goal.returns
returns c =
    let is : c.line_length.result ≡ line_length c.args.text.now = c.line_length.ensures ∙ length_is c.args.text.now in (
      λ t. let short = leb-true c.line_length.result 1024 t in omega (arith, is, short),
      λ h. let short : c.line_length.result ≤ 1024 = omega (arith, is, h) in grind (arith, nat_tests),
    )
