use Rattle.std.proofs.Common.{◌∙◌, ℕ, ap, drop}
use Rattle.std.proofs.lemmas.List.Sums.{prefix_len-le-length}
use Rattle.ascii_scan.specs.Tokens.{is_blank}
use Rattle.ascii_scan.proofs.TokenLemmas.{rest_is}
use Rattle.ascii_scan.proofs.words.without_blanks.Goals as goal

pub split_at-requires : goal.split_at-requires
split_at-requires c = rw c.blank_len.ensures (prefix_len-le-length is_blank c.args.bytes.now)

pub returns : goal.returns
returns c = c.split_at.ensures.back ∙ ap (λ (n : ℕ). drop n c.args.bytes.now) c.blank_len.ensures ∙ rest_is is_blank c.args.bytes.now
