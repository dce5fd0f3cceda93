use Rattle.std.proofs.Common.{◌∙◌, ℕ, ap, drop, take}
use Rattle.std.proofs.lemmas.List.Sums.{prefix_len-le-length}
use Rattle.ascii_scan.proofs.TokenLemmas.{front_is, rest_is}
use Rattle.thumb_syntax.specs.Operands.{is_plain}
use Rattle.thumb_syntax.proofs.operands.split_plain.Goals as goal

pub split_at-requires : goal.split_at-requires
split_at-requires c = rw c.plain_len.ensures (prefix_len-le-length is_plain c.args.bytes.now)

pub returns-clause-front : goal.returns-clause-front
returns-clause-front c = c.split_at.ensures.front ∙ ap (λ (n : ℕ). take n c.args.bytes.now) c.plain_len.ensures ∙ front_is is_plain c.args.bytes.now

pub returns-clause-rest : goal.returns-clause-rest
returns-clause-rest c = c.split_at.ensures.back ∙ ap (λ (n : ℕ). drop n c.args.bytes.now) c.plain_len.ensures ∙ rest_is is_plain c.args.bytes.now
