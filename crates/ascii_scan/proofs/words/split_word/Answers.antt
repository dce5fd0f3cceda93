use Rattle.std.proofs.Common.{◌∙◌, ℕ, ap, drop, take}
use Rattle.std.proofs.lemmas.List.Sums.{prefix_len-le-length}
use Rattle.ascii_scan.specs.Tokens.{is_inner}
use Rattle.ascii_scan.proofs.TokenLemmas.{front_is, rest_is}
use Rattle.ascii_scan.proofs.words.split_word.Goals as goal

pub split_at-requires : goal.split_at-requires
split_at-requires c = rw c.inner_len.ensures (prefix_len-le-length is_inner c.args.bytes.now)

pub returns-clause-word : goal.returns-clause-word
returns-clause-word c = c.split_at.ensures.front ∙ ap (λ (n : ℕ). take n c.args.bytes.now) c.inner_len.ensures ∙ front_is is_inner c.args.bytes.now

pub returns-clause-rest : goal.returns-clause-rest
returns-clause-rest c = c.split_at.ensures.back ∙ ap (λ (n : ℕ). drop n c.args.bytes.now) c.inner_len.ensures ∙ rest_is is_inner c.args.bytes.now
