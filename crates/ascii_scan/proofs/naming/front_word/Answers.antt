use Rattle.std.proofs.Common.{◌∙◌, ℕ, ap, take}
use Rattle.std.proofs.lemmas.List.Sums.{prefix_len-le-length}
use Rattle.ascii_scan.specs.Names.{is_name_byte}
use Rattle.ascii_scan.proofs.TokenLemmas.{front_is}
use Rattle.ascii_scan.proofs.naming.front_word.Goals as goal

pub split_at-requires : goal.split_at-requires
split_at-requires c = rw c.run_length.ensures (prefix_len-le-length is_name_byte c.args.bytes.now)

pub returns : goal.returns
returns c = c.split_at.ensures.front ∙ ap (λ (n : ℕ). take n c.args.bytes.now) c.run_length.ensures ∙ front_is is_name_byte c.args.bytes.now
