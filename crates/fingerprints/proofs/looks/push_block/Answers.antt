use Rattle.std.proofs.Common.{◌==◌, ◌∙◌, sym, get_or}
use Rattle.fingerprints.proofs.Looking.{kept_none}
use Rattle.fingerprints.proofs.looks.push_block.Goals as goal

pub returns : goal.returns
returns c = c.requires.before ∙ sym (kept_none (λ q. get_or c.args.column.now q 0 == c.args.word) c.args.first 16 (c.is_in_block.ensures c.if-is_in_block.false))
