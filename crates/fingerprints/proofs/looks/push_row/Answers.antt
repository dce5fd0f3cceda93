use Rattle.std.proofs.Common.{◌≡◌, ◌+◌, ◌*◌, ◌==◌, ap, sym, ◌∙◌, arith, get_or, filter}
use Rattle.seq_enum.specs.Alphabet.{numbers_from}
use Rattle.fingerprints.proofs.Looking.{kept_none}
use Rattle.fingerprints.proofs.looks.push_row.Goals as goal

pub loop-block-init : goal.loop-block-init
loop-block-init c =
    let none : c.args.first ≡ c.args.first + 0 * 16 = omega arith in
    c.requires.before ∙ ap (λ n. filter (λ q. get_or c.args.column.now q 0 == c.args.word) (numbers_from 0 n)) none

pub loop-block-preserved : goal.loop-block-preserved
loop-block-preserved c =
    let next : c.args.first + c.loop-block.block * 16 + 16 ≡ c.args.first + (c.loop-block.block + 1) * 16 = omega arith in
    c.in_ok-push_block.ensures ∙ ap (λ n. filter (λ q. get_or c.args.column.now q 0 == c.args.word) (numbers_from 0 n)) next

pub returns-else-is_in_row : goal.returns-else-is_in_row
returns-else-is_in_row c = c.requires.before ∙ sym (kept_none (λ q. get_or c.args.column.now q 0 == c.args.word) c.args.first 64 (c.is_in_row.ensures c.if-is_in_row.false))
