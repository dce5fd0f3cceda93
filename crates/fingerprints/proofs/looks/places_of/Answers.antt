use Rattle.std.proofs.Common.{◌≡◌, ◌+◌, ◌*◌, ◌==◌, ap, sym, ◌∙◌, arith, get_or, filter}
use Rattle.seq_enum.specs.Alphabet.{numbers_from}
use Rattle.fingerprints.proofs.Looking.{numbers_none}
use Rattle.fingerprints.proofs.looks.places_of.Goals as goal

pub loop-row-init : goal.loop-row-init
loop-row-init c = c.new-places.ensures.items ∙ ap (filter (λ q. get_or c.args.column.now q 0 == c.args.word)) (sym numbers_none)

pub loop-row-preserved : goal.loop-row-preserved
loop-row-preserved c =
    let next : c.loop-row.row * 64 + 64 ≡ (c.loop-row.row + 1) * 64 = omega arith in
    c.in_ok-push_row.ensures ∙ ap (λ n. filter (λ q. get_or c.args.column.now q 0 == c.args.word) (numbers_from 0 n)) next
