use Rattle.std.proofs.Common.{◌≡◌, ◌^◌, ◌≤◌, arith, sym, ◌∙◌, length}
use Rattle.seq_enum.specs.Places.{sum_below}
use Rattle.seq_enum.proofs.Words.{power_fits, word_start, word_later, word_end, sum_below-more}
use Rattle.seq_enum.proofs.Steps.{stands_found}
use Rattle.seq_enum.proofs.walk.word_of.Goals as goal

pub loop-n-init : goal.loop-n-init
unfolding sum_below
loop-n-init c = record { number = omega arith; rest = word_start c.args.alphabet.now c.args.number }

pub pow-count-requires : goal.pow-count-requires
pow-count-requires c = omega (arith, power_fits (length c.args.alphabet.now) c.loop-n.n c.requires.few (omega arith))

pub returns-then-left-count : goal.returns-then-left-count
returns-then-left-count c =
    stands_found c.args.alphabet.now c.instrs_at.result.items c.args.number c.loop-n.n c.loop-n.left c.requires.some c.requires.few (omega arith) c.loop-n.invariant.number c.instrs_at.ensures

pub loop-n-preserved : goal.loop-n-preserved
loop-n-preserved c =
    let size = length c.args.alphabet.now in
    let past : size ^ c.loop-n.n ≤ c.loop-n.left = omega (arith, c.if-left-count.false, c.pow-count.ensures) in
    record {
      number = omega (arith, sum_below-more (λ m. size ^ m) c.loop-n.n, c.loop-n.invariant.number, c.pow-count.ensures, past);
      rest = rw c.pow-count.ensures (sym (word_later c.args.alphabet.now c.loop-n.n c.loop-n.left (omega arith) past) ∙ c.loop-n.invariant.rest);
    }

pub returns : goal.returns
returns c =
    let is : c.loop-n.n ≡ 6 = omega arith in
    sym (rw is at c.loop-n.invariant.rest) ∙ word_end c.args.alphabet.now c.loop-n.left
