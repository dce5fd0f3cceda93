use Rattle.std.proofs.Common.{◌≡◌, ◌^◌, ◌≤◌, ◌<◌, Some, ap, arith, sym, ◌∙◌, length}
use Rattle.seq_enum.proofs.Words.{power_fits, word_start, word_here, word_later, word_end}
use Rattle.fingerprints.proofs.Growing.{some_short}
use Rattle.fingerprints.proofs.numbering.sequence_of.Goals as goal

pub loop-n-init : goal.loop-n-init
loop-n-init c = word_start c.args.alphabet.now c.args.number

pub pow-count-requires : goal.pow-count-requires
pow-count-requires c = omega (arith, power_fits (length c.args.alphabet.now) c.loop-n.n c.requires.few (omega arith))

pub returns-then-left-count : goal.returns-then-left-count
returns-then-left-count c =
    let few : c.loop-n.n < 6 = omega arith in
    let low : c.loop-n.left < length c.args.alphabet.now ^ c.loop-n.n = omega (arith, c.if-left-count.true, c.pow-count.ensures) in
    some_short c.from_slice.result c.as_slice.result.now c.from_slice.ensures.valid c.from_slice.ensures.value c.as_slice.ensures.fits
    ∙ ap (λ xs. Some xs) c.as_slice.ensures.value
    ∙ sym c.instrs_at.ensures
    ∙ sym (word_here c.args.alphabet.now c.loop-n.n c.loop-n.left few low)
    ∙ c.loop-n.invariant

pub loop-n-preserved : goal.loop-n-preserved
loop-n-preserved c =
    let size = length c.args.alphabet.now in
    let past : size ^ c.loop-n.n ≤ c.loop-n.left = omega (arith, c.if-left-count.false, c.pow-count.ensures) in
    rw c.pow-count.ensures (sym (word_later c.args.alphabet.now c.loop-n.n c.loop-n.left (omega arith) past) ∙ c.loop-n.invariant)

pub returns : goal.returns
returns c =
    let is : c.loop-n.n ≡ 6 = omega arith in
    sym (sym (rw is at c.loop-n.invariant) ∙ word_end c.args.alphabet.now c.loop-n.left)
