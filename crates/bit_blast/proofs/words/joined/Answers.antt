use Rattle.std.proofs.Common.{◌∙◌, ap, sym, arith, get_or, length, ◌-◌}
use Rattle.std.proofs.lemmas.List.{length-set}
use Rattle.bit_blast.proofs.Ends.{joined_low, joined_high}
use Rattle.bit_blast.proofs.words.joined.Goals.{then-i-low, else-i-low}
use Rattle.bit_blast.proofs.words.joined.Goals as goal

pub loop-i-preserved : goal.loop-i-preserved
loop-i-preserved c = (
  length-set c.loop-i.word c.loop-i.i c.if-i-low.word ∙ c.loop-i.invariant.0,
  elim c.if-i-low.branch [
    | then-i-low w ↦ joined_low c.loop-i.i c.loop-i.word c.args.low.now c.args.high.now c.if-i-low.word (omega arith) c.loop-i.invariant.0 c.requires w.if-i-low.true
        (w.word-is ∙ w.index-low-i.is ∙ ap (λ d. get_or c.args.low.now c.loop-i.i d) (sym w.word-is)) c.loop-i.invariant.1
    | else-i-low w ↦ joined_high c.loop-i.i c.loop-i.word c.args.low.now c.args.high.now c.if-i-low.word (omega arith) c.loop-i.invariant.0 c.requires w.if-i-low.false
        (w.word-is ∙ w.index-high-i.is ∙ ap (λ d. get_or c.args.high.now (c.loop-i.i - length c.args.low.now) d) (sym w.word-is)) c.loop-i.invariant.1
  ],
)
