use Rattle.std.proofs.Common.{◌∙◌, ap, sym, arith, get_or, ◌%◌, rules}
use Rattle.std.proofs.lemmas.List.{length-set}
use Rattle.bit_blast.proofs.Ends.{one_more, length-four, byte_0, byte_1, byte_2, byte_3}
use Rattle.bit_blast.proofs.words.of_bytes.Goals.{in-0, in-1, in-2, in_default}
use Rattle.bit_blast.proofs.words.of_bytes.Goals as goal

pub loop-i-preserved : goal.loop-i-preserved
loop-i-preserved c =
    let long = length-four c.args.a.now c.args.b.now c.args.c.now c.args.d.now c.requires.a c.requires.b c.requires.c c.requires.d in
    let step = one_more c.loop-i.i c.loop-i.word _ c.match-i-div8.word (omega arith) c.loop-i.invariant.0 long in (
      length-set c.loop-i.word c.loop-i.i c.match-i-div8.word ∙ c.loop-i.invariant.0,
      elim c.match-i-div8.branch [
        | in-0 w ↦ step (byte_0 c.args.a.now c.args.b.now c.args.c.now c.args.d.now c.requires.a c.requires.b c.requires.c c.requires.d c.loop-i.i c.match-i-div8.word (omega arith) w.in-0.is (w.word-is ∙ w.index-a-i.is ∙ ap (λ d. get_or c.args.a.now (c.loop-i.i % 8) d) (sym w.word-is))) c.loop-i.invariant.1
        | in-1 w ↦ step (byte_1 c.args.a.now c.args.b.now c.args.c.now c.args.d.now c.requires.a c.requires.b c.requires.c c.requires.d c.loop-i.i c.match-i-div8.word (omega arith) w.in-1.is (w.word-is ∙ w.index-b-i.is ∙ ap (λ d. get_or c.args.b.now (c.loop-i.i % 8) d) (sym w.word-is))) c.loop-i.invariant.1
        | in-2 w ↦ step (byte_2 c.args.a.now c.args.b.now c.args.c.now c.args.d.now c.requires.a c.requires.b c.requires.c c.requires.d c.loop-i.i c.match-i-div8.word (omega arith) w.in-2.is (w.word-is ∙ w.index-c-i.is ∙ ap (λ d. get_or c.args.c.now (c.loop-i.i % 8) d) (sym w.word-is))) c.loop-i.invariant.1
        | in_default w ↦ step (byte_3 c.args.a.now c.args.b.now c.args.c.now c.args.d.now c.requires.a c.requires.b c.requires.c c.requires.d c.loop-i.i c.match-i-div8.word (omega arith) (search rules) (search rules) (search rules) (w.word-is ∙ w.index-d-i.is ∙ ap (λ d. get_or c.args.d.now (c.loop-i.i % 8) d) (sym w.word-is))) c.loop-i.invariant.1
      ],
    )
