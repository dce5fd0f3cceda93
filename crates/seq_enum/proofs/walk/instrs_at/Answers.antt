use Rattle.std.proofs.Common.{◌≡◌, ◌<◌, ◌^◌, ◌+◌, ◌-◌, ◌%◌, ◌++◌, ◌∷◌, [], arith, sym, ◌∙◌, ap, Some, suc, slice_get, length, append_assoc, refl}
use Rattle.seq_enum.specs.Alphabet.{words}
use Rattle.std.proofs.Math.Nat.{pow-zero}
use Rattle.std.proofs.lemmas.Nat.{mod_below}
use Rattle.std.proofs.lemmas.Option.{slice_get_read}
use Rattle.seq_enum.proofs.Words.{word_more, first_word, digit_left}
use Rattle.seq_enum.proofs.walk.instrs_at.Goals as goal

pub loop-turn-preserved : goal.loop-turn-preserved
loop-turn-preserved c =
    let alphabet = c.args.alphabet.now in
    let size = length alphabet in
    let some = c.requires.some in
    let next : suc (c.args.count - (c.loop-turn._turn + 1)) ≡ c.args.count - c.loop-turn._turn = omega arith in
    let low : c.loop-turn.left % size < size = mod_below c.loop-turn.left size some in
    record {
      front = λ w e.
          let instr : slice_get alphabet (c.loop-turn.left % size) ≡ Some c.index-alphabet-left.result = slice_get_read alphabet size (c.loop-turn.left % size) c.index-alphabet-left.result refl low c.index-alphabet-left.is in
          let more : slice_get (words alphabet (suc (c.args.count - (c.loop-turn._turn + 1)))) c.loop-turn.left ≡ Some (w ++ c.index-alphabet-left.result ∷ []) =
          word_more alphabet (c.args.count - (c.loop-turn._turn + 1)) c.loop-turn.left w c.index-alphabet-left.result some e instr in
          c.loop-turn.invariant.front (w ++ c.index-alphabet-left.result ∷ []) (rw (← next) more)
          ∙ ap Some (append_assoc w (c.index-alphabet-left.result ∷ []) c.loop-turn.instrs.items ∙ ap (λ xs. w ++ xs) (sym c.insert.ensures.items));
      within = digit_left size (c.args.count - (c.loop-turn._turn + 1)) c.loop-turn.left some (rw next c.loop-turn.invariant.within);
      so_far = omega (arith, c.insert.ensures.len);
    }

pub returns : goal.returns
returns c =
    let is : c.args.count - c.loop-turn._turn ≡ 0 = omega arith in
    c.loop-turn.invariant.front [] (rw is (first_word c.args.alphabet.now c.loop-turn.left (omega (arith, c.loop-turn.invariant.within, ap (λ n. length c.args.alphabet.now ^ n) is, pow-zero (length c.args.alphabet.now)))))
