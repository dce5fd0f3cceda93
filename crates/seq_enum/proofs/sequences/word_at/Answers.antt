use Rattle.std.proofs.Common.{◌≡◌, ◌<◌, ◌^◌, ◌+◌, ◌-◌, ◌%◌, ◌++◌, ◌∷◌, [], arith, sym, ◌∙◌, ap, Some, suc, slice_get, length, append_assoc}
use Rattle.seq_enum.specs.Alphabet.{alphabet, words}
use Rattle.std.proofs.Math.Nat.{pow-zero}
use Rattle.std.proofs.lemmas.Nat.{mod_below}
use Rattle.std.proofs.lemmas.Option.{slice_get-get_or}
use Rattle.thumb_instr.specs.declared.instr.Instr.TheVariants as instr
use Rattle.thumb_instr.specs.declared.operation.HintOperation.TheVariants as hint
use Rattle.seq_enum.proofs.Words.{word_more, power_some, first_word, digit_left}
use Rattle.seq_enum.proofs.sequences.word_at.Goals as goal

pub nonzero_rem-left : goal.nonzero_rem-left
nonzero_rem-left c = power_some c.args.size (c.args.count - c.loop-turn._turn) c.loop-turn.left c.loop-turn.invariant.within (omega arith)

pub unreachable-requires : goal.unreachable-requires
unreachable-requires c =
    let some : 0 < c.args.size = power_some c.args.size (c.args.count - c.loop-turn._turn) c.loop-turn.left c.loop-turn.invariant.within (omega arith) in
    let within : c.loop-turn.left % c.args.size < length (alphabet c.args.k c.args.pool.now) = omega (arith, mod_below c.loop-turn.left c.args.size some) in
    let stands = slice_get-get_or (alphabet c.args.k c.args.pool.now) (c.loop-turn.left % c.args.size) (instr.Hint hint.Nop) within in
    let two = sym stands ∙ (sym c.instr_at.ensures ∙ c.in-None.is) in
    absurd cc

pub loop-turn-preserved : goal.loop-turn-preserved
loop-turn-preserved c =
    let some : 0 < c.args.size = power_some c.args.size (c.args.count - c.loop-turn._turn) c.loop-turn.left c.loop-turn.invariant.within (omega arith) in
    let next : suc (c.args.count - (c.loop-turn._turn + 1)) ≡ c.args.count - c.loop-turn._turn = omega arith in
    record {
      front = λ w e.
          let member : slice_get (alphabet c.args.k c.args.pool.now) (c.loop-turn.left % c.args.size) ≡ Some c.in-Some.instr = sym c.instr_at.ensures ∙ c.in-Some.is in
          let more : slice_get (words (alphabet c.args.k c.args.pool.now) (suc (c.args.count - (c.loop-turn._turn + 1)))) c.loop-turn.left ≡ Some (w ++ c.in-Some.instr ∷ []) =
          word_more (alphabet c.args.k c.args.pool.now) (c.args.count - (c.loop-turn._turn + 1)) c.loop-turn.left w c.in-Some.instr (omega arith)
          (rw (← c.requires.size) e) (rw (← c.requires.size) member) in
          c.loop-turn.invariant.front (w ++ c.in-Some.instr ∷ []) (rw (← next) more)
          ∙ ap Some (append_assoc w (c.in-Some.instr ∷ []) c.loop-turn.instrs.items ∙ ap (λ xs. w ++ xs) (sym c.insert.ensures.items));
      within = digit_left c.args.size (c.args.count - (c.loop-turn._turn + 1)) c.loop-turn.left some (rw next c.loop-turn.invariant.within);
      so_far = omega (arith, c.insert.ensures.len);
    }

pub returns : goal.returns
returns c =
    let is : c.args.count - c.loop-turn._turn ≡ 0 = omega arith in
    c.loop-turn.invariant.front [] (rw is (first_word (alphabet c.args.k c.args.pool.now) c.loop-turn.left (omega (arith, ap (λ n. c.args.size ^ n) is, pow-zero c.args.size))))
    ∙ ap Some (sym (c.in-Some-from_slice.ensures.value ∙ c.as_slice.ensures.value))
