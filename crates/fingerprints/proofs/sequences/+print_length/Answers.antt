use Rattle.std.proofs.Common.{◌≡◌, ◌-◌, ◌∙◌, ◌++◌, ◌∷◌, [], ap, sym, arith, suc}
use Rattle.fingerprints.specs.Columns.{states_in}
use Rattle.fingerprints.proofs.ColumnLemmas.{over_more}
use Rattle.fingerprints.proofs.SequenceLemmas.{prints_are, prints_none, instr_done, instrs_done}
use Rattle.fingerprints.proofs.sequences.+print_length.Goals as goal

pub returns-then-length-eq0 : goal.returns-then-length-eq0
returns-then-length-eq0 t c =
    c.in_ok-push.ensures.items ∙ ap (λ ps. c.args.prints.now.items ++ ps) (ap (λ p. p ∷ []) c.print_in.ensures ∙ sym (prints_none c.args.mask.items.bits (states_in c.args.columns.now) c.args.alphabet.now c.args.length c.if-length-eq0.true))

pub loop-instr-init : goal.loop-instr-init
loop-instr-init t c =
    let some : c.args.length ≡ suc (c.args.length - 1) = omega (arith, c.if-length-eq0.false) in
    record {
      over = c.requires;
      some = omega arith;
      printed = ap (λ ps. c.args.prints.now.items ++ ps) (sym (prints_are c.args.mask.items.bits (states_in c.args.columns.now) c.args.alphabet.now (c.args.length - 1) c.args.length some));
    }

pub loop-instr-preserved : goal.loop-instr-preserved
loop-instr-preserved t c = record {
  over = over_more c.args.alphabet.now c.loop-instr.instr-index c.instr-item.result c.loop-instr-test.true c.loop-instr.invariant.over;
  some = c.loop-instr.invariant.some;
  printed =
      instr_done c.args.mask.items.bits (states_in c.args.columns.now) (states_in c.deref.result.now) c.args.alphabet.now (c.args.length - 1) c.loop-instr.instr-index c.instr-item.result
      c.loop-instr.prints.items c.print_length.new.prints.items c.loop-instr-test.true c.instr-item.is (ap states_in c.deref.ensures.value ∙ c.in_ok-after.ensures) c.in_ok-print_length.ensures
      ∙ c.loop-instr.invariant.printed;
}

pub returns : goal.returns
returns t c = sym (instrs_done c.args.mask.items.bits (states_in c.args.columns.now) c.args.alphabet.now (c.args.length - 1) c.loop-instr.instr-index c.loop-instr.prints.items c.loop-instr-test.false) ∙ c.loop-instr.invariant.printed
