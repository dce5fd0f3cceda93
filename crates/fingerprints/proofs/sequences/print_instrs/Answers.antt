use Rattle.std.proofs.Common.{◌++◌, ap, sym, refl}
use Rattle.fingerprints.specs.Columns.{states_in}
use Rattle.fingerprints.proofs.ColumnLemmas.{over_more}
use Rattle.fingerprints.proofs.SequenceLemmas.{prints_are, four_are, over_tail, four_printed, left_printed, none_left}
use Rattle.fingerprints.proofs.sequences.print_instrs.Goals as goal

pub loop-rest-init : goal.loop-rest-init
loop-rest-init c = record {
  over = c.requires;
  printed = ap (λ ps. c.args.prints.now.items ++ ps) (sym (prints_are c.args.mask.items.bits (states_in c.args.columns.now) c.args.alphabet.now 0 1 refl));
}

pub loop-rest-preserved : goal.loop-rest-preserved
loop-rest-preserved c =
    let four = four_are c.loop-rest.rest.now c.a-item.result c.b-item.result c.c-item.result c.d-item.result c.in-len4-up.len_at_least c.a-item.is c.b-item.is c.c-item.is c.d-item.is in
    record {
      over = over_tail c.loop-rest.rest.now _ _ _ _ _ four c.loop-rest.invariant.over;
      printed =
          four_printed c.args.mask.items.bits (states_in c.args.columns.now) c.args.alphabet.now c.loop-rest.rest.now _ c.a-item.result c.b-item.result c.c-item.result c.d-item.result c.loop-rest.prints.items
          c.push-in-len4-up-3.new.self.items _ c.print_four-four.result.a c.print_four-four.result.b c.print_four-four.result.c c.print_four-four.result.d four
          c.print_four-four.ensures.a c.print_four-four.ensures.b c.print_four-four.ensures.c c.print_four-four.ensures.d
          (rw (← c.in_ok-push.ensures.items, ← c.in_ok-push-2.ensures.items, ← c.in_ok-push-3.ensures.items) c.in_ok-push-4.ensures.items)
          c.loop-rest.invariant.printed;
    }

pub loop-instr-preserved : goal.loop-instr-preserved
loop-instr-preserved c = record {
  over = over_more c.loop-rest.rest.now c.loop-instr.instr-index c.instr-item.result c.loop-instr-test.true c.loop-instr.invariant.over;
  printed =
      left_printed c.args.mask.items.bits (states_in c.args.columns.now) c.args.alphabet.now c.loop-rest.rest.now c.loop-instr.instr-index c.instr-item.result c.loop-instr.prints.items
      c.push-in-loop-instr.new.self.items _ c.print_next.result c.loop-instr-test.true c.instr-item.is c.print_next.ensures c.in_ok-push-5.ensures.items c.loop-instr.invariant.printed;
}

pub returns : goal.returns
returns c = none_left c.args.mask.items.bits (states_in c.args.columns.now) c.args.alphabet.now c.loop-rest.rest.now c.loop-instr.instr-index c.loop-instr.prints.items _ c.loop-instr-test.false c.loop-instr.invariant.printed
