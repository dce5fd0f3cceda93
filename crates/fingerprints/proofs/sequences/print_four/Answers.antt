use Rattle.std.proofs.Common.{◌∙◌, sym}
use Rattle.thumb_model.specs.Effect.{after}
use Rattle.fingerprints.proofs.SequenceLemmas.{lanes_printed, columns_printed}
use Rattle.fingerprints.proofs.sequences.print_four.Goals as goal

pub loop-column-preserved : goal.loop-column-preserved
loop-column-preserved c =
    let m = c.args.mask.items.bits in
    let i = c.loop-column.column-index in
    let cs = c.args.columns.now in
    let column = c.column-item.result in
    record {
      a = lanes_printed (after c.args.a.now) m c.loop-column.prints.a cs i column c.step8-first.result _ _ c.loop-column-test.true c.column-item.is c.step8-first.ensures c.with_lanes-prints.ensures.a c.loop-column.invariant.a;
      b = lanes_printed (after c.args.b.now) m c.loop-column.prints.b cs i column c.step8-second.result _ _ c.loop-column-test.true c.column-item.is c.step8-second.ensures c.with_lanes-prints.ensures.b c.loop-column.invariant.b;
      c = lanes_printed (after c.args.c.now) m c.loop-column.prints.c cs i column c.step8-third.result _ _ c.loop-column-test.true c.column-item.is c.step8-third.ensures c.with_lanes-prints.ensures.c c.loop-column.invariant.c;
      d = lanes_printed (after c.args.d.now) m c.loop-column.prints.d cs i column c.step8-fourth.result _ _ c.loop-column-test.true c.column-item.is c.step8-fourth.ensures c.with_lanes-prints.ensures.d c.loop-column.invariant.d;
    }

pub returns-clause-a : goal.returns-clause-a
returns-clause-a c = sym (columns_printed (after c.args.a.now) c.args.mask.items.bits c.loop-column.prints.a c.args.columns.now c.loop-column.column-index c.loop-column-test.false) ∙ c.loop-column.invariant.a

pub returns-clause-b : goal.returns-clause-b
returns-clause-b c = sym (columns_printed (after c.args.b.now) c.args.mask.items.bits c.loop-column.prints.b c.args.columns.now c.loop-column.column-index c.loop-column-test.false) ∙ c.loop-column.invariant.b

pub returns-clause-c : goal.returns-clause-c
returns-clause-c c = sym (columns_printed (after c.args.c.now) c.args.mask.items.bits c.loop-column.prints.c c.args.columns.now c.loop-column.column-index c.loop-column-test.false) ∙ c.loop-column.invariant.c

pub returns-clause-d : goal.returns-clause-d
returns-clause-d c = sym (columns_printed (after c.args.d.now) c.args.mask.items.bits c.loop-column.prints.d c.args.columns.now c.loop-column.column-index c.loop-column-test.false) ∙ c.loop-column.invariant.d
