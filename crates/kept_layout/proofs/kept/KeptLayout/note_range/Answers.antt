use Rattle.std.proofs.Common.{◌+◌, ◌∙◌, sym, ap, refl, arith}
use Rattle.kept_layout.specs.declared.kept.KeptLayout.{KeptLayout}
use Rattle.kept_layout.specs.Blocks.{lag_of}
use Rattle.kept_layout.specs.Moves.{unplaced}
use Rattle.kept_layout.proofs.ShrinkingNotes.{map_length, notes_begin, notes_on}
use Rattle.kept_layout.proofs.kept.KeptLayout.note_range.Goals as goal

pub loop-number-init : goal.loop-number-init
loop-number-init c = record { fields = refl; noting = notes_begin _ _ _ _ _ _ }

pub note_one-requires-clause-within : goal.note_one-requires-clause-within
note_one-requires-clause-within c =
    let same = map_length unplaced c.loop-number.self.blocks.items c.args.self.now.blocks.items c.loop-number.invariant.noting.same in
    let within = c.requires.within in
    omega arith

pub note_one-requires-clause-noted : goal.note_one-requires-clause-noted
note_one-requires-clause-noted c = λ s e.
    let low = c.requires.noted c.loop-number.number s (omega arith) (sym (c.loop-number.invariant.noting.rest c.loop-number.number (omega arith)) ∙ e) in
    let same = ap (λ (x : KeptLayout). lag_of x.lag c.loop-number.number) c.loop-number.invariant.fields in
    omega arith

pub loop-number-preserved : goal.loop-number-preserved
loop-number-preserved c = record {
  fields = c.in_ok-note_one.ensures.fields ∙ ap (λ (x : KeptLayout). record x { blocks = c.note_one.new.self.blocks }) c.loop-number.invariant.fields;
  noting = notes_on c.args.self.now c.loop-number.self c.args.bytes c.args.moved.now.at.items c.args.moved.now.by c.args.lag.now c.args.from c.loop-number.number (c.loop-number.number + 1) c.note_one.new.self.blocks.items (omega arith) c.loop-number.invariant.fields c.loop-number.invariant.noting c.in_ok-note_one.ensures.same c.in_ok-note_one.ensures.others c.in_ok-note_one.ensures.note (omega arith);
}
