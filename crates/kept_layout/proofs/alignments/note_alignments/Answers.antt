use Rattle.std.proofs.Common.{◌∙◌, ◌-◌, List, length, refl, ap, subst, arith}
use Rattle.std.specs.Prelude.{slice_get}
use Rattle.std.proofs.lemmas.Bool.{le-leb}
use Rattle.std.proofs.lemmas.Option.{slice_get_read}
use Rattle.kept_layout.specs.declared.block.Block.{Block}
use Rattle.kept_layout.specs.Blocks.{IsAlignmentOf}
use Rattle.kept_layout.proofs.BuildingAlignments.{fours_all, alignments_begin, alignments_on, head_read}
use Rattle.kept_layout.proofs.alignments.note_alignments.Goals as goal

pub loop-number-init : goal.loop-number-init
loop-number-init c = alignments_begin c.args.blocks.now.items c.last_literal-last.result c.len-number.result (omega arith)

pub loop-number-preserved : goal.loop-number-preserved
loop-number-preserved c =
    let ss = c.loop-number.blocks.items in
    let n = c.loop-number.number - 1 in
    let within = c.loop-number.invariant.within in
    let is = slice_get_read ss (length ss) n c.index_mut.result.now refl (omega arith) c.index_mut.ensures.value in
    let head = head_read ss n c.index.result.now c.index_mut.result.now (omega arith) c.index.ensures is in
    alignments_on c.args.blocks.now.items c.last_literal-last.result c.loop-number.alignment c.loop-number.number ss n c.index_mut.result.now _ c.loop-number.invariant (omega arith) is
    (record {
      from = c.alignment_of-alignment.ensures.behind;
      own = subst (IsAlignmentOf c.alignment_of-alignment.result) head c.alignment_of-alignment.ensures.own;
      four = λ l. c.alignment_of-alignment.ensures.literals (le-leb _ _ l);
      same = refl;
    })

pub returns-clause-literals : goal.returns-clause-literals
returns-clause-literals c =
    fours_all c.args.blocks.now.items c.last_literal-last.result c.loop-number.alignment c.loop-number.number c.loop-number.blocks.items c.loop-number.invariant c.loop-number-test.false
    (λ i s e. c.last_literal-last.ensures i s (ap (λ (xs : List Block). slice_get xs i) c.deref.ensures.value ∙ e))
