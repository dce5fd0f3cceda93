use Rattle.std.proofs.Common.{◌≡◌, ◌∙◌, ap, sym, [], length}
use Rattle.std.specs.Prelude.{◌&&◌, ◌==◌}
use Rattle.std.proofs.lemmas.Bool.{false≢true}
use Rattle.thumb_instr.specs.Items.{one_of, is_in_masks}
use Rattle.rule_table.specs.Text.{mask_rows}
use Rattle.rule_table.specs.Fronts.{taken}
use Rattle.lrat_check.proofs.Additions.{is_nil}
use Rattle.rule_table.proofs.MaskTexts.{rows_small, mask_of_taken, not_mask}
use Rattle.rule_table.proofs.tails.mask.Goals as goal

pub taken-requires : goal.taken-requires
taken-requires c = rows_small c.mask_items.result.now c.mask_items.ensures

pub returns-then-is_empty : goal.returns-then-is_empty
returns-then-is_empty c =
    let tail = c.args.tail.now in
    let none : (taken mask_rows tail).1 ≡ [] =
    sym (c.taken.ensures.rest ∙ ap (λ rs. (taken rs tail).1) c.mask_items.ensures) ∙ is_nil c.taken.result.1.now (sym c.is_empty.ensures ∙ c.if-is_empty.true) in (
      c.of.result.in_masks,
      mask_of_taken c.of.result.items.bits tail
          (λ x. c.of.ensures x ∙ ap (λ b. b && is_in_masks x) (c.taken.ensures.items x ∙ ap (λ rs. one_of x (taken rs tail).0) c.mask_items.ensures)) none,
    )

pub returns-else-is_empty : goal.returns-else-is_empty
returns-else-is_empty c = λ m is e.
    let tail = c.args.tail.now in
    let none : c.taken.result.1.now ≡ [] = c.taken.ensures.rest ∙ ap (λ rs. (taken rs tail).1) c.mask_items.ensures ∙ not_mask m tail e in
    false≢true (sym c.if-is_empty.false ∙ c.is_empty.ensures ∙ ap (λ xs. length xs == 0) none)
