use Rattle.std.proofs.Common.{◌≡◌, ◌∙◌, ◌&&◌, not, true, false, List, [], sym, ap, eqb-true}
use Rattle.thumb_instr.specs.Items.{has}
use Rattle.liveness.specs.declared.flowing.Flow.{Flow}
use Rattle.liveness.specs.Through.{read_along}
use Rattle.liveness.proofs.Through.{is_within, not_read}
use Rattle.liveness.proofs.changing.are_read.Goals as goal

pub returns-then-missing-eq0 : goal.returns-then-missing-eq0
returns-then-missing-eq0 c = λ e. record {
  ahead = [];
  flows = λ k f e. absurd (cc);
  read = λ x h n.
      let t : has c.set_before.result.bits x ≡ true = is_within c.args.items.bits c.set_before.result.bits c.minus-missing.result.bits c.minus-missing.ensures c.if-missing-eq0.true x h in
      let u = not_read c.args.instrs.now c.none.result.bits c.set_before.result.bits c.none.ensures c.set_before.ensures x n in
      absurd (let bad : true ≡ false = sym t ∙ u in cc);
}

pub returns : goal.returns
returns c = λ none. record {
  ahead = c.flows_from-ahead.result.items;
  flows = c.flows_from-ahead.ensures;
  read = λ x h n.
      let u = not_read c.args.instrs.now c.none.result.bits c.set_before.result.bits c.none.ensures c.set_before.ensures x n in
      let missing : has c.minus-missing.result.bits x ≡ true = c.minus-missing.ensures x ∙ ap (λ b. b && not (has c.set_before.result.bits x)) h ∙ ap not u in
      let found = is_within c.minus-missing.result.bits c.read_ahead.result.bits c.minus.result.bits c.minus.ensures (eqb-true c.minus.result.bits 0 none) x missing in
      ap (λ (fs : List Flow). read_along fs x) (sym c.as_slice.ensures.value) ∙ sym (c.read_ahead.ensures x) ∙ found;
}
