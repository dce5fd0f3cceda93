use Rattle.std.proofs.Common.{◌∙◌, ◌++◌, ◌∷◌, [], ap, sym}
use Rattle.fingerprints.proofs.Looking.{numbers_none}
use Rattle.fingerprints.proofs.short_list.all_below.Goals as goal
use Rattle.seq_enum.proofs.Weighing.{numbers_push}

pub loop-number-init : goal.loop-number-init
loop-number-init c = c.in_ok-numbers.ensures.items ∙ sym numbers_none

pub loop-number-preserved : goal.loop-number-preserved
loop-number-preserved c = c.in_ok-push.ensures.items ∙ ap (λ xs. xs ++ c.loop-number.number ∷ []) c.loop-number.invariant ∙ sym (numbers_push c.loop-number.number)
