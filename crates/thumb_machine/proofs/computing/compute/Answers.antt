use Rattle.std.proofs.Common.{rules, ◌≡◌, ◌*◌}
use Rattle.thumb_instr.specs.declared.operation.SumOperation.TheVariants as sum
use Rattle.thumb_model.specs.Effect.{three_sum}
use Rattle.thumb_machine.proofs.computing.compute.Goals as goal

pub returns-in-StackAddress : goal.returns-in-StackAddress
returns-in-StackAddress c =
    let e : c.total.result ≡ (three_sum sum.Add c.get-x.result (4 * c.in-StackAddress.offset.number)).value = c.total.ensures 0 in
    search rules

pub returns-in-StackMove : goal.returns-in-StackMove
returns-in-StackMove c =
    let e : c.total-in-StackMove.result ≡ (three_sum c.in-StackMove.sum c.get-x-in-StackMove.result (4 * c.in-StackMove.offset.number)).value = c.total-in-StackMove.ensures 0 in
    search rules

pub returns-in_default : goal.returns-in_default
returns-in_default c = c.compute.ensures 0
