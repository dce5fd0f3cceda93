use Rattle.std.proofs.Common.{◌≡◌, suc, ◌-◌, ◌<◌, arith}
use Rattle.thumb_machine.proofs.Values.{value_step, three_bytes}
use Rattle.thumb_machine.proofs.memory.Memory.+value.Goals as goal

pub overflow_mul-result : goal.overflow_mul-result
overflow_mul-result t c =
    let small : c.value.result < 16777216 = three_bytes (c.args.size - 1) c.value.result (omega arith) c.value.ensures.small in omega arith

pub overflow_add-result : goal.overflow_add-result
overflow_add-result t c =
    let small : c.value.result < 16777216 = three_bytes (c.args.size - 1) c.value.result (omega arith) c.value.ensures.small in omega arith

pub returns-clause-small : goal.returns-clause-small
returns-clause-small t c =
    let e : c.args.size ≡ suc (c.args.size - 1) = omega arith in
    value_step c.args.size (c.args.size - 1) c.from.result c.value.result e (omega arith) c.value.ensures.small
