use Rattle.std.proofs.Common.{arith, ◌<◌, ◌≤◌, ◌∙◌, sym, length}
use Rattle.seq_enum.specs.Costs.{weight_under}
use Rattle.table_audit.proofs.Below.{test_kept, test_long, test_heavy, test_none}
use Rattle.table_audit.proofs.Walking.{numbered_over}
use Rattle.table_audit.proofs.widths.below_at.Goals as goal
use Rattle.table_audit.proofs.widths.below_at.Goals.{in_default-via-in-Some+then-len+else-weight, in_default-via-in-Some+else-len, in_default-via-in_default}

pub returns-in-Some-clause-value : goal.returns-in-Some-clause-value
returns-in-Some-clause-value c =
    let short : length c.in-Some.seq ≤ length c.args.left.now = omega arith in
    let light : weight_under c.args.costs.now c.in-Some.seq < weight_under c.args.costs.now c.args.side.now = omega arith in
    test_kept c.args.costs.now c.args.k c.args.pool.now c.args.left.now c.args.side.now c.args.number _ c.seq_at.ensures c.in-Some.seq c.in-Some.is short light

pub returns-in-Some-clause-over : goal.returns-in-Some-clause-over
returns-in-Some-clause-over c = numbered_over c.args.k c.args.pool.now c.args.number c.in-Some.seq c.requires.few (sym c.seq_at.ensures ∙ c.in-Some.is)

pub returns-in_default-clause-value : goal.returns-in_default-clause-value
returns-in_default-clause-value c = elim c.in_default.branch [
  | in_default-via-in-Some+then-len+else-weight w ↦ (
      let short : length w.in-Some.seq ≤ length c.args.left.now = omega arith in
      let heavy : weight_under c.args.costs.now c.args.side.now ≤ weight_under c.args.costs.now w.in-Some.seq = omega arith in
      test_heavy c.args.costs.now c.args.k c.args.pool.now c.args.left.now c.args.side.now c.args.number _ c.seq_at.ensures w.in-Some.seq w.in-Some.is short heavy
      )
  | in_default-via-in-Some+else-len w ↦ (
      let long : length c.args.left.now < length w.in-Some.seq = omega arith in
      test_long c.args.costs.now c.args.k c.args.pool.now c.args.left.now c.args.side.now c.args.number _ c.seq_at.ensures w.in-Some.seq w.in-Some.is long
      )
  | in_default-via-in_default w ↦ test_none c.args.costs.now c.args.k c.args.pool.now c.args.left.now c.args.side.now c.args.number _ c.seq_at.ensures w.in_default.is
]
