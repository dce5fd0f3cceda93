use Rattle.std.proofs.Common.{arith}
use Rattle.std.proofs.lemmas.Bool.{ltb-true}
use Rattle.std.proofs.lemmas.Option.{slice_get-get_or}
use Rattle.table_audit.proofs.Seeds.{there, seen_past}
use Rattle.table_audit.proofs.states.is_there.Goals as goal

pub returns-then-place-states : goal.returns-then-place-states
returns-then-place-states c = there c.args.states.now c.args.place _ c.args.state.now c.eq.result (slice_get-get_or _ _ _ c.if-place-states.true) c.eq.ensures

pub returns-else-place-states : goal.returns-else-place-states
returns-else-place-states c = (
  λ h. absurd (omega (arith, ltb-true _ _ h, c.if-place-states.false)),
  λ h. absurd (seen_past c.args.states.now c.args.place _ c.if-place-states.false h),
)
