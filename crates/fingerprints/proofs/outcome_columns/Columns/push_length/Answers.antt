use Rattle.std.proofs.Common.{◌≡◌, ◌<◌, ◌≤◌, ◌+◌, ◌-◌, ◌*◌, ◌++◌, subst, length, arith}
use Rattle.step_ledger.specs.Counts.{RisesBy}
use Rattle.step_ledger.proofs.Rises.{goes_on}
use Rattle.fingerprints.specs.OutcomeColumns.{HaveRoom}
use Rattle.fingerprints.proofs.Holding.{holds_next, lengths_done, less_room}
use Rattle.fingerprints.proofs.outcome_columns.Columns.push_length.Goals as goal

pub state_at-from-requires : goal.state_at-from-requires
state_at-from-requires g c = omega (arith, c.loop-place.invariant.more, c.len-count.ensures, c.loop-place-test.true)

pub push_extended-requires-clause-room : goal.push_extended-requires-clause-room
push_extended-requires-clause-room g c =
    let n = length c.args.alphabet.now in
    let all = length c.args.self.now.flags.items in
    let p = c.loop-place.place in
    let low : p < all = omega (arith, c.loop-place-test.true, c.len-count.ensures) in
    let one : all - p ≡ all - (p + 1) + 1 = omega (arith, low) in
    let here : n ≤ 0 + (all - p) * n = rw one (omega arith) in
    less_room c.args.k n _ c.loop-place.self here (c.loop-place.invariant.room 0 (less_room c.args.k (0 + (all - c.args.first) * n) _ c.args.self.now (omega arith) c.requires.room))

pub loop-place-preserved : goal.loop-place-preserved
loop-place-preserved g c =
    let p = c.loop-place.place in
    let n = length c.args.alphabet.now in
    let all = length c.args.self.now.flags.items in
    let one : (p - c.args.first) * n + n ≡ (p + 1 - c.args.first) * n = (let e : p + 1 - c.args.first ≡ p - c.args.first + 1 = omega (arith, c.loop-place.auto.place) in rw e (omega arith)) in
    record {
      holds = λ shorter longest size h.
          let low : p < length (shorter ++ longest) = omega (arith, c.loop-place-test.true, c.len-count.ensures, h.flags) in
          holds_next c.args.k c.args.start.now c.args.alphabet.now shorter longest c.args.first p c.loop-place.self c.push_extended.new.self c.state_at-from.result size c.loop-place.auto.place low
          (c.loop-place.invariant.holds shorter longest size h) c.state_at-from.ensures (c.push_extended.ensures.holds c.args.start.now);
      more = omega (arith, c.loop-place.invariant.more, c.push_extended.ensures.more);
      room = λ more room.
          let low : p < all = omega (arith, c.loop-place-test.true, c.len-count.ensures) in
          let there : all - p ≡ all - (p + 1) + 1 = omega (arith, low) in
          let next : more + (all - p) * n ≡ more + (all - (p + 1)) * n + n = rw there (omega arith) in
          c.push_extended.ensures.room (more + (all - (p + 1)) * n) (subst (λ m. HaveRoom c.args.k m c.loop-place.self) next (c.loop-place.invariant.room more room));
      count = subst (RisesBy c.args.steps.now c.push_extended.new.steps) one (goes_on c.args.steps.now c.loop-place.steps c.push_extended.new.steps ((p - c.args.first) * n) n c.loop-place.invariant.count c.push_extended.ensures.count);
    }

pub returns-clause-holds : goal.returns-clause-holds
returns-clause-holds g c =
    λ shorter longest size h. lengths_done c.args.k c.args.start.now c.args.alphabet.now shorter longest c.args.first c.loop-place.place c.len-count.result c.args.self.now c.loop-place.self size h c.len-count.ensures c.loop-place-test.false (c.loop-place.invariant.holds shorter longest size h)

pub returns-clause-room : goal.returns-clause-room
returns-clause-room g c = λ more room. less_room c.args.k more _ c.loop-place.self (omega arith) (c.loop-place.invariant.room more room)
