use Rattle.std.proofs.Common.{◌≡◌, ◌≤◌, ◌+◌, true, List, length, take, drop, map, subst, sym, ap, arith}
use Rattle.thumb_instr.specs.declared.instr.Instr.{Instr}
use Rattle.thumb_model.specs.Listing.{code_of}
use Rattle.window_harvest.specs.Harvest.{pair_of, spot_of, StandsThere}
use Rattle.window_harvest.specs.LimitsOf.{limits_of}
use Rattle.window_harvest.proofs.Added.{spots_none, spots_more, spots_end}
use Rattle.window_harvest.proofs.Places.{stands_there, none_beyond}
use Rattle.window_runs.proofs.Lengths.{run_within, run_short}
use Rattle.window_harvest.proofs.adding.add_place.Goals as goal

pub loop-last-init : goal.loop-last-init
loop-last-init c = λ lines of seen. (seen, spots_none (limits_of c.args.limits) lines c.args.place (map pair_of c.args.pairs.now.items))

pub overflow_add-place : goal.overflow_add-place
overflow_add-place c =
    let within = run_within c.from.result c.args.place c.loop-last.last c.args.rows.now c.run-run.result c.run-run.ensures c.requires.place (omega (arith, c.loop-last-test.true, c.len-last-end.ensures.value)) in
    omega (arith, c.requires.few)

pub after-items-requires : goal.after-items-requires
after-items-requires c =
    let within = run_within c.from.result c.args.place c.loop-last.last c.args.rows.now c.run-run.result c.run-run.ensures c.requires.place (omega (arith, c.loop-last-test.true, c.len-last-end.ensures.value)) in
    omega (arith, c.requires.rows)

pub loop-last-preserved : goal.loop-last-preserved
loop-last-preserved c = λ lines of seen.
    let all = c.loop-last.invariant lines of seen in
    let stands : StandsThere lines (spot_of c.args.place (c.loop-last.last + 1)) (take (c.loop-last.last + 1) c.run-run.result) c.after-items.result.bits =
    stands_there lines c.args.rows.now c.args.live.now c.args.place c.from.result c.loop-last.last c.after-items.result.bits c.run-run.result of c.run-run.ensures
    (omega (arith, c.loop-last-test.true, c.len-last-end.ensures.value)) (c.after-items.ensures.live (code_of lines) of.live) in
    let there : StandsThere lines (spot_of c.args.place (c.loop-last.last + 1)) (take (c.loop-last.last + 1) c.as_slice.result.now) c.after-items.result.bits =
    subst (λ (is : List Instr). StandsThere lines (spot_of c.args.place (c.loop-last.last + 1)) (take (c.loop-last.last + 1) is) c.after-items.result.bits) (sym c.as_slice.ensures.value) stands in
    let more = c.in_ok-add_window.ensures lines (spot_of c.args.place (c.loop-last.last + 1)) there all.0 in (
      more.0,
      spots_more (limits_of c.args.limits) lines c.args.place c.loop-last.last (map pair_of c.args.pairs.now.items) (map pair_of c.loop-last.pairs.items) (map pair_of c.add_window.new.pairs.items) all.1 more.1,
    )

pub returns : goal.returns
returns c = λ lines of seen.
    let all = c.loop-last.invariant lines of seen in
    let ended : c.loop-last.last ≡ length c.run-run.result = omega (arith, c.loop-last-test.false, c.loop-last.auto.last-end, c.len-last-end.ensures.value) in
    let short : c.loop-last.last ≤ c.args.limits.left = omega (arith, ended, ap (λ (is : List Instr). length is) c.run-run.ensures, run_short true c.from.result (drop c.args.place c.args.rows.now), c.from.ensures) in (
      all.0,
      spots_end (limits_of c.args.limits) lines c.args.place c.loop-last.last c.args.limits.left (map pair_of c.args.pairs.now.items) (map pair_of c.loop-last.pairs.items) short
          (λ m b d. none_beyond (limits_of c.args.limits) lines c.args.rows.now c.args.live.now c.args.place c.from.result m c.run-run.result of c.run-run.ensures (omega arith) (omega (arith, c.from.ensures))) all.1,
    )
