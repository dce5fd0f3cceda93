use Rattle.std.proofs.Common.{◌≡◌, ◌+◌, ◌*◌, ◌∙◌, ◌&&◌, true, false, ap, arith, length, lt-ltb, nat_lt}
use Rattle.std.proofs.lemmas.Bool.{and_from, le-ltb}
use Rattle.seq_enum.specs.Costs.{cost_under}
use Rattle.table_audit.specs.Lighter.{is_light_at}
use Rattle.table_audit.proofs.Gathering.{none_tested, pushed, passed, tests_instr}
use Rattle.table_audit.proofs.lighter.push_longer.Goals as goal
use Rattle.table_audit.proofs.lighter.push_longer.Goals.{then-longer-count+then-cost-limit+in_ok-push, else-longer-count, else-longer-count-via-then-longer-count+else-cost-limit, else-longer-count-via-else-longer-count}

pub loop-place-init : goal.loop-place-init
loop-place-init c = none_tested _ (c.args.number * length c.args.alphabet.now + 1) c.args.numbers.now.items

pub loop-place-preserved : goal.loop-place-preserved
loop-place-preserved c =
    let first = c.args.number * length c.args.alphabet.now + 1 in
    let place = c.loop-place.place in
    let tests = tests_instr c.args.costs.now c.args.alphabet.now first c.args.limit c.args.count place c.index-alphabet-place.result c.loop-place-test.true c.index-alphabet-place.is in
    elim c.if-longer-count.branch [
      | then-longer-count+then-cost-limit+in_ok-push w ↦ (
          let fits : is_light_at c.args.costs.now c.args.alphabet.now first c.args.limit c.args.count (first + place) ≡ true =
          tests ∙ and_from (nat_lt (first + place) c.args.count) (nat_lt (cost_under c.args.costs.now c.index-alphabet-place.result) c.args.limit) (lt-ltb (first + place) c.args.count w.if-longer-count.true)
          (lt-ltb (cost_under c.args.costs.now c.index-alphabet-place.result) c.args.limit (omega (arith, w.cost.ensures, w.if-cost-limit.true))) in
          rw w.numbers-is (pushed _ first place c.args.numbers.now.items c.loop-place.numbers.items w.push.new.self.items c.loop-place.invariant fits w.in_ok-push.ensures.items)
          )
      | else-longer-count w ↦ elim w.else-longer-count.branch [
        | else-longer-count-via-then-longer-count+else-cost-limit v ↦ (
            let fails : is_light_at c.args.costs.now c.args.alphabet.now first c.args.limit c.args.count (first + place) ≡ false =
            tests ∙ ap (λ b. b && nat_lt (cost_under c.args.costs.now c.index-alphabet-place.result) c.args.limit) (lt-ltb (first + place) c.args.count v.if-longer-count.true)
            ∙ le-ltb (cost_under c.args.costs.now c.index-alphabet-place.result) c.args.limit (omega (arith, v.cost.ensures, v.if-cost-limit.false)) in
            rw w.numbers-is (passed _ first place c.args.numbers.now.items c.loop-place.numbers.items c.loop-place.invariant fails)
            )
        | else-longer-count-via-else-longer-count v ↦ (
            let fails : is_light_at c.args.costs.now c.args.alphabet.now first c.args.limit c.args.count (first + place) ≡ false =
            tests ∙ ap (λ b. b && nat_lt (cost_under c.args.costs.now c.index-alphabet-place.result) c.args.limit) (le-ltb (first + place) c.args.count v.if-longer-count.false) in
            rw w.numbers-is (passed _ first place c.args.numbers.now.items c.loop-place.numbers.items c.loop-place.invariant fails)
            )
      ]
    ]
