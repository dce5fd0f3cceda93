use Rattle.std.proofs.Common.{refl, arith}
use Rattle.std.proofs.lemmas.Option.{MatchOption-at_some, MatchOption-at_none}
use Rattle.std.proofs.lemmas.Result.{IfOk-weaker}
use Rattle.rule_table.specs.Views.{rule_of, table_of}
use Rattle.table_audit.proofs.Covering.{IsTried, short_enough, right_weighs, few_cover, candidates_cover, few_rows}
use Rattle.table_audit.proofs.told.numbers_to_try.Goals as goal

pub overflow_sub-limit : goal.overflow_sub-limit
overflow_sub-limit g c = omega (arith, right_weighs c.args.table.now.costs c.args.entry.now.right c.requires.table.header.costs c.requires.some, c.weight-limit.ensures.value)

pub few_lighter-requires-clause-short : goal.few_lighter-requires-clause-short
few_lighter-requires-clause-short g c =
    omega (arith, short_enough c.args.table.now.costs c.args.entry.now.left c.args.entry.now.right c.requires.short c.requires.no_longer c.requires.some, c.weight-limit.ensures.value, c.len.ensures.value, c.min-longest.ensures)

pub few_lighter-requires-clause-some : goal.few_lighter-requires-clause-some
few_lighter-requires-clause-some g c = omega (arith, right_weighs c.args.table.now.costs c.args.entry.now.right c.requires.table.header.costs c.requires.some, c.weight-limit.ensures.value)

pub candidates-requires-clause-short : goal.candidates-requires-clause-short
candidates-requires-clause-short g c =
    omega (arith, short_enough c.args.table.now.costs c.args.entry.now.left c.args.entry.now.right c.requires.short c.requires.no_longer c.requires.some, c.weight-limit.ensures.value, c.len.ensures.value, c.min-longest.ensures)

pub returns-in-Some-clause-numbers : goal.returns-in-Some-clause-numbers
returns-in-Some-clause-numbers g c =
    let t = table_of c.args.table.now in
    let e = rule_of c.args.entry.now in
    let tried : IsTried t e c.args.outcomes.now.alphabet c.min-longest.result = record {
      costs = c.requires.table.header.costs;
      few = omega (arith, c.len.ensures.few, c.len.ensures.value);
      is_alphabet = c.requires.alphabet;
      is_longest = omega (arith, c.weight-limit.ensures.value, c.len.ensures.value, c.min-longest.ensures);
    } in
    few_cover t e c.args.outcomes.now.alphabet c.min-longest.result tried c.weight-limit.result c.in-Some.numbers.items c.weight-limit.ensures.value (MatchOption-at_some _ _ c.in-Some.numbers c.in-Some.is c.in_ok-numbers.ensures)

pub returns-in-None-clause-numbers : goal.returns-in-None-clause-numbers
returns-in-None-clause-numbers g c =
    let t = table_of c.args.table.now in
    let e = rule_of c.args.entry.now in
    let tried : IsTried t e c.args.outcomes.now.alphabet c.min-longest.result = record {
      costs = c.requires.table.header.costs;
      few = omega (arith, c.len.ensures.few, c.len.ensures.value);
      is_alphabet = c.requires.alphabet;
      is_longest = omega (arith, c.weight-limit.ensures.value, c.len.ensures.value, c.min-longest.ensures);
    } in
    IfOk-weaker c.candidates.result _ _ (λ v are. candidates_cover t e c.args.outcomes.now.alphabet c.min-longest.result tried c.args.trials.now v.items c.args.entry.now.mask.in_masks c.requires.trials are) c.candidates.ensures.candidates

pub returns-in-None-clause-cost : goal.returns-in-None-clause-cost
returns-in-None-clause-cost g c =
    let t = table_of c.args.table.now in
    let e = rule_of c.args.entry.now in
    let tried : IsTried t e c.args.outcomes.now.alphabet c.min-longest.result = record {
      costs = c.requires.table.header.costs;
      few = omega (arith, c.len.ensures.few, c.len.ensures.value);
      is_alphabet = c.requires.alphabet;
      is_longest = omega (arith, c.weight-limit.ensures.value, c.len.ensures.value, c.min-longest.ensures);
    } in
    let rows = few_rows t e c.args.outcomes.now.alphabet c.min-longest.result tried c.args.trials.now c.args.outcomes.now c.weight-limit.result refl c.weight-limit.ensures.value (MatchOption-at_none _ _ c.in-None.is c.in_ok-numbers.ensures) in
    omega (arith, rows, c.candidates.ensures.most)
