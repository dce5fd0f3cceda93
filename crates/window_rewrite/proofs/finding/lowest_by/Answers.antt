use Rattle.std.proofs.Common.{◌+◌, arith, map}
use Rattle.step_ledger.proofs.Rises.{at_least-stays, at_least-fewer, at_least-goes_on}
use Rattle.rule_table.specs.Views.{family_of, rule_of}
use Rattle.window_rewrite.specs.Rules.{rules_in}
use Rattle.window_rewrite.proofs.Joined.{entries_fit, entry_next, entry_nexts_within}
use Rattle.window_rewrite.specs.Scenes.{lines_seen, number_seen}
use Rattle.window_rewrite.proofs.Keys.{awaited}
use Rattle.window_rewrite.proofs.Chosen.{search_begins, search_next, search_smaller, search_found, search_cost, search_none, none_cost, next_within}
use Rattle.window_rewrite.proofs.finding.lowest_by.Goals as goal

pub loop-at-init : goal.loop-at-init
loop-at-init g c = record {
  search = search_begins _ c.args.sight.now.lookup.now.rules.now.costs.now c.args.sight.now.lookup.now.rules.now.base c.args.sight.now.lookup.now.rules.now.longest (rules_in c.args.sight.now.lookup.now.rules.now.entries.now) c.args.sight.now.lookup.now.rules.now.index.now.entries.kept.items (lines_seen c.args.sight.now.lookup.now) (number_seen c.args.sight.now.lookup.now) c.args.sight.now.window.now c.first_number-at.result _ (entries_fit c.args.sight.now.lookup.now.rules.now.longest (map rule_of c.args.sight.now.lookup.now.rules.now.entries.now) (map family_of c.args.sight.now.lookup.now.rules.now.families.now) c.requires.lookup.ready.fit) c.requires.lookup.ready.index.led (c.first_number-at.ensures c.args.sight.now.window.now c.requires.form);
  stays = λ e. e;
  rises = at_least-stays c.args.steps.now;
}

pub try_entry-requires-clause-number : goal.try_entry-requires-clause-number
try_entry-requires-clause-number g c = next_within c.args.sight.now.lookup.now.rules.now.costs.now c.args.sight.now.lookup.now.rules.now.entries.now c.args.sight.now.lookup.now.rules.now.index.now.entries.kept.items c.args.sight.now.window.now c.loop-at.invariant.search.k c.in-Some.number c.loop-at.at c.loop-at.invariant.search.awaits c.in-Some.is

pub returns-in_err-choice-clause-cost : goal.returns-in_err-choice-clause-cost
returns-in_err-choice-clause-cost g c = search_cost _ c.args.sight.now.lookup.now.rules.now.costs.now c.args.sight.now.lookup.now.rules.now.base (rules_in c.args.sight.now.lookup.now.rules.now.entries.now) c.args.sight.now.lookup.now.rules.now.index.now.entries.kept.items (lines_seen c.args.sight.now.lookup.now) (number_seen c.args.sight.now.lookup.now) c.args.sight.now.window.now c.in-Some.number c.loop-at.at _ _ _ c.loop-at.invariant.search c.in-Some.is c.try_entry.ensures.cost

pub returns-in-Some-2-clause-some : goal.returns-in-Some-2-clause-some
returns-in-Some-2-clause-some g c =
    let choice = rw c.in-Some-2.is at c.in_ok-choice.ensures.some in
    let long = rw c.in-Some-2.is at c.in_ok-choice.ensures.long in
    search_found _ c.args.sight.now.lookup.now.rules.now.costs.now c.args.sight.now.lookup.now.rules.now.base (rules_in c.args.sight.now.lookup.now.rules.now.entries.now) c.args.sight.now.lookup.now.rules.now.index.now.entries.kept.items (lines_seen c.args.sight.now.lookup.now) (number_seen c.args.sight.now.lookup.now) c.args.sight.now.window.now c.in-Some.number c.loop-at.at _ _ c.in-Some-2.choice c.requires.stands.is_window c.loop-at.invariant.search c.in-Some.is long choice.0 choice.1 choice.2

pub returns-in-Some-2-clause-cost : goal.returns-in-Some-2-clause-cost
returns-in-Some-2-clause-cost g c = search_cost _ c.args.sight.now.lookup.now.rules.now.costs.now c.args.sight.now.lookup.now.rules.now.base (rules_in c.args.sight.now.lookup.now.rules.now.entries.now) c.args.sight.now.lookup.now.rules.now.index.now.entries.kept.items (lines_seen c.args.sight.now.lookup.now) (number_seen c.args.sight.now.lookup.now) c.args.sight.now.window.now c.in-Some.number c.loop-at.at _ _ _ c.loop-at.invariant.search c.in-Some.is c.in_ok-choice.ensures.cost

pub next-at-requires : goal.next-at-requires
next-at-requires g c =
    let within = next_within c.args.sight.now.lookup.now.rules.now.costs.now c.args.sight.now.lookup.now.rules.now.entries.now c.args.sight.now.lookup.now.rules.now.index.now.entries.kept.items c.args.sight.now.window.now c.loop-at.invariant.search.k c.in-Some.number c.loop-at.at c.loop-at.invariant.search.awaits c.in-Some.is in
    entry_nexts_within c.args.sight.now.lookup.now.rules.now c.in-Some.number c.requires.lookup.ready within

pub loop-at-smaller : goal.loop-at-smaller
loop-at-smaller g c =
    let i = awaited c.args.sight.now.lookup.now.rules.now.costs.now (rules_in c.args.sight.now.lookup.now.rules.now.entries.now) c.args.sight.now.lookup.now.rules.now.index.now.entries.kept.items c.args.sight.now.window.now c.loop-at.invariant.search.k c.in-Some.number c.loop-at.at c.loop-at.invariant.search.awaits c.in-Some.is in
    search_smaller _ c.args.sight.now.lookup.now.rules.now.costs.now c.args.sight.now.lookup.now.rules.now.base (rules_in c.args.sight.now.lookup.now.rules.now.entries.now) c.args.sight.now.lookup.now.rules.now.index.now.entries.kept.items (lines_seen c.args.sight.now.lookup.now) (number_seen c.args.sight.now.lookup.now) c.args.sight.now.window.now c.in-Some.number c.loop-at.at c.next-at.result _ _ c.loop-at.invariant.search c.in-Some.is (c.in-Some.number + 1) (omega arith) (i.more c.next-at.result (entry_next c.args.sight.now.lookup.now.rules.now c.in-Some.number c.next-at.result c.requires.lookup.ready c.next-at.ensures i.chain i.is_in i.is_kept))

pub loop-at-preserved : goal.loop-at-preserved
loop-at-preserved g c =
    let none = rw c.in_default-2.is at c.in_ok-choice.ensures.none in
    record {
      search = search_next _ _ c.args.sight.now.lookup.now.rules.now.costs.now c.args.sight.now.lookup.now.rules.now.base (rules_in c.args.sight.now.lookup.now.rules.now.entries.now) c.args.sight.now.lookup.now.rules.now.index.now.entries.kept.items (lines_seen c.args.sight.now.lookup.now) (number_seen c.args.sight.now.lookup.now) c.args.sight.now.window.now c.in-Some.number c.loop-at.at c.next-at.result _ _ _ c.requires.stands.is_window c.loop-at.invariant.search c.in-Some.is c.in_ok-choice.ensures.stays none (entry_next c.args.sight.now.lookup.now.rules.now c.in-Some.number c.next-at.result c.requires.lookup.ready c.next-at.ensures) c.in_ok-choice.ensures.cost;
      stays = λ e. c.in_ok-choice.ensures.stays (c.loop-at.invariant.stays e);
      rises = at_least-goes_on _ _ _ 0 0 c.loop-at.invariant.rises (at_least-fewer _ _ _ 0 (omega arith) c.in_ok-choice.ensures.rises);
    }

pub returns-clause-none : goal.returns-clause-none
returns-clause-none g c = search_none _ c.args.sight.now.lookup.now.rules.now.costs.now c.args.sight.now.lookup.now.rules.now.base (rules_in c.args.sight.now.lookup.now.rules.now.entries.now) c.args.sight.now.lookup.now.rules.now.index.now.entries.kept.items (lines_seen c.args.sight.now.lookup.now) (number_seen c.args.sight.now.lookup.now) c.args.sight.now.window.now c.loop-at.at _ _ c.requires.stands.is_window c.loop-at.invariant.search c.in_default.is

pub returns-clause-cost : goal.returns-clause-cost
returns-clause-cost g c = none_cost _ c.args.sight.now.lookup.now.rules.now.costs.now c.args.sight.now.lookup.now.rules.now.base (rules_in c.args.sight.now.lookup.now.rules.now.entries.now) c.args.sight.now.lookup.now.rules.now.index.now.entries.kept.items (lines_seen c.args.sight.now.lookup.now) (number_seen c.args.sight.now.lookup.now) c.args.sight.now.window.now c.loop-at.at _ _ c.loop-at.invariant.search

pub returns-in-Some-2-clause-rises : goal.returns-in-Some-2-clause-rises
returns-in-Some-2-clause-rises g c = at_least-goes_on _ _ _ 0 1 c.loop-at.invariant.rises (rw c.in-Some-2.is at c.in_ok-choice.ensures.rises)
