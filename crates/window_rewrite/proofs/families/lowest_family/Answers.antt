use Rattle.std.proofs.Common.{◌≡◌, ◌∙◌, arith, eqb-true, length, refl, sym}
use Rattle.step_ledger.proofs.Rises.{at_least-stays, at_least-fewer, at_least-goes_on}
use Rattle.window_rewrite.specs.Scenes.{lines_seen, number_seen}
use Rattle.window_rewrite.proofs.FamilySearch.{family_found, family_next, family_none, family_search_begins, family_search_cost, family_search_spent, family_smaller, family_within, nexts_within}
use Rattle.window_rewrite.proofs.families.lowest_family.Goals as goal

pub loop-at-init : goal.loop-at-init
loop-at-init g c = record {
  search = family_search_begins _ c.args.sight.now.lookup.now.rules.now (lines_seen c.args.sight.now.lookup.now) (number_seen c.args.sight.now.lookup.now) (length c.args.sight.now.window.now) c.args.sight.now.form.now.side c.first_number-at.result _ c.first_number-at.ensures;
  stays = λ e. e;
  rises = at_least-stays c.args.steps.now;
}

pub try_family-requires-clause-number : goal.try_family-requires-clause-number
try_family-requires-clause-number g c = family_within c.args.sight.now.lookup.now.rules.now c.args.sight.now.form.now.side c.requires.lookup.ready c.loop-at.invariant.search.k c.in-Some.number c.loop-at.at c.loop-at.invariant.search.awaits c.in-Some.is

pub next-at-requires : goal.next-at-requires
next-at-requires g c =
    let within = family_within c.args.sight.now.lookup.now.rules.now c.args.sight.now.form.now.side c.requires.lookup.ready c.loop-at.invariant.search.k c.in-Some.number c.loop-at.at c.loop-at.invariant.search.awaits c.in-Some.is in
    nexts_within c.args.sight.now.lookup.now.rules.now c.in-Some.number c.requires.lookup.ready within

pub returns-in_err-choice-clause-cost : goal.returns-in_err-choice-clause-cost
returns-in_err-choice-clause-cost g c =
    family_search_cost c.args.sight.now.lookup.now.rules.now c.args.sight.now.form.now.side c.requires.lookup.ready (lines_seen c.args.sight.now.lookup.now) (number_seen c.args.sight.now.lookup.now) c.args.sight.now.window.now c.args.sight.now.form.now c.requires.stands.is_window c.requires.form refl _ c.in-Some.number c.loop-at.at _ _ _ c.loop-at.invariant.search c.in-Some.is c.try_family.ensures.cost

pub returns-in-Some-2-clause-some : goal.returns-in-Some-2-clause-some
returns-in-Some-2-clause-some g c =
    let choice = rw c.in-Some-2.is at c.in_ok-choice.ensures.some in
    family_found c.args.sight.now.lookup.now.rules.now c.args.sight.now.form.now.side c.requires.lookup.ready (lines_seen c.args.sight.now.lookup.now) (number_seen c.args.sight.now.lookup.now) c.args.sight.now.window.now c.args.sight.now.form.now c.requires.stands.is_window c.requires.form refl _ c.in-Some.number c.loop-at.at _ _ c.in-Some-2.choice c.loop-at.invariant.search c.in-Some.is choice

pub returns-in-Some-2-clause-cost : goal.returns-in-Some-2-clause-cost
returns-in-Some-2-clause-cost g c =
    family_search_cost c.args.sight.now.lookup.now.rules.now c.args.sight.now.form.now.side c.requires.lookup.ready (lines_seen c.args.sight.now.lookup.now) (number_seen c.args.sight.now.lookup.now) c.args.sight.now.window.now c.args.sight.now.form.now c.requires.stands.is_window c.requires.form refl _ c.in-Some.number c.loop-at.at _ _ _ c.loop-at.invariant.search c.in-Some.is c.in_ok-choice.ensures.cost

pub returns-in-Some-2-clause-rises : goal.returns-in-Some-2-clause-rises
returns-in-Some-2-clause-rises g c = at_least-goes_on _ _ _ 0 1 c.loop-at.invariant.rises (rw c.in-Some-2.is at c.in_ok-choice.ensures.rises)

pub loop-at-smaller : goal.loop-at-smaller
loop-at-smaller g c = family_smaller c.args.sight.now.lookup.now.rules.now c.args.sight.now.form.now.side c.requires.lookup.ready c.loop-at.invariant.search.k c.in-Some.number c.loop-at.at c.next-at.result c.loop-at.invariant.search.awaits c.in-Some.is c.next-at.ensures

pub loop-at-preserved : goal.loop-at-preserved
loop-at-preserved g c =
    let none = rw c.in_default-2.is at c.in_ok-choice.ensures.none in
    record {
      search = family_next c.args.sight.now.lookup.now.rules.now c.args.sight.now.form.now.side c.requires.lookup.ready (lines_seen c.args.sight.now.lookup.now) (number_seen c.args.sight.now.lookup.now) c.args.sight.now.window.now c.args.sight.now.form.now c.requires.stands.is_window c.requires.form refl _ _ c.in-Some.number c.loop-at.at c.next-at.result _ _ _ c.loop-at.invariant.search c.in-Some.is c.in_ok-choice.ensures.stays none c.next-at.ensures c.in_ok-choice.ensures.cost;
      stays = λ e. c.in_ok-choice.ensures.stays (c.loop-at.invariant.stays e);
      rises = at_least-goes_on _ _ _ 0 0 c.loop-at.invariant.rises (at_least-fewer _ _ _ 0 (omega arith) c.in_ok-choice.ensures.rises);
    }

pub returns-clause-none : goal.returns-clause-none
returns-clause-none g c =
    family_none c.args.sight.now.lookup.now.rules.now c.args.sight.now.form.now.side c.requires.lookup.ready (lines_seen c.args.sight.now.lookup.now) (number_seen c.args.sight.now.lookup.now) c.args.sight.now.window.now c.args.sight.now.form.now c.requires.stands.is_window c.requires.form refl _ c.loop-at.at _ _ c.loop-at.invariant.search c.in_default.is

pub returns-clause-cost : goal.returns-clause-cost
returns-clause-cost g c = family_search_spent _ c.args.sight.now.lookup.now.rules.now (lines_seen c.args.sight.now.lookup.now) (number_seen c.args.sight.now.lookup.now) (length c.args.sight.now.window.now) c.args.sight.now.form.now.side c.loop-at.at _ _ c.loop-at.invariant.search

-- where there are no families, none meets this
pub returns-then-is_empty-clause-none : goal.returns-then-is_empty-clause-none
returns-then-is_empty-clause-none g c =
    let none : length c.args.sight.now.lookup.now.rules.now.families.now ≡ 0 = eqb-true (length c.args.sight.now.lookup.now.rules.now.families.now) 0 (sym c.is_empty.ensures ∙ c.if-is_empty.true) in
    λ o m here long from below. absurd (omega (arith, from, below, none))
