use Rattle.std.proofs.Common.{arith, length, subst, zero-add}
use Rattle.std.specs.Int.{from_bool}
use Rattle.std.specs.Prelude.{is_some}
use Rattle.std.proofs.lemmas.Option.{IfSome_then}
use Rattle.std.proofs.lemmas.Result.{IfOk-weaker}
use Rattle.step_ledger.specs.Counts.{RisesByAtLeast}
use Rattle.step_ledger.proofs.Rises.{at_least-goes_on}
use Rattle.window_rewrite.specs.Choices.{entries_setting, families_sides}
use Rattle.window_rewrite.specs.Rules.{rules_in}
use Rattle.window_rewrite.specs.Scenes.{lines_seen, number_seen}
use Rattle.window_rewrite.proofs.Applied.{meets_less}
use Rattle.window_rewrite.proofs.Joined.{lowest_behind, lowest_entry, none_of_both, of_length_both}
use Rattle.window_rewrite.proofs.Results.{both_ok, if_none}
use Rattle.window_rewrite.proofs.finding.lowest_in.Goals as goal

pub returns-in-Some-clause-some : goal.returns-in-Some-clause-some
returns-in-Some-clause-some g c = lowest_entry c.args.sight.now.lookup.now.rules.now (lines_seen c.args.sight.now.lookup.now) (number_seen c.args.sight.now.lookup.now) (length c.args.sight.now.window.now) c.in-Some.choice (rw c.in-Some.is at c.in_ok-choice.ensures.some)

pub returns-in-Some-clause-cost : goal.returns-in-Some-clause-cost
returns-in-Some-clause-cost g c = let both = of_length_both (length c.args.sight.now.window.now) (rules_in c.args.sight.now.lookup.now.rules.now.entries.now) (families_sides c.args.sight.now.lookup.now.rules.now) in omega (arith, both, c.lowest_by.ensures.cost)

pub returns-in_err-choice-clause-cost : goal.returns-in_err-choice-clause-cost
returns-in_err-choice-clause-cost g c = let both = of_length_both (length c.args.sight.now.window.now) (rules_in c.args.sight.now.lookup.now.rules.now.entries.now) (families_sides c.args.sight.now.lookup.now.rules.now) in omega (arith, both, c.lowest_by.ensures.cost)

pub returns-clause-cost : goal.returns-clause-cost
returns-clause-cost g c = let both = of_length_both (length c.args.sight.now.window.now) (rules_in c.args.sight.now.lookup.now.rules.now.entries.now) (families_sides c.args.sight.now.lookup.now.rules.now) in omega (arith, both, c.lowest_by.ensures.cost, c.lowest_family.ensures.cost)

pub returns-clause-some : goal.returns-clause-some
returns-clause-some g c =
    let none = rw c.in_default.is at c.in_ok-choice.ensures.none in
    IfOk-weaker c.lowest_family.result _ _ (λ o h. IfSome_then o h (λ x l. lowest_behind c.args.sight.now.lookup.now.rules.now _ (lines_seen c.args.sight.now.lookup.now) (number_seen c.args.sight.now.lookup.now) (length c.args.sight.now.window.now) x none l)) c.lowest_family.ensures.some

pub returns-clause-none : goal.returns-clause-none
returns-clause-none g c =
    let none = rw c.in_default.is at c.in_ok-choice.ensures.none in
    both_ok c.lowest_family.result _ _ c.lowest_family.ensures.none c.lowest_family.ensures.stays (λ o h stays. if_none o h (λ families.
    none_of_both c.args.sight.now.lookup.now.rules.now _ (lines_seen c.args.sight.now.lookup.now) (number_seen c.args.sight.now.lookup.now) (length c.args.sight.now.window.now) (λ r m. none r (meets_less _ _ (entries_setting c.args.sight.now.lookup.now.rules.now) r (lines_seen c.args.sight.now.lookup.now) stays m)) families))

pub returns-clause-stays : goal.returns-clause-stays
returns-clause-stays g c = IfOk-weaker c.lowest_family.result _ _ (λ o stays e. stays (c.in_ok-choice.ensures.stays e)) c.lowest_family.ensures.stays

pub returns-clause-rises : goal.returns-clause-rises
returns-clause-rises g c =
    let before = rw c.in_default.is at c.in_ok-choice.ensures.rises in
    IfOk-weaker c.lowest_family.result _ _ (λ o h. subst (λ n. RisesByAtLeast c.args.steps.now c.lowest_family.new.steps n) (zero-add (from_bool (is_some o))) (at_least-goes_on _ _ _ 0 (from_bool (is_some o)) before h)) c.lowest_family.ensures.rises
