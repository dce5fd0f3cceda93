use Rattle.std.proofs.Common.{◌≡◌, ◌∙◌, arith, length, map, sym}
use Rattle.std.proofs.lemmas.Bool.{eqb-true}
use Rattle.std.proofs.lemmas.List.{length-map}
use Rattle.rule_table.specs.Views.{family_of, rule_of}
use Rattle.window_rewrite.proofs.Heads.{reached_both, reached_own}
use Rattle.window_rewrite.proofs.fronts.reach.Goals as goal

pub returns-then-is_empty-clause-none : goal.returns-then-is_empty-clause-none
returns-then-is_empty-clause-none c =
    let e = c.is_empty.ensures in
    let m = length-map c.args.rules.now.families.now family_of in
    let none : length (map family_of c.args.rules.now.families.now) ≡ 0 = m ∙ eqb-true (length c.args.rules.now.families.now) 0 (sym e ∙ c.if-is_empty.true) in
    reached_own c.args.rules.now.costs.now (map rule_of c.args.rules.now.entries.now) (map family_of c.args.rules.now.families.now) c.args.rules.now.index.now c.requires.ready.index c.args.run.now c.reach_in-own.result none c.reach_in-own.ensures.none

pub returns-clause-none : goal.returns-clause-none
returns-clause-none c =
    let h = c.max.ensures in
    reached_both c.args.rules.now.costs.now (map rule_of c.args.rules.now.entries.now) (map family_of c.args.rules.now.families.now) c.args.rules.now.index.now c.requires.ready.index c.args.run.now c.reach_in-own.result c.reach_in-raised.result c.max.result c.reach_in-own.ensures.none c.reach_in-raised.ensures.none (omega arith) (omega arith)
