use Rattle.std.proofs.Common.{◌≡◌, ◌∙◌, true, arith, length, map, sym}
use Rattle.std.proofs.lemmas.Bool.{eqb-true}
use Rattle.std.proofs.lemmas.List.{length-map}
use Rattle.rule_table.specs.Views.{family_of, rule_of}
use Rattle.window_rewrite.specs.Choices.{table_in}
use Rattle.window_runs.specs.Runs.{run}
use Rattle.window_rewrite.proofs.Heads.{reached_both, reached_own, none_without}
use Rattle.window_rewrite.proofs.fronts.may_begin.Goals as goal

pub returns-in-None : goal.returns-in-None
returns-in-None c = λ f rows e. none_without c.args.rules.now.costs.now (table_in c.args.rules.now) rows (sym c.in-None.is ∙ e)

pub returns-then-is_empty : goal.returns-then-is_empty
returns-then-is_empty c = λ f rows e most.
    let q = c.is_empty.ensures in
    let m = length-map c.args.rules.now.families.now family_of in
    let none : length (map family_of c.args.rules.now.families.now) ≡ 0 = m ∙ eqb-true (length c.args.rules.now.families.now) 0 (sym q ∙ c.if-is_empty.true) in
    reached_own c.args.rules.now.costs.now (map rule_of c.args.rules.now.entries.now) (map family_of c.args.rules.now.families.now) c.args.rules.now.index.now c.requires.ready.index (run true most rows) 0 none (c.may_begin_in.ensures c.if-may_begin_in.false rows (sym c.in-Some.is ∙ e) most)

pub returns-else-is_empty : goal.returns-else-is_empty
returns-else-is_empty c = λ f rows e most.
    reached_both c.args.rules.now.costs.now (map rule_of c.args.rules.now.entries.now) (map family_of c.args.rules.now.families.now) c.args.rules.now.index.now c.requires.ready.index (run true most rows) 0 0 0
    (c.may_begin_in.ensures c.if-may_begin_in.false rows (sym c.in-Some.is ∙ e) most) (c.may_begin_in-in-Some.ensures f rows (sym c.in-Some.is ∙ e) most) (omega arith) (omega arith)
