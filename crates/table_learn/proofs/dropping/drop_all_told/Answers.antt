use Rattle.std.proofs.Common.{◌≡◌, ◌∙◌, [], sym, ap, subst, arith, map, length, List}
use Rattle.std.specs.Prelude.{All}
use Rattle.std.proofs.lemmas.List.Elements.{All-head, All-tail}
use Rattle.window_exec.specs.declared.state.WState.{WState}
use Rattle.window_exec.specs.State.{seen}
use Rattle.rule_table.specs.declared.table.Entry.{Entry}
use Rattle.rule_table.specs.Views.{rule_of}
use Rattle.table_learn.specs.Given.{settings_of}
use Rattle.table_learn.specs.Dropping.{IsSided}
use Rattle.table_learn.specs.Fitness.{without_told}
use Rattle.table_learn.proofs.Dropped.{entry_kept, freed_more, no_items, runs_more}
use Rattle.table_learn.proofs.Rounds.{nothing_drops}
use Rattle.table_learn.proofs.dropping.drop_all_told.Goals as goal

pub returns-then-is_empty-clause-kept : goal.returns-then-is_empty-clause-kept
returns-then-is_empty-clause-kept g c =
    let none : c.args.found.now ≡ [] = no_items c.args.found.now (sym c.is_empty.ensures ∙ c.if-is_empty.true) in
    sym (ap (λ (ss : List WState). map (without_told (settings_of c.args.settings.now) (map seen ss)) (map rule_of c.args.entries.items)) none ∙ nothing_drops (settings_of c.args.settings.now) (map rule_of c.args.entries.items))

pub drop_told-requires : goal.drop_told-requires
drop_told-requires g c = All-head IsSided (rule_of c.in-Some.entry) (map rule_of c.next.new.self.rest.items) (subst (λ (es : List Entry). All IsSided (map rule_of es)) c.in-Some.ensures.steps.0 c.loop-entry.invariant.sided)

pub loop-entry-preserved : goal.loop-entry-preserved
loop-entry-preserved g c =
    let runs = runs_more (length c.args.found.now) c.loop-entry.yielded c.in-Some.entry in
    record {
      sided = All-tail IsSided (rule_of c.in-Some.entry) (map rule_of c.next.new.self.rest.items) (subst (λ (es : List Entry). All IsSided (map rule_of es)) c.in-Some.ensures.steps.0 c.loop-entry.invariant.sided);
      kept = entry_kept (settings_of c.args.settings.now) (map seen c.args.found.now) c.loop-entry.yielded c.loop-entry.kept.items c.push.new.self.items c.in-Some.entry c.in_ok-entry.entry c.in_ok-entry.less c.in_ok-entry.ensures.dropped c.loop-entry.invariant.kept c.in_ok-push.ensures.items;
      freed = freed_more (settings_of c.args.settings.now) (map seen c.args.found.now) c.loop-entry.yielded c.loop-entry.kept.items c.push.new.self.items c.in-Some.entry c.in_ok-entry.entry c.loop-entry.freed c.in_ok-entry.less c.in_ok-freed.freed c.in_ok-entry.ensures.dropped c.loop-entry.invariant.freed c.in_ok-push.ensures.items c.in_ok-freed.ensures;
      cost = omega (arith, c.loop-entry.invariant.cost, c.in_ok-entry.ensures.cost, runs);
    }
