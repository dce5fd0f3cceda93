use Rattle.std.proofs.Common.{sym, subst}
use Rattle.thumb_instr.specs.declared.items.Items.{Items}
use Rattle.window_rewrite.specs.Choices.{table_in}
use Rattle.window_rewrite.specs.Fitting.{StandsThere}
use Rattle.window_rewrite.specs.Scenes.{lines_seen, number_seen}
use Rattle.window_rewrite.proofs.Chosen.{none_in, none_formed}
use Rattle.window_rewrite.proofs.finding.lowest.Goals as goal

pub returns-then-not-may_stand-clause-none : goal.returns-then-not-may_stand-clause-none
returns-then-not-may_stand-clause-none g c =
    none_in _ c.args.lookup.now.rules.now.costs.now c.args.lookup.now.rules.now.base c.args.lookup.now.rules.now.longest (table_in c.args.lookup.now.rules.now) (lines_seen c.args.lookup.now) (number_seen c.args.lookup.now) c.args.window.now c.requires.lookup.ready.fit c.requires.stands.is_window (c.may_stand.ensures c.if-not-may_stand.true)

pub of-requires : goal.of-requires
of-requires g c = c.requires.stands.is_window.in_window

pub returns-in-None-clause-none : goal.returns-in-None-clause-none
returns-in-None-clause-none g c = none_formed _ c.args.lookup.now.rules.now.costs.now c.args.lookup.now.rules.now.base c.args.lookup.now.rules.now.longest (table_in c.args.lookup.now.rules.now) (lines_seen c.args.lookup.now) (number_seen c.args.lookup.now) c.args.window.now c.requires.lookup.ready.fit c.requires.stands.is_window c.in-None.ensures.none

pub lowest_in-requires : goal.lowest_in-requires
lowest_in-requires g c = record {
  lookup = c.requires.lookup;
  stands = subst (λ (i : Items). StandsThere (lines_seen c.args.lookup.now) (number_seen c.args.lookup.now) c.args.window.now i.bits) (sym c.in-Some.ensures.live) c.requires.stands;
  within = c.requires.within;
  form = c.in-Some.ensures.some;
}
