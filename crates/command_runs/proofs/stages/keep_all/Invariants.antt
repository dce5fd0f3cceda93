use Rattle.std.proofs.Common.{◌≡◌, ◌++◌, map, take}
use Rattle.command_runs.specs.Plans.{Kept, keepings}
use Rattle.outer_store.specs.Answers.{Grows}
use Rattle.outer_store.specs.Outside.{SameCounts}
use Rattle.command_runs.specs.Outcomes.{keep_view}
use Rattle.command_runs.proofs.stages.keep_all.Given as goal

abbrev pub invariant-loop-keep : goal.invariant-loop-keep
invariant-loop-keep g l = record {
  kept : Kept (take l.keep-index (map keep_view l.keeps)) (g.S.Store.seen l.initial.store) (g.S.Store.seen l.store);
  events : (g.S.Store.seen l.store).events ≡ (g.S.Store.seen l.initial.store).events ++ keepings (take l.keep-index (map keep_view l.keeps));
  counts : SameCounts (g.S.Store.seen l.initial.store) (g.S.Store.seen l.store);
  grows : Grows (g.S.Store.seen l.initial.store) (g.S.Store.seen l.store);
}
