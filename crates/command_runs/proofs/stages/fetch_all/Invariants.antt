use Rattle.std.proofs.Common.{◌≡◌, ◌++◌, map, take}
use Rattle.command_runs.specs.Plans.{AreTexts, fetchings}
use Rattle.outer_store.specs.Answers.{Grows}
use Rattle.outer_store.specs.Outside.{SameHeld, SameCounts}
use Rattle.command_runs.proofs.stages.fetch_all.Given as goal

abbrev pub invariant-loop-name : goal.invariant-loop-name
invariant-loop-name g l = record {
  read : AreTexts (g.S.Store.seen l.initial.store) (take l.name-index (map (λ n. n.now) l.names)) (map (λ t. t.items) l.texts.items);
  events : (g.S.Store.seen l.store).events ≡ (g.S.Store.seen l.initial.store).events ++ fetchings (take l.name-index (map (λ n. n.now) l.names)) (map (λ t. t.items) l.texts.items);
  counts : SameCounts (g.S.Store.seen l.initial.store) (g.S.Store.seen l.store);
  held : SameHeld (g.S.Store.seen l.initial.store).held (g.S.Store.seen l.store).held;
  grows : Grows (g.S.Store.seen l.initial.store) (g.S.Store.seen l.store);
}
