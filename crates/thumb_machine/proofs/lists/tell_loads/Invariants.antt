use Rattle.std.proofs.Common.{◌≡◌, ◌+◌, ◌++◌, drop}
use Rattle.thumb_model.specs.Accesses.{load_events}
use Rattle.thumb_machine.specs.Outside.{events_of}
use Rattle.thumb_machine.proofs.lists.tell_loads.Given as goal

abbrev pub invariant-loop-word : goal.invariant-loop-word
invariant-loop-word l = record {
  completes : events_of l.events.items ++ load_events l.at (drop l._word-index l.list) ≡ events_of l.fn.events.items ++ load_events l.address l.list;
  len : l.events.len ≡ l.fn.events.len + l._word-index;
  cap : l.events.cap ≡ l.fn.events.cap;
}
