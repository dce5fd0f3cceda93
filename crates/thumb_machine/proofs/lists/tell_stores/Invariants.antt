use Rattle.std.proofs.Common.{◌≡◌, ◌+◌, ◌++◌, drop}
use Rattle.thumb_model.specs.Accesses.{store_events}
use Rattle.thumb_machine.specs.Outside.{events_of}
use Rattle.thumb_machine.proofs.lists.tell_stores.Given as goal

abbrev pub invariant-loop-word : goal.invariant-loop-word
invariant-loop-word l = record {
  completes : events_of l.events.items ++ store_events l.at (drop l.word-index l.words) ≡ events_of l.fn.events.items ++ store_events l.address l.words;
  len : l.events.len ≡ l.fn.events.len + l.word-index;
  cap : l.events.cap ≡ l.fn.events.cap;
}
