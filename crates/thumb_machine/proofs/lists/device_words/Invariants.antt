use Rattle.std.proofs.Common.{◌≡◌, ◌≤◌, ◌+◌, drop}
use Rattle.thumb_model.specs.Accesses.{device_words}
use Rattle.thumb_machine.proofs.lists.device_words.Given as goal

abbrev pub invariant-loop-word : goal.invariant-loop-word
invariant-loop-word l = record {
  completes : l.count + device_words l.at (drop l._word-index l.list) ≡ device_words l.address l.list;
  few : l.count ≤ l._word-index;
}
