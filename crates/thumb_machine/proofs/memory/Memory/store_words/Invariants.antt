use Rattle.std.proofs.Common.{◌≡◌, ◌≤◌, ◌*◌, drop, length}
use Rattle.thumb_model.specs.Accesses.{stored_words}
use Rattle.thumb_machine.specs.Memory.{memory_of, room_of}
use Rattle.thumb_machine.proofs.memory.Memory.store_words.Given as goal

abbrev pub invariant-loop-word : goal.invariant-loop-word
invariant-loop-word l = record {
  completes : stored_words (memory_of l.self) l.at (drop l.word-index l.words) ≡ stored_words (memory_of l.fn.self) l.address l.words;
  room : 4 * length (drop l.word-index l.words) ≤ room_of l.self;
}
