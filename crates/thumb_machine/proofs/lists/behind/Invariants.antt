use Rattle.std.proofs.Common.{◌≡◌, drop}
use Rattle.thumb_model.specs.Accesses.{behind}
use Rattle.thumb_machine.proofs.lists.behind.Given as goal

abbrev pub invariant-loop-word : goal.invariant-loop-word
invariant-loop-word l = behind (drop l._word-index l.list) l.at ≡ behind l.list l.address
