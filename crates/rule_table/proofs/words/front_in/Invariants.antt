use Rattle.std.proofs.Common.{◌≡◌, drop}
use Rattle.rule_table.specs.Fronts.{front_in}
use Rattle.rule_table.proofs.words.front_in.Given as goal

abbrev pub invariant-loop-word : goal.invariant-loop-word
invariant-loop-word l = front_in (drop l.word-index l.words) l.bytes ≡ front_in l.words l.bytes
