use Rattle.std.proofs.Common.{◌≡◌, ◌≤◌, length, take, map}
use Rattle.std.specs.Prelude.{decimal, All}
use Rattle.lrat_check.specs.Reading.{all_now}
use Rattle.rule_table.proofs.numbers.bytes_of.Given as goal

abbrev pub invariant-loop-word : goal.invariant-loop-word
invariant-loop-word l = record {
  few : length l.bytes.items ≤ l.word-index;
  small : All (λ n. n ≤ 255) l.bytes.items;
  so_far : map decimal l.bytes.items ≡ all_now (take l.word-index l.words);
}
