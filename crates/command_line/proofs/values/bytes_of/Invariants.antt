use Rattle.std.proofs.Common.{◌≡◌, ◌≤◌, length, take, map, Some}
use Rattle.ascii_scan.specs.Numeral.{decimal}
use Rattle.command_line.proofs.values.bytes_of.Given as goal

abbrev pub invariant-loop-word : goal.invariant-loop-word
invariant-loop-word l = record {
  few : length l.bytes.items ≤ l.word-index;
  so_far : map (λ n. Some n) l.bytes.items ≡ map (λ w. decimal w.now) (take l.word-index l.words);
}
