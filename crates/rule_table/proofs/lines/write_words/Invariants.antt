use Rattle.std.proofs.Common.{◌≡◌, ◌++◌, take, map}
use Rattle.rule_table.specs.Text.{after_blanks, hex_of}
use Rattle.rule_table.proofs.lines.write_words.Given as goal

abbrev pub invariant-loop-word : goal.invariant-loop-word
invariant-loop-word l = l.out.items ≡ l.initial.out.items ++ after_blanks (map (hex_of 8) (take l.word-index l.words))
