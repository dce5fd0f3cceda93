use Rattle.std.proofs.Common.{◌≡◌, ◌<◌, ◌^◌, take}
use Rattle.rule_table.specs.Text.{hex_of}
use Rattle.rule_table.proofs.numbers.hex_word.Given as goal

abbrev pub invariant-loop-byte : goal.invariant-loop-byte
invariant-loop-byte l = record { so_far : hex_of l.byte-index l.word ≡ take l.byte-index l.text; small : l.word < 16 ^ l.byte-index }
