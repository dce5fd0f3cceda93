use Rattle.std.proofs.Common.{◌≡◌, map, drop}
use Rattle.thumb_syntax.specs.Mnemonics.{group_of, rows_in}
use Rattle.thumb_syntax.proofs.reading.forms_in.Given as goal

abbrev pub invariant-loop-mnemonic : goal.invariant-loop-mnemonic
invariant-loop-mnemonic l = rows_in (map group_of (drop l.mnemonic-index l.mnemonics)) l.word ≡ rows_in (map group_of l.mnemonics) l.word
