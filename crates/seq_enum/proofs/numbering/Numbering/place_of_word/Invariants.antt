use Rattle.std.proofs.Common.{◌<◌, ◌^◌, take, Some}
use Rattle.seq_enum.specs.Alphabet.{IsPlace, words, alphabet}
use Rattle.seq_enum.proofs.numbering.Numbering.place_of_word.Given as goal

abbrev pub invariant-loop-instr : goal.invariant-loop-instr
invariant-loop-instr l = record {
  so_far : IsPlace (Some l.place) (words (alphabet l.self.registers l.self.pool.now) l.instr-index) (take l.instr-index l.instrs);
  small : l.place < l.self.size ^ l.instr-index;
}
