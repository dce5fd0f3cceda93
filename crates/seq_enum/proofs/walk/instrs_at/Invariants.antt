use Rattle.std.proofs.Common.{◌≡◌, ◌<◌, ◌-◌, ◌^◌, ◌++◌, List, Some, slice_get, length}
use Rattle.thumb_instr.specs.declared.instr.Instr.{Instr}
use Rattle.seq_enum.specs.Alphabet.{words}
use Rattle.seq_enum.proofs.walk.instrs_at.Given as goal

abbrev pub invariant-loop-turn : goal.invariant-loop-turn
invariant-loop-turn l = record {
  front : (w : List Instr) → slice_get (words l.alphabet (l.count - l._turn)) l.left ≡ Some w
      → slice_get (words l.alphabet l.count) l.place ≡ Some (w ++ l.instrs.items);
  within : l.left < length l.alphabet ^ (l.count - l._turn);
  so_far : length l.instrs.items ≡ l._turn;
}
