use Rattle.std.proofs.Common.{◌≡◌, ◌<◌, ℕ, true, length, take}
use Rattle.window_rewrite.specs.Rules.{is_marked, AreMarked}
use Rattle.window_rewrite.specs.Hashes.{hash_of}
use Rattle.window_rewrite.proofs.left_side_hashes.mark_fronts.Given as goal

abbrev pub invariant-loop-instr : goal.invariant-loop-instr
invariant-loop-instr l = record {
  many : length l.marks.items ≡ 65536;
  kept : (q : ℕ) → is_marked l.initial.marks.items q ≡ true → is_marked l.marks.items q ≡ true;
  fronts : AreMarked l.marks.items l.left l.instr-index;
  hash : l.hash ≡ hash_of (take l.instr-index l.left);
  small : l.hash < 65536;
}
