use Rattle.std.proofs.Common.{◌≡◌, ◌+◌, ◌<◌, ◌≤◌, ◌&&◌, nat_lt, ℕ, length, get_or}
use Rattle.std.specs.Int.{from_bool}
use Rattle.thumb_instr.specs.Items.{has}
use Rattle.liveness.proofs.counted.recount.Given as goal

abbrev pub invariant-loop-item : goal.invariant-loop-item
invariant-loop-item l = record {
  kinds : length l.counts.items ≡ 19;
  done : (x : ℕ) → x < l.item → get_or l.counts.items x 0 + from_bool (has l.old.bits x) ≡ get_or l.fn.counts.items x 0 + from_bool (has l.new.bits x);
  rest : (x : ℕ) → l.item ≤ x → get_or l.counts.items x 0 ≡ get_or l.fn.counts.items x 0;
  points : (x : ℕ) → has l.points.bits x ≡ (nat_lt x l.item && nat_lt 0 (get_or l.counts.items x 0));
}
