use Rattle.std.proofs.Common.{◌≡◌, ◌<◌, ℕ, false}
use Rattle.rule_table.specs.Scratch.{is_free}
use Rattle.rule_table.proofs.scratch.free_scratch.Given as goal

abbrev pub invariant-loop-number : goal.invariant-loop-number
invariant-loop-number l = (x : ℕ) → x < l.number → is_free l.map l.live.bits x ≡ false
