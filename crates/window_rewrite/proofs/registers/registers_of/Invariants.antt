use Rattle.std.proofs.Common.{◌≡◌, ◌≤◌, ◌++◌, drop, length}
use Rattle.window_rewrite.specs.TableRewriting.{registers_of}
use Rattle.window_rewrite.proofs.registers.registers_of.Given as goal

abbrev pub invariant-loop-canonical : goal.invariant-loop-canonical
invariant-loop-canonical l = record {
  few : length l.registers.items ≤ l.canonical;
  registers : l.registers.items ++ registers_of (drop l.canonical l.map) ≡ registers_of l.map;
}
