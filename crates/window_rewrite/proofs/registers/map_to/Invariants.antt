use Rattle.std.proofs.Common.{◌≡◌, take}
use Rattle.window_rewrite.specs.TableRewriting.{map_of}
use Rattle.window_rewrite.proofs.registers.map_to.Given as goal

abbrev pub invariant-loop-canonical : goal.invariant-loop-canonical
invariant-loop-canonical l = l.given ≡ map_of 8 (take l.canonical l.registers)
