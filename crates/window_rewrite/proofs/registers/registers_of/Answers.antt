use Rattle.std.proofs.Common.{arith}
use Rattle.window_rewrite.specs.TableRewriting.{registers_of}
use Rattle.window_rewrite.proofs.Maps.{next_registers}
use Rattle.window_rewrite.proofs.registers.registers_of.Goals as goal

pub loop-canonical-preserved : goal.loop-canonical-preserved
loop-canonical-preserved c = record {
  few = let f = c.loop-canonical.invariant.few in omega (arith, f, c.add_given.ensures.few);
  registers = next_registers c.args.map.now c.loop-canonical.canonical c.get.result c.loop-canonical.registers.items _ (registers_of c.args.map.now) (omega (arith, c.requires, c.loop-canonical-test.true)) c.get.ensures c.add_given.ensures.registers c.loop-canonical.invariant.registers;
}
