use Rattle.std.proofs.Common.{◌≡◌, ◌<◌, drop, map}
use Rattle.window_rewrite.specs.Hashes.{seen, hash_from, hash_of}
use Rattle.window_rewrite.proofs.hashes.hash_of.Given as goal

abbrev pub invariant-loop-instr : goal.invariant-loop-instr
invariant-loop-instr l = record {
  hash : hash_from l.hash (map (seen l.hidden) (drop l.instr-index l.window)) ≡ hash_of (map (seen l.hidden) l.window);
  small : l.hash < 65536;
}
