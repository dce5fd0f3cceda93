use Rattle.std.proofs.Common.{◌≡◌, ◌<◌, ◌≤◌, length, map, take}
use Rattle.window_rewrite.specs.Fitting.{NoneBetween}
use Rattle.window_rewrite.specs.Hashes.{seen, hash_of}
use Rattle.window_rewrite.proofs.fronts.reach_in.Given as goal

abbrev pub invariant-loop-at : goal.invariant-loop-at
invariant-loop-at l = record {
  within : l.at ≤ length l.run;
  hash : l.hash ≡ hash_of (take l.at (map (seen l.hidden) l.run));
  small : l.hash < 65536;
  fewer : l.reached ≤ l.at;
  none : NoneBetween l.marks l.hidden l.run l.reached l.at;
}
