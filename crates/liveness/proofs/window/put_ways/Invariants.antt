use Rattle.std.proofs.Common.{◌≡◌, ◌<◌, ℕ, get_or, false, Option, Some, None}
use Rattle.std.specs.Prelude.{slice_get}
use Rattle.thumb_instr.specs.Items.{one_of}
use Rattle.thumb_model.specs.Flow.{ways_of}
use Rattle.code_flow.specs.declared.way.Ways.{Ways}
use Rattle.code_flow.specs.Flow.{AreWays, way_list}
use Rattle.liveness.specs.Window.{nth_or_nop}
use Rattle.liveness.proofs.window.put_ways.Given as goal

abbrev pub invariant-loop-number : goal.invariant-loop-number
invariant-loop-number l = record {
  put : (k : ℕ) (ws : Option Ways) → k < l.number → slice_get l.ways (get_or l.places k 0) ≡ Some ws → AreWays (get_or l.places k 0) (ways_of None (nth_or_nop l.new k)) (way_list ws);
  others : (q : ℕ) → one_of q l.places ≡ false → slice_get l.ways q ≡ slice_get l.fn.ways q;
}
