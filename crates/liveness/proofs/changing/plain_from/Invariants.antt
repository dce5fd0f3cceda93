use Rattle.std.proofs.Common.{◌≡◌, ◌+◌, ℕ, length, Some}
use Rattle.std.specs.Prelude.{slice_get}
use Rattle.thumb_instr.specs.declared.instr.Instr.{Instr}
use Rattle.thumb_model.specs.Listing.{places_of, plain}
use Rattle.liveness.proofs.changing.plain_from.Given as goal

abbrev pub invariant-loop-at : goal.invariant-loop-at
invariant-loop-at l = record {
  len : length l.instrs ≡ l.at;
  stand : (k : ℕ) (i : Instr) → slice_get l.instrs k ≡ Some i → slice_get (places_of l.listing) (l.place + k) ≡ Some (plain i);
}
