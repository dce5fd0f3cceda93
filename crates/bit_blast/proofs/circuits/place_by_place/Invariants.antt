use Rattle.std.proofs.Common.{◌≡◌, take, drop, length}
use Rattle.bit_blast.specs.Circuits.{places_of, before_places}
use Rattle.bit_blast.proofs.circuits.place_by_place.Given as goal

abbrev pub invariant-loop-i : goal.invariant-loop-i
invariant-loop-i l = (length l.value ≡ 32) × (before_places (take l.i l.value) (places_of l.builder (drop l.i l.x) (drop l.i l.y) l.carry l.before) ≡ places_of l.fn.builder l.x l.y l.c l.c)
