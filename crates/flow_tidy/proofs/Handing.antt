-- Tidying that begins with a draft, whose places keep their numbers, and goes on with a listing: the changes of both together.
use Rattle.std.proofs.Common.{ℕ, ◌+◌, ◌*◌, ◌<◌, ◌≤◌, ◌^◌, List, ◌++◌, length, length-append, arith}
use Rattle.std.proofs.Math.Nat.{mul-le-mul_left}
use Rattle.thumb_model.specs.Listing.{ListingLine, places_of}
use Rattle.flow_tidy.specs.Tidying.{setting, AreTidiedBy}
use Rattle.flow_tidy.specs.Made.{AreMadeBy}
use Rattle.flow_tidy.proofs.Ends.{tidying_ends}

pub handed_over : (base : ℕ) (given ls new : List ListingLine) (n m : ℕ) → AreMadeBy (setting base) given ls n → AreTidiedBy base ls new m → AreTidiedBy base given new (n + m)
handed_over base given ls new n m a t = record {
  changes = a.changes ++ t.changes;
  are = a.lead t.changes new t.are;
  counted = let l = length-append a.changes t.changes in let c = a.counted in let d = t.counted in omega arith;
}

pub square_below : (n : ℕ) → n < 2 ^ 32 → n * (n + 1) < 2 ^ 64
square_below n h =
    let a : n ≤ 4294967295 = omega arith in
    let b : n * (n + 1) ≤ n * 4294967296 = mul-le-mul_left n (omega arith) in
    omega arith

-- so many changes fit into 64 bits
pub all_fit : (base : ℕ) (given new : List ListingLine) (n : ℕ) → AreTidiedBy base given new n → length (places_of given) < 2 ^ 32 → n < 2 ^ 64
all_fit base given new n t h =
    let e = tidying_ends (setting base) given t.changes new t.are in
    let s = square_below (length (places_of given)) h in
    let c = t.counted in
    omega (arith, e.0, s)
