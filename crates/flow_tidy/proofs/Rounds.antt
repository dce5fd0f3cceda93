-- Change after change: what was made so far, how many changes there can still be, and how many places are visited.
use Rattle.std.proofs.Common.{◌≡◌, ℕ, ◌+◌, ◌*◌, ◌<◌, ◌≤◌, ◌^◌, List, [], ◌∷◌, ◌++◌, length, length-append, append_assoc, refl, sym, subst, arith}
use Rattle.std.proofs.Math.Nat.{mul_comm, mul-le-mul_left}
use Rattle.thumb_model.specs.Listing.{ListingLine, places_of}
use Rattle.flow_tidy.specs.Tidying.{Setting, Change, lines_after, IsFirst, NonePossible, AreTidied, setting, tidying_cost, AreTidiedBy}
use Rattle.flow_tidy.specs.DuePlaces.{IsNextAt}
use Rattle.flow_tidy.specs.Made.{AreMadeBy}
use Rattle.flow_tidy.proofs.Ends.{room_of, room_less, room_few}
use Rattle.flow_tidy.proofs.Handing.{square_below}

pub nothing_made : (s : Setting) (ls : List ListingLine) → AreMadeBy s ls ls 0
nothing_made s ls = record { changes = []; counted = refl; lead = λ more new h. h }

pub one_more : (s : Setting) (given ls new : List ListingLine) (n : ℕ) → AreMadeBy s given ls n → (c : Change) → IsFirst s c ls → new ≡ lines_after s c ls → AreMadeBy s given new (n + 1)
one_more s given ls new n m c f e = record {
  changes = m.changes ++ c ∷ [];
  counted = let l = length-append m.changes (c ∷ []) in omega (arith, m.counted);
  lead = λ more other h.
      subst (λ (cs : List Change). AreTidied s given cs other) (sym (append_assoc m.changes (c ∷ []) more))
      (m.lead (c ∷ more) other (f, subst (λ (l : List ListingLine). AreTidied s l more other) e h));
}

pub all_made : (base : ℕ) (given ls : List ListingLine) (n : ℕ) → AreMadeBy (setting base) given ls n → NonePossible (setting base) ls → AreTidiedBy base given ls n
all_made base given ls n m h = record {
  changes = m.changes ++ [];
  are = m.lead [] ls (h, refl);
  counted = let l = length-append m.changes [] in omega (arith, m.counted);
}

-- a change leaves room for the others
pub room_left : (s : Setting) (ls new : List ListingLine) (c : Change) → IsFirst s c ls → new ≡ lines_after s c ls → (room_of new + 1 ≤ room_of ls) × (length (places_of new) ≤ length (places_of ls))
room_left s ls new c f e =
    let r = room_less s c ls f.possible.cause in
    subst (λ (l : List ListingLine). (room_of l + 1 ≤ room_of ls) × (length (places_of l) ≤ length (places_of ls))) (sym e) r

-- the first change, where it is found at a place
pub next_made : (s : Setting) (given ls new : List ListingLine) (n p : ℕ) → AreMadeBy s given ls n → IsNextAt s p ls new → AreMadeBy s given new (n + 1)
next_made s given ls new n p m x = one_more s given ls new n m (record { place = p; cause = x.cause }) x.first x.lines

pub next_room : (s : Setting) (ls new : List ListingLine) (p : ℕ) → IsNextAt s p ls new → room_of new + 1 ≤ room_of ls
next_room s ls new p x = (room_left s ls new (record { place = p; cause = x.cause }) x.first x.lines).0

-- so many changes fit into 64 bits
pub count_fits : (given ls new : List ListingLine) (n : ℕ) → length (places_of given) < 2 ^ 32 → n + room_of ls ≤ room_of given → room_of new + 1 ≤ room_of ls → n + 1 < 2 ^ 64
count_fits given ls new n h k l =
    let few = room_few given in
    let square = square_below (length (places_of given)) h in
    fits n (room_of ls) (room_of given) (room_of new) _ k l few square
  where
    fits : (n a b c z : ℕ) → n + a ≤ b → c + 1 ≤ a → b ≤ z → z < 2 ^ 64 → n + 1 < 2 ^ 64
    fits n a b c z h k l m = omega arith

-- ---- how many places are visited ----

few_in_all : (n : ℕ) → n ≤ n * (n + 2)
few_in_all n = let a : n * 1 ≤ n * (n + 2) = mul-le-mul_left n (omega arith) in omega arith

pub once_spent : (before after n : ℕ) (ls : List ListingLine) → after ≤ before + length (places_of ls) → after ≤ before + tidying_cost ls n
once_spent before after n ls h =
    let places : ℕ = length (places_of ls) in
    let all : ℕ = places * (places + 2) in
    let few : places ≤ all = few_in_all places in
    let more : all * 1 ≤ all * (n + 1) = mul-le-mul_left all (omega arith) in
    let same : all * (n + 1) ≡ (n + 1) * all = mul_comm all (n + 1) in
    omega (arith, h, few, more, same)
