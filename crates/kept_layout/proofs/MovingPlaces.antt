-- Places of blocks, and layouts with another current block.
use Rattle.std.proofs.Common.{◌≡◌, ◌∙◌, inl, inr, ℕ, zero, suc, ◌+◌, ◌-◌, ◌<◌, ◌≤◌, List, [], ◌∷◌, length, take, Some, refl, sym, ap, arith}
use Rattle.std.proofs.lemmas.Bool.{cases_lt}
use Rattle.std.specs.Prelude.{slice_get}
use Rattle.thumb_model.proofs.Lists.{present_at}
use Rattle.kept_layout.specs.declared.kept.KeptLayout.{KeptLayout}
use Rattle.kept_layout.specs.declared.block.Block.{Block}
use Rattle.kept_layout.specs.Blocks.{Footprint, footprint_of, footprints_of, total_places}
use Rattle.kept_layout.specs.Kept.{IsLaid, IsNear}

-- the places of one block more
pub places_more : (ss : List Block) (n : ℕ) (s : Block) → slice_get ss n ≡ Some s → total_places (take (suc n) (footprints_of ss)) ≡ total_places (take n (footprints_of ss)) + s.places
places_more [] n s e = absurd (cc)
places_more (x ∷ ss) zero s e = let same : x ≡ s = cc in let p = ap (λ (y : Block). y.places) same in omega arith
places_more (x ∷ ss) (suc n) s e = let h = places_more ss n s e in omega arith

-- the places of all blocks
pub places_all : (ss : List Block) (n : ℕ) → length ss ≤ n → total_places (take n (footprints_of ss)) ≡ total_places (footprints_of ss)
places_all [] zero h = refl
places_all [] (suc n) h = refl
places_all (x ∷ ss) zero h = absurd (omega arith)
places_all (x ∷ ss) (suc n) h = let r = places_all ss n (omega arith) in omega arith

-- the footprint of a block
pub footprint_at : (ss : List Block) (n : ℕ) (s : Block) → slice_get ss n ≡ Some s → slice_get (footprints_of ss) n ≡ Some (footprint_of s)
footprint_at [] n s e = absurd (cc)
footprint_at (x ∷ ss) zero s e = let same : x ≡ s = cc in ap (λ (y : Block). Some (footprint_of y)) same
footprint_at (x ∷ ss) (suc n) s e = footprint_at ss n s e

-- the invariant holds with another current block
pub elsewhere : (k : KeptLayout) (here first : ℕ) → IsLaid k → here < length k.blocks.items → first ≡ total_places (take here (footprints_of k.blocks.items)) → IsLaid (record k { here = here; first = first })
elsewhere k here first l h f = record {
  in_code = l.in_code;
  starts = l.starts;
  border = l.border;
  noted = l.noted;
  alignments = l.alignments;
  literals = l.literals;
  reach = l.reach;
  targets = l.targets;
  callers = l.callers;
  called = l.called;
  loose = l.loose;
  loose_within = l.loose_within;
  absolute = l.absolute;
  absolute_within = l.absolute_within;
  slack = l.slack;
  here = h;
  first = f;
  rooms = l.rooms;
  walls = l.walls;
}

-- no place comes before the first block
pub not_first : (k : KeptLayout) → IsLaid k → 0 < k.first → 0 < k.here
not_first k l h = elim (cases_lt 0 k.here) [
  | inl some ↦ some
  | inr none ↦ absurd (
      let zero_here : k.here ≡ 0 = omega arith in
      let f = l.first ∙ ap (λ (n : ℕ). total_places (take n (footprints_of k.blocks.items))) zero_here in
      omega arith)
]

-- with the block before as the current one
pub back_one : (k : KeptLayout) (s : Block) → IsLaid k → 0 < k.first → slice_get k.blocks.items (k.here - 1) ≡ Some s
    → (s.places ≤ k.first) × IsLaid (record k { here = k.here - 1; first = k.first - s.places })
back_one k s l h e =
    let some = not_first k l h in
    let here = l.here in
    let more = places_more k.blocks.items (k.here - 1) s e in
    let same : suc (k.here - 1) ≡ k.here = omega arith in
    let first = l.first ∙ sym (ap (λ (n : ℕ). total_places (take n (footprints_of k.blocks.items))) same) ∙ more in
    (omega arith, elsewhere k (k.here - 1) (k.first - s.places) l (omega arith) (omega arith))

-- with the next block as the current one
pub on_one : (k : KeptLayout) (s : Block) → IsLaid k → k.here + 1 < length k.blocks.items → slice_get k.blocks.items k.here ≡ Some s → IsLaid (record k { here = k.here + 1; first = k.first + s.places })
on_one k s l h e =
    let more = places_more k.blocks.items k.here s e in
    let same : suc k.here ≡ k.here + 1 = omega arith in
    let first = ap (λ (n : ℕ). total_places (take n (footprints_of k.blocks.items))) same in
    let was = l.first in
    elsewhere k (k.here + 1) (k.first + s.places) l h (omega arith)

-- ---- where a place is ----

pub within_near : (k : KeptLayout) (s : Block) (place : ℕ) → k.first ≤ place → slice_get k.blocks.items k.here ≡ Some s → place - k.first < s.places → IsNear k place
within_near k s place from e h = record {
  from = from;
  until = λ _ t f. let same : footprint_of s ≡ t = let footprint = footprint_at k.blocks.items k.here s e in cc in let p = ap (λ (u : Footprint). u.places) same in omega arith;
}

pub last_near : (k : KeptLayout) (place : ℕ) → IsLaid k → k.first ≤ place → length k.blocks.items ≤ k.here + 1 → IsNear k place
last_near k place l from h = record {
  from = from;
  until = λ below t f.
      let last = present_at k.blocks.items k.here l.here in
      let s : Block = last.0 in
      let more = places_more k.blocks.items k.here s last.1 in
      let all = places_all k.blocks.items (suc k.here) (omega arith) in
      let same : footprint_of s ≡ t = let footprint = footprint_at k.blocks.items k.here s last.1 in cc in
      let p = ap (λ (u : Footprint). u.places) same in
      let was = l.first in
      omega arith;
}
