-- The invariant of `KeptPlaces`: what its links and its counts say of the marks of the places that are gone.
use Rattle.std.specs.Prelude.{◌≡◌, ◌↔◌, ℕ, ◌+◌, ◌*◌, ◌^◌, ◌<◌, ◌≤◌, Bool, true, false, List, length, slice_index}
use Rattle.kept_places.specs.declared.kept.KeptPlaces.TheInside.{Inside}
use Rattle.kept_places.specs.Marks.{is_gone, rank, IsStart}

-- each place leads to itself or to a later one, and the places between lead to later ones too
pub record LeadOn (next : List ℕ) : Type 0 where
  pub from : (p : ℕ) → p < length next → p ≤ slice_index next p
  pub within : (p : ℕ) → p < length next → slice_index next p < length next
  pub between : (p k : ℕ) → p < length next → p ≤ k → k < slice_index next p → k < slice_index next k

-- the way from p ends at q, the first place from p on that leads to itself
pub record EndsAt (next : List ℕ) (p q : ℕ) : Type 0 where
  pub from : p ≤ q
  pub within : q < length next
  pub stays : slice_index next q ≡ q
  pub between : (k : ℕ) → p ≤ k → k < q → k < slice_index next k

-- by both links the same places lead to later ones
abbrev pub LeadAlike : List ℕ → List ℕ → Type 0
LeadAlike next next' = (p : ℕ) → p < length next → (p < slice_index next' p) ↔ (p < slice_index next p)

-- just the places that are gone lead to later ones
pub record LeadOnFrom (gone : List Bool) (next : List ℕ) : Type 0 where
  pub as_many : length next ≡ length gone + 1
  pub leads : LeadOn next
  pub are_gone : (p : ℕ) → p ≤ length gone → (is_gone gone p ≡ true) ↔ (p < slice_index next p)

-- at each kept place and at the end stands the first of the gone places right before it
pub record AreStarts (gone : List Bool) (first : List ℕ) : Type 0 where
  pub as_many : length first ≡ length gone + 1
  pub starts : (q : ℕ) → q ≤ length gone → is_gone gone q ≡ false → IsStart gone q (slice_index first q)

-- the counts say how many places of each group of `size` are gone
pub record AreCounts (size : ℕ) (gone : List Bool) (counts : List ℕ) : Type 0 where
  pub enough : length gone < length counts * size
  pub counted : (k : ℕ) → k < length counts → rank gone (k * size + size) + slice_index counts k ≡ rank gone (k * size) + size

-- the whole invariant
pub record IsKept (s : Inside) : Type 0 where
  pub few : length s.gone.items < 2 ^ 32
  pub leads : LeadOnFrom s.gone.items s.next.items
  pub starts : AreStarts s.gone.items s.first.items
  pub small : AreCounts 64 s.gone.items s.small.items
  pub large : AreCounts 4096 s.gone.items s.large.items
