-- Groups of blocks: how many places each has.
use Rattle.std.proofs.Common.{◌≡◌, ◌∙◌, inl, inr, ℕ, zero, suc, ◌+◌, ◌*◌, ◌-◌, ◌/◌, ◌<◌, ◌≤◌, List, [], ◌∷◌, ◌++◌, length, take, Some, refl, sym, ap, subst, arith, div-add-mod', length-append}
use Rattle.std.specs.Prelude.{slice_get}
use Rattle.std.proofs.lemmas.Bool.{cases_lt}
use Rattle.std.proofs.lemmas.Nat.{mod_below}
use Rattle.std.proofs.lemmas.Option.{slice_get_within}
use Rattle.thumb_model.proofs.Lists.{get_back, present_at}
use Rattle.kept_layout.specs.declared.kept.KeptLayout.{KeptLayout}
use Rattle.kept_layout.specs.declared.block.Block.{Block}
use Rattle.kept_layout.specs.Blocks.{lessen, footprint_of, footprints_of, total_places, Footprint}
use Rattle.kept_layout.specs.Kept.{AreRooms, IsLaid}
use Rattle.kept_layout.proofs.MovingPlaces.{places_more, footprint_at}
use Rattle.common_lemmas.proofs.Lists.{get_front}

-- ---- the places of the first blocks ----

taken_grow : (n m : ℕ) (ss : List Footprint) → n ≤ m → total_places (take n ss) ≤ total_places (take m ss)
taken_grow zero m ss l = omega arith
taken_grow (suc n) zero ss l = absurd (omega arith)
taken_grow (suc n) (suc m) [] l = omega arith
taken_grow (suc n) (suc m) (s ∷ ss) l = let r = taken_grow n m ss (omega arith) in omega arith

taken_more : (n : ℕ) (ss : List Footprint) (s : Footprint) → slice_get ss n ≡ Some s → total_places (take (suc n) ss) ≡ total_places (take n ss) + s.places
taken_more n [] s e = absurd (cc)
taken_more zero (x ∷ ss) s e = let same : x ≡ s = cc in let p = ap (λ (y : Footprint). y.places) same in omega arith
taken_more (suc n) (x ∷ ss) s e = let h = taken_more n ss s e in omega arith

taken_before : (h bytes gone n : ℕ) (ss : List Footprint) → n ≤ h → total_places (take n (lessen h bytes gone ss)) ≡ total_places (take n ss)
taken_before h bytes gone zero ss l = refl
taken_before h bytes gone (suc n) [] l = refl
taken_before zero bytes gone (suc n) (s ∷ ss) l = absurd (omega arith)
taken_before (suc h) bytes gone (suc n) (s ∷ ss) l = let r = taken_before h bytes gone n ss (omega arith) in omega arith

taken_behind : (h bytes gone n : ℕ) (ss : List Footprint) (s : Footprint) → h < n → slice_get ss h ≡ Some s → gone ≤ s.places → total_places (take n (lessen h bytes gone ss)) + gone ≡ total_places (take n ss)
taken_behind h bytes gone n [] s l e g = absurd (cc)
taken_behind h bytes gone zero (x ∷ ss) s l e g = absurd (omega arith)
taken_behind zero bytes gone (suc n) (x ∷ ss) s l e g = let same : x ≡ s = cc in let p = ap (λ (y : Footprint). y.places) same in omega arith
taken_behind (suc h) bytes gone (suc n) (x ∷ ss) s l e g = let r = taken_behind h bytes gone n ss s (omega arith) e g in omega arith

-- ---- a block loses places ----

-- the block's group has the places that go
pub room_has : (rooms : List ℕ) (footprints : List Footprint) (h gone : ℕ) (s : Footprint) → AreRooms rooms footprints → slice_get footprints h ≡ Some s → gone ≤ s.places → (r : ℕ) → slice_get rooms (h / 128) ≡ Some r → gone ≤ r
room_has rooms footprints h gone s are e g r f =
    let is = are (h / 128) r f in
    let split = div-add-mod' h 128 in
    let low = mod_below h 128 (omega arith) in
    let more = taken_more h footprints s e in
    let before = taken_grow (h / 128 * 128) h footprints (omega arith) in
    let behind = taken_grow (suc h) (h / 128 * 128 + 128) footprints (omega arith) in
    omega arith

pub rooms_lessen : (rooms more : List ℕ) (footprints : List Footprint) (h bytes gone : ℕ) (s : Footprint) → AreRooms rooms footprints → slice_get footprints h ≡ Some s → gone ≤ s.places → ((r : ℕ) → slice_get more (h / 128) ≡ Some r → slice_get rooms (h / 128) ≡ Some (r + gone))
    → ((g : ℕ) → (g ≡ h / 128 → ⊥) → slice_get more g ≡ slice_get rooms g) → AreRooms more (lessen h bytes gone footprints)
rooms_lessen rooms more footprints h bytes gone s are e few own others g room f =
    let split = div-add-mod' h 128 in
    let low = mod_below h 128 (omega arith) in
    elim (cases_lt g (h / 128)) [
      | inl before ↦
          let is = are g room (sym (others g (λ x. omega arith)) ∙ f) in
          let one = taken_before h bytes gone (g * 128) footprints (omega arith) in
          let two = taken_before h bytes gone (g * 128 + 128) footprints (omega arith) in
          omega arith
      | inr not ↦ elim (cases_lt (h / 128) g) [
        | inl behind ↦
            let is = are g room (sym (others g (λ x. omega arith)) ∙ f) in
            let one = taken_behind h bytes gone (g * 128) footprints s (omega arith) e few in
            let two = taken_behind h bytes gone (g * 128 + 128) footprints s (omega arith) e few in
            omega arith
        | inr same ↦
            let here : g ≡ h / 128 = omega arith in
            let is = are (h / 128) (room + gone) (own room (ap (slice_get more) (sym here) ∙ f)) in
            let one = taken_before h bytes gone (g * 128) footprints (omega arith) in
            let two = taken_behind h bytes gone (g * 128 + 128) footprints s (omega arith) e few in
            let three : total_places (take (h / 128 * 128) footprints) ≡ total_places (take (g * 128) footprints) = ap (λ n. total_places (take (n * 128) footprints)) (sym here) in
            let four : total_places (take (h / 128 * 128 + 128) footprints) ≡ total_places (take (g * 128 + 128) footprints) = ap (λ n. total_places (take (n * 128 + 128) footprints)) (sym here) in
            omega arith
      ]
    ]

-- ---- counting ----

-- the full groups before `number` were counted, and the `places` places of the blocks after them
pub record IsCounted (footprints : List Footprint) (found : List ℕ) (from places number : ℕ) : Type 0 where
  pub start : from ≡ length found * 128
  pub low : from ≤ number
  pub high : number < from + 128
  pub room : total_places (take from footprints) + places ≡ total_places (take number footprints)
  pub rooms : AreRooms found footprints

pub none_counted : (footprints : List Footprint) (rooms : List ℕ) → rooms ≡ [] → IsCounted footprints rooms 0 0 0
none_counted footprints rooms e = record {
  start = let l = ap (λ (xs : List ℕ). length xs) e in omega arith;
  low = omega arith;
  high = omega arith;
  room = refl;
  rooms = λ g r f. absurd (let none : slice_get rooms g ≡ slice_get [] g = ap (λ (xs : List ℕ). slice_get xs g) e in cc);
}

pub count_on : (ss : List Block) (rooms : List ℕ) (start room number more following : ℕ) (s : Block) → IsCounted (footprints_of ss) rooms start room number → slice_get ss number ≡ Some s → more ≡ room + s.places → following ≡ suc number → number - start < 127 → IsCounted (footprints_of ss) rooms start more following
count_on ss rooms start room number more following s c e f g h =
    let next = places_more ss number s e in
    let low = c.low in
    let had = c.room in
    let same : total_places (take following (footprints_of ss)) ≡ total_places (take (suc number) (footprints_of ss)) = ap (λ n. total_places (take n (footprints_of ss))) g in
    record { start = c.start; low = omega arith; high = omega arith; room = omega arith; rooms = c.rooms }

pub count_full : (ss : List Block) (rooms full : List ℕ) (start room number more following : ℕ) (s : Block) → IsCounted (footprints_of ss) rooms start room number → slice_get ss number ≡ Some s → more ≡ room + s.places → following ≡ suc number → 127 ≤ number - start → full ≡ rooms ++ more ∷ []
    → IsCounted (footprints_of ss) full following 0 following
count_full ss rooms full start room number more following s c e f g h k =
    let next = places_more ss number s e in
    let low = c.low in
    let high = c.high in
    let had = c.room in
    let begins = c.start in
    let longer = length-append rooms (more ∷ []) in
    let count = ap (λ (xs : List ℕ). length xs) k in
    let ends : suc number ≡ length rooms * 128 + 128 = omega arith in
    let one : total_places (take (length rooms * 128 + 128) (footprints_of ss)) ≡ total_places (take (suc number) (footprints_of ss)) = ap (λ n. total_places (take n (footprints_of ss))) (sym ends) in
    let two : total_places (take (length rooms * 128) (footprints_of ss)) ≡ total_places (take start (footprints_of ss)) = ap (λ n. total_places (take n (footprints_of ss))) (sym begins) in
    record {
      start = omega arith;
      low = omega arith;
      high = omega arith;
      room = omega arith;
      rooms = λ j r i.
          let there : slice_get (rooms ++ more ∷ []) j ≡ Some r = ap (λ (xs : List ℕ). slice_get xs j) (sym k) ∙ i in
          elim (cases_lt j (length rooms)) [
            | inl before ↦ c.rooms j r (sym (get_front rooms (more ∷ []) j before) ∙ there)
            | inr not ↦
                let within = slice_get_within (rooms ++ more ∷ []) j r there in
                let last : j ≡ length rooms = omega arith in
                let at : slice_get (more ∷ []) 0 ≡ Some r = sym (get_back rooms (more ∷ []) 0 j (omega arith)) ∙ there in
                let is : more ≡ r = cc in
                let three : total_places (take (j * 128 + 128) (footprints_of ss)) ≡ total_places (take (length rooms * 128 + 128) (footprints_of ss)) = ap (λ n. total_places (take (n * 128 + 128) (footprints_of ss))) last in
                let four : total_places (take (j * 128) (footprints_of ss)) ≡ total_places (take (length rooms * 128) (footprints_of ss)) = ap (λ n. total_places (take (n * 128) (footprints_of ss))) last in
                omega arith
          ];
    }

pub rooms_of : (k : KeptLayout) (found : List Block) → found ≡ k.blocks.items → AreRooms k.rooms.items (footprints_of found) → AreRooms k.rooms.items (footprints_of k.blocks.items)
rooms_of k found e r = subst (λ (xs : List Block). AreRooms k.rooms.items (footprints_of xs)) e r

-- ---- going over a group ----

-- ---- the current block loses places ----

pub rooms_within : (k l : KeptLayout) (gone : ℕ) → IsLaid k → l ≡ (record k { blocks = l.blocks }) → ((s : Footprint) → slice_get (footprints_of k.blocks.items) k.here ≡ Some s → gone ≤ s.places) → (r : ℕ) → slice_get l.rooms.items (l.here / 128) ≡ Some r → gone ≤ r
rooms_within k l gone laid fields some r e =
    let here : l.here ≡ k.here = ap (λ (x : KeptLayout). x.here) fields in
    let rooms : l.rooms.items ≡ k.rooms.items = ap (λ (x : KeptLayout). x.rooms.items) fields in
    let there = present_at k.blocks.items k.here laid.here in
    let footprint = footprint_at k.blocks.items k.here there.0 there.1 in
    room_has k.rooms.items (footprints_of k.blocks.items) k.here gone (footprint_of there.0) laid.rooms footprint (some (footprint_of there.0) footprint) r
    (ap (λ n. slice_get k.rooms.items (n / 128)) (sym here) ∙ ap (λ (xs : List ℕ). slice_get xs (l.here / 128)) (sym rooms) ∙ e)

pub rooms_after : (k l : KeptLayout) (more : List ℕ) (bytes gone : ℕ) → IsLaid k → l ≡ (record k { blocks = l.blocks }) → ((s : Footprint) → slice_get (footprints_of k.blocks.items) k.here ≡ Some s → gone ≤ s.places)
    → ((r : ℕ) → slice_get more (l.here / 128) ≡ Some r → slice_get l.rooms.items (l.here / 128) ≡ Some (r + gone)) → ((g : ℕ) → (g ≡ l.here / 128 → ⊥) → slice_get more g ≡ slice_get l.rooms.items g) → AreRooms more (lessen k.here bytes gone (footprints_of k.blocks.items))
rooms_after k l more bytes gone laid fields some own others =
    let here : l.here ≡ k.here = ap (λ (x : KeptLayout). x.here) fields in
    let rooms : l.rooms.items ≡ k.rooms.items = ap (λ (x : KeptLayout). x.rooms.items) fields in
    let there = present_at k.blocks.items k.here laid.here in
    let footprint = footprint_at k.blocks.items k.here there.0 there.1 in
    subst (λ h. AreRooms more (lessen h bytes gone (footprints_of k.blocks.items))) here
    (rooms_lessen l.rooms.items more (footprints_of k.blocks.items) l.here bytes gone (footprint_of there.0) (subst (λ (xs : List ℕ). AreRooms xs (footprints_of k.blocks.items)) (sym rooms) laid.rooms) (ap (slice_get (footprints_of k.blocks.items)) here ∙ footprint) (some (footprint_of there.0) footprint) own others)
