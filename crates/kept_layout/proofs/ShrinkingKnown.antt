-- What the walk over blocks that move finds: whether a mention is within reach is decided as soon as the new addresses of both its ends are known.
use Rattle.std.proofs.Common.{◌≡◌, ◌∙◌, ◌⊎◌, inl, inr, ℕ, suc, ◌+◌, ◌-◌, ◌<◌, ◌≤◌, Bool, true, false, List, [], ◌∷◌, ◌++◌, length, map, take, drop, Option, Some, None, refl, sym, ap, subst, arith, append_assoc, length-append}
use Rattle.std.specs.Prelude.{slice_get, Contains}
use Rattle.std.proofs.lemmas.Bool.{cases_Bool, cases_lt, lt-ltb, ltb-true}
use Rattle.thumb_model.specs.Layout.{aim_fault}
use Rattle.thumb_model.proofs.Lists.{get_back, present_at, take_all}
use Rattle.kept_layout.specs.declared.kept.KeptLayout.{KeptLayout}
use Rattle.kept_layout.specs.declared.block.Aim.{Aim}
use Rattle.kept_layout.specs.declared.block.Head.{Head}
use Rattle.kept_layout.specs.declared.block.Head.TheVariants as head
use Rattle.kept_layout.specs.declared.block.Block.{Block}
use Rattle.kept_layout.specs.declared.block.NameLocation.{NameLocation}
use Rattle.kept_layout.specs.declared.block.NameLocation.TheVariants as location
use Rattle.kept_layout.specs.Blocks.{address_of, head_fault, later_end, later_to, lessen, footprint_of, footprints_of, starts_from, AllReach}
use Rattle.kept_layout.specs.Kept.{IsLaid}
use Rattle.kept_layout.specs.Moves.{end_of, is_known, moved_starts, starts_of, AreKnownRight, IsMove, IsRight, IsRightIf, IsWalked}
use Rattle.kept_layout.proofs.MovingPlaces.{footprint_at}
use Rattle.kept_layout.proofs.ShrinkingPlaces.{count_of, moved_before}
use Rattle.kept_layout.proofs.ShrinkingStarts.{lessen_there}
use Rattle.common_lemmas.proofs.Lists.{get_front}

-- ---- lists that begin alike ----

-- the lists are alike up to number n
abbrev pub AreAlike : ℕ → List ℕ → List ℕ → Type 0
AreAlike n xs ys = (j : ℕ) → j < n → slice_get xs j ≡ slice_get ys j

fronts_alike : (xs ys zs ws : List ℕ) (n : ℕ) → n ≤ length xs + length ys → AreAlike n (xs ++ (ys ++ zs)) (xs ++ (ys ++ ws))
fronts_alike xs ys zs ws n h = λ j l. elim (cases_lt j (length xs)) [
  | inl first ↦ get_front xs (ys ++ zs) j first ∙ sym (get_front xs (ys ++ ws) j first)
  | inr not ↦
      (get_back xs (ys ++ zs) (j - length xs) j (omega arith) ∙ get_front ys zs (j - length xs) (omega arith))
      ∙ sym (get_back xs (ys ++ ws) (j - length xs) j (omega arith) ∙ get_front ys ws (j - length xs) (omega arith))
]

-- the addresses are alike up to the end of the new ones
pub starts_alike : (k : KeptLayout) (new zs ws : List ℕ) → k.here < length k.blocks.items → AreAlike (end_of k new) (take (suc k.here) (starts_of k) ++ (new ++ zs)) (take (suc k.here) (starts_of k) ++ (new ++ ws))
starts_alike k new zs ws h =
    let count = count_of k in
    let first = take_all (suc k.here) (starts_of k) (omega arith) in
    fronts_alike (take (suc k.here) (starts_of k)) new zs ws (end_of k new) (omega arith)

-- ---- the later end ----

number_before : (n : ℕ) (o : Option NameLocation) → n ≤ later_to n o
number_before n None = omega arith
number_before n (Some (location.Block t)) = omega arith
number_before n (Some (location.Address a)) = omega arith

pub own_before : (n : ℕ) (h : Head) → n ≤ later_end n h
own_before n head.Plain = omega arith
own_before n (head.Pads size most) = omega arith
own_before n (head.Aims aim) = number_before n aim.to

target_alike : (n j : ℕ) (xs ys : List ℕ) (o : Option NameLocation) → AreAlike n xs ys → later_to j o < n → address_of xs o ≡ address_of ys o
target_alike n j xs ys None same l = refl
target_alike n j xs ys (Some (location.Block t)) same l = same t (omega arith)
target_alike n j xs ys (Some (location.Address a)) same l = refl

fault_alike : (n j at : ℕ) (xs ys : List ℕ) (h : Head) → AreAlike n xs ys → later_end j h < n → head_fault xs at h ≡ head_fault ys at h
fault_alike n j at xs ys head.Plain same l = refl
fault_alike n j at xs ys (head.Pads size most) same l = refl
fault_alike n j at xs ys (head.Aims aim) same l = ap (λ (t : Option ℕ). aim_fault at aim.instr t aim.plus) (target_alike n j xs ys aim.to same l)

-- a mention both of whose ends lie where the lists are alike is right in both
pub right_alike : (n j : ℕ) (xs ys : List ℕ) (ss : List Block) (s : Block) → AreAlike n xs ys → slice_get ss j ≡ Some s → later_end j s.head < n → IsRight xs ss j → IsRight ys ss j
right_alike n j xs ys ss s same e low r = λ other at f g.
    let one : s ≡ other = cc in
    let own = own_before j s.head in
    let there : slice_get xs j ≡ Some at = same j (omega arith) ∙ g in
    subst (λ (x : Block). head_fault ys at x.head ≡ None) one (sym (fault_alike n j at xs ys s.head same low) ∙ r s at e there)

later_is_to : (n j : ℕ) (o : Option NameLocation) → later_to j o ≡ n → (j ≡ n) ⊎ (o ≡ Some (location.Block n))
later_is_to n j None e = inl e
later_is_to n j (Some (location.Block t)) e = elim (cases_lt j t) [
  | inl l ↦ (let same : t ≡ n = omega arith in inr (ap (λ (m : ℕ). Some (location.Block m)) same))
  | inr l ↦ inl (omega arith)
]
later_is_to n j (Some (location.Address a)) e = inl e

-- the later end is the block itself, or the one whose label it mentions
later_is : (n j : ℕ) (h : Head) → later_end j h ≡ n → (j ≡ n) ⊎ ((a : Aim) × (h ≡ head.Aims a) × (a.to ≡ Some (location.Block n)))
later_is n j head.Plain e = inl e
later_is n j (head.Pads size most) e = inl e
later_is n j (head.Aims aim) e = elim (later_is_to n j aim.to e) [
  | inl own ↦ inl own
  | inr other ↦ inr (aim, refl, other)
]

-- ---- what is known on the walk ----

pub known_first : (k : KeptLayout) → AreKnownRight k [] 0
known_first k = λ j s e low high. absurd (omega arith)

-- it stays right however far the blocks after those move together
pub known_shifted : (k : KeptLayout) (new : List ℕ) (by : ℕ) → k.here < length k.blocks.items → AreKnownRight k new 0 → AreKnownRight k new by
known_shifted k new by h known = λ j s e low high.
    right_alike (end_of k new) j (moved_starts k new 0) (moved_starts k new by) k.blocks.items s
    (starts_alike k new (map (λ a. a - 0) (drop (end_of k new) (starts_of k))) (map (λ a. a - by) (drop (end_of k new) (starts_of k))) h) e high (known j s e low high)

-- one block more has a new address
longer_alike : (k : KeptLayout) (new : List ℕ) (at : ℕ) → k.here < length k.blocks.items → AreAlike (end_of k new) (moved_starts k new 0) (moved_starts k (new ++ at ∷ []) 0)
longer_alike k new at h =
    let longer : List ℕ = new ++ at ∷ [] in
    let rest : List ℕ = map (λ a. a - 0) (drop (end_of k longer) (starts_of k)) in
    subst (λ (xs : List ℕ). AreAlike (end_of k new) (moved_starts k new 0) (take (suc k.here) (starts_of k) ++ xs)) (sym (append_assoc new (at ∷ []) rest))
    (starts_alike k new (map (λ a. a - 0) (drop (end_of k new) (starts_of k))) ((at ∷ []) ++ rest) h)

-- a block's mention and the mentions of its label were looked at
pub record IsSeen (k : KeptLayout) (new : List ℕ) (number : ℕ) : Type 0 where
  pub own : IsRightIf true k new 0 number
  pub callers : (j : ℕ) (d : Block) → slice_get k.blocks.items number ≡ Some d → Contains d.callers.items j → IsRightIf true k new 0 j

seen_right : (k : KeptLayout) (new : List ℕ) (n j : ℕ) (s d : Block) → IsLaid k → slice_get k.blocks.items n ≡ Some d → IsSeen k new n → slice_get k.blocks.items j ≡ Some s → later_end j s.head ≡ n → later_end j s.head < end_of k new → IsRight (moved_starts k new 0) k.blocks.items j
seen_right k new n j s d l there seen e is high = elim (later_is n j s.head is) [
  | inl own ↦ subst (λ m. IsRightIf true k new 0 m) (sym own) seen.own s e (lt-ltb (later_end j s.head) (end_of k new) high)
  | inr called ↦ seen.callers j d there (l.callers j n s d called.0 e called.1 called.2 there) s e (lt-ltb (later_end j s.head) (end_of k new) high)
]

pub known_more : (k : KeptLayout) (new : List ℕ) (at n : ℕ) (d : Block) → IsLaid k → n ≡ end_of k new → slice_get k.blocks.items n ≡ Some d → AreKnownRight k new 0 → IsSeen k (new ++ at ∷ []) n → AreKnownRight k (new ++ at ∷ []) 0
known_more k new at n d l count there known seen = λ j s e low high. elim (cases_lt (later_end j s.head) (end_of k new)) [
  | inl before ↦ right_alike (end_of k new) j (moved_starts k new 0) (moved_starts k (new ++ at ∷ []) 0) k.blocks.items s (longer_alike k new at l.here) e before (known j s e low before)
  | inr not ↦
      let longer = length-append new (at ∷ []) in
      seen_right k (new ++ at ∷ []) n j s d l there seen e (omega arith) high
]

pub seen_on : (k : KeptLayout) (new items : List ℕ) (by at n : ℕ) (d : Block) → IsLaid k → n ≡ end_of k new → slice_get k.blocks.items n ≡ Some d → AreKnownRight k new 0 → items ≡ new ++ at ∷ [] → by ≡ 0 → IsRightIf true k items by n
    → ((j : ℕ) (d : Block) → slice_get k.blocks.items n ≡ Some d → Contains d.callers.items j → IsRightIf true k items by j) → AreKnownRight k items 0
seen_on k new items by at n d l count there known e b own callers =
    let seen : IsSeen k (new ++ at ∷ []) n = record {
      own = subst (λ (xs : List ℕ). IsRightIf true k xs 0 n) e (subst (λ m. IsRightIf true k items m n) b own);
      callers = λ j c f h. subst (λ (xs : List ℕ). IsRightIf true k xs 0 j) e (subst (λ m. IsRightIf true k items m j) b (callers j c f h));
    } in
    subst (λ (xs : List ℕ). AreKnownRight k xs 0) (sym e) (known_more k new at n d l count there known seen)

-- the move where no blocks move together yet
pub not_together : (k : KeptLayout) (new : List ℕ) (by : ℕ) → by ≡ 0 → end_of k new ≤ length k.blocks.items → IsMove k new by
not_together k new by b h = subst (IsMove k new) (sym b) (record { within = h; low = λ j a l e. omega arith; literals = λ i s e f. (0, refl) })

-- ---- a refusal on the walk ----

-- where all is within reach, so is all that the walk looks at
pub seen_by_reach : (k : KeptLayout) (bytes gone : ℕ) (new : List ℕ) (at next : ℕ) → k.here < length k.blocks.items → IsWalked k bytes new at next → AllReach k.base (lessen k.here bytes gone (footprints_of k.blocks.items)) → (j : ℕ) → IsRightIf true k new 0 j
seen_by_reach k bytes gone new at next h w reach j s e known =
    let footprints = lessen k.here bytes gone (footprints_of k.blocks.items) in
    let starts = starts_from k.base footprints in
    let high = ltb-true (later_end j s.head) (end_of k new) known in
    let right : IsRight starts k.blocks.items j = λ t a f g.
    let there = lessen_there k.here bytes gone (footprints_of k.blocks.items) j (footprint_of t) (footprint_at k.blocks.items j t f) in
    subst (λ (x : Head). head_fault starts a x ≡ None) there.2 (reach j there.0 a there.1 g) in
    right_alike (end_of k new) j starts (moved_starts k new 0) k.blocks.items s
    (subst (λ (xs : List ℕ). AreAlike (end_of k new) xs (moved_starts k new 0)) (sym (w.starts gone)) (starts_alike k new (starts_from at (drop next (footprints_of k.blocks.items))) (map (λ a. a - 0) (drop (end_of k new) (starts_of k))) h)) e high right

pub refused_by : (k : KeptLayout) (bytes gone : ℕ) (new : List ℕ) (by at next : ℕ) → k.here < length k.blocks.items → IsWalked k bytes new at next → by ≡ 0 → AllReach k.base (lessen k.here bytes gone (footprints_of k.blocks.items)) → (j : ℕ) → IsRightIf true k new by j
refused_by k bytes gone new by at next h w b reach j = subst (λ m. IsRightIf true k new m j) (sym b) (seen_by_reach k bytes gone new at next h w reach j)

-- ---- what is looked at ----

pub right_of : (known is : Bool) (k : KeptLayout) (new : List ℕ) (by j : ℕ) → j < length k.blocks.items → ((s : Block) → slice_get k.blocks.items j ≡ Some s → is ≡ is_known k new j s.head) → is ≡ known → IsRightIf known k new by j
    → IsRight (moved_starts k new by) k.blocks.items j
right_of known is k new by j within told same r = let there = present_at k.blocks.items j within in r there.0 there.1 (sym (told there.0 there.1) ∙ same)

-- ---- at the end of the walk ----

-- neither end moves
stays_right : (k : KeptLayout) (new : List ℕ) (by j : ℕ) (s : Block) → IsLaid k → IsMove k new by → slice_get k.blocks.items j ≡ Some s → later_end j s.head < suc k.here → IsRight (moved_starts k new by) k.blocks.items j
stays_right k new by j s l m e low =
    right_alike (suc k.here) j (starts_of k) (moved_starts k new by) k.blocks.items s (λ i h. sym (moved_before k new by i m (omega arith))) e low (λ t at f g. l.reach j (footprint_of t) at (footprint_at k.blocks.items j t f) g)

-- with what is known from the walk, and what is looked at after it, all mentions are right
pub open_right : (k : KeptLayout) (new : List ℕ) (by j : ℕ) → IsLaid k → IsMove k new by → AreKnownRight k new by → j < length k.blocks.items → IsRightIf false k new by j → IsRight (moved_starts k new by) k.blocks.items j
open_right k new by j l m known within r =
    let there = present_at k.blocks.items j within in
    go there.0 there.1
  where
    go : (s : Block) → slice_get k.blocks.items j ≡ Some s → IsRight (moved_starts k new by) k.blocks.items j
    go s e = elim (cases_Bool (is_known k new j s.head)) [
      | inr other ↦ r s e other
      | inl is ↦ elim (cases_lt k.here (later_end j s.head)) [
        | inl moves ↦ known j s e moves (ltb-true (later_end j s.head) (end_of k new) is)
        | inr stays ↦ stays_right k new by j s l m e (omega arith)
      ]
    ]
