-- What stays within reach when blocks move: what wasn't looked at has both ends where they were, or both moved alike, or they came nearer to each other.
use Rattle.std.proofs.Common.{◌≡◌, ◌∙◌, ◌↔◌, inl, inr, ℕ, suc, ◌+◌, ◌-◌, ◌<◌, ◌≤◌, max, Bool, true, false, List, length, Option, Some, None, refl, sym, ap, subst, arith}
use Rattle.std.specs.Prelude.{nat_le, not, slice_get, Contains}
use Rattle.std.specs.Option.{is_some, option_map}
use Rattle.std.proofs.lemmas.Bool.{and_parts, cases_Bool, cases_lt, le-leb, leb-true}
use Rattle.std.proofs.lemmas.Option.{slice_get_within}
use Rattle.thumb_instr.specs.declared.instr.Instr.{Instr}
use Rattle.thumb_instr.specs.declared.instr.Instr.TheVariants as instr
use Rattle.thumb_model.specs.Layout.{aim_fault, Fault}
use Rattle.thumb_model.proofs.Lists.{present_at}
use Rattle.label_layout.specs.declared.errors.LayoutFault.{LayoutFault}
use Rattle.label_layout.specs.Refusals.{fault_of}
use Rattle.kept_layout.specs.declared.alignments.Loose.TheVariants as sort
use Rattle.kept_layout.specs.declared.kept.KeptLayout.{KeptLayout}
use Rattle.kept_layout.specs.declared.block.Aim.{Aim}
use Rattle.kept_layout.specs.declared.block.Head.{Head}
use Rattle.kept_layout.specs.declared.block.Head.TheVariants as head
use Rattle.kept_layout.specs.declared.block.Block.{Block}
use Rattle.kept_layout.specs.declared.block.NameLocation.{NameLocation}
use Rattle.kept_layout.specs.declared.block.NameLocation.TheVariants as location
use Rattle.kept_layout.specs.Blocks.{address_of, head_fault, is_literal, is_loose, is_loose_to, last_to, lessen, literal_last, footprint_of, footprints_of, starts_from, AllReach, AreWide, Divides, HasSlack, HasSlackTo, Footprint}
use Rattle.kept_layout.specs.Kept.{IsLaid}
use Rattle.kept_layout.specs.Moves.{end_of, has_slack, moved_starts, starts_of, IsLookedAt, IsMove, IsMovedTo, IsRight}
use Rattle.kept_layout.proofs.Distances.{aim_ahead, aim_back, aim_moves}
use Rattle.kept_layout.proofs.MovingPlaces.{footprint_at}
use Rattle.kept_layout.proofs.ShrinkingPlaces.{count_of, moved_before, moved_behind, footprints_length}
use Rattle.kept_layout.proofs.ShrinkingStarts.{lessen_at, lessen_there, starts_apart, starts_order}

-- a mention of a name without an address has no fault: a row each
pub aim_none : (at : ℕ) (i : Instr) (plus : ℕ) → aim_fault at i None plus ≡ None
aim_none at (instr.Literal t s) plus = refl
aim_none at (instr.Address t s) plus = refl
aim_none at (instr.BranchIf c s) plus = refl
aim_none at (instr.Branch s) plus = refl
aim_none at (instr.Call s) plus = refl
aim_none at i plus = refl

-- the blocks after the current one move
pub record Moves (k : KeptLayout) (new : List ℕ) (by bytes : ℕ) : Type 0 where
  pub laid : IsLaid k
  pub wide : AreWide (footprints_of k.blocks.items)
  pub move : IsMove k new by
  pub starts : (gone : ℕ) → starts_from k.base (lessen k.here bytes gone (footprints_of k.blocks.items)) ≡ moved_starts k new by

-- a block mentions something
record Mentions (k : KeptLayout) (starts : List ℕ) (j : ℕ) (s : Block) (at : ℕ) (a : Aim) (to : Option NameLocation) : Type 0 where
  is : slice_get k.blocks.items j ≡ Some s
  there : slice_get starts j ≡ Some at
  head : s.head ≡ head.Aims a
  target : a.to ≡ to

-- ---- in order ----

order : (k : KeptLayout) (new : List ℕ) (by bytes i j a b : ℕ) → Moves k new by bytes → i ≤ j → slice_get (moved_starts k new by) i ≡ Some a → slice_get (moved_starts k new by) j ≡ Some b → a ≤ b
order k new by bytes i j a b m l e f =
    let back = sym (m.starts 0) in
    starts_order k.base (lessen k.here bytes 0 (footprints_of k.blocks.items)) i j a b l (subst (λ (xs : List ℕ). slice_get xs i ≡ Some a) back e) (subst (λ (xs : List ℕ). slice_get xs j ≡ Some b) back f)

-- an instruction before the current block has two bytes before whatever block comes after it
apart : (k : KeptLayout) (new : List ℕ) (by bytes i j : ℕ) (s : Block) (at b : ℕ) (a : Aim) (to : Option NameLocation) → Moves k new by bytes → Mentions k (moved_starts k new by) i s at a to → i < k.here → i < j → slice_get (moved_starts k new by) j ≡ Some b → at + 2 ≤ b
apart k new by bytes i j s at b a to m x h l f =
    let back = sym (m.starts 0) in
    let footprint = footprint_at k.blocks.items i s x.is in
    let two : 2 ≤ s.bytes = m.wide i (footprint_of s) a footprint x.head in
    let there = lessen_there k.here bytes 0 (footprints_of k.blocks.items) i (footprint_of s) footprint in
    let is : slice_get (lessen k.here bytes 0 (footprints_of k.blocks.items)) i ≡ Some (footprint_of s) = there.1 ∙ ap (λ (y : Footprint). Some y) (there.3 h) in
    let r = starts_apart k.base (lessen k.here bytes 0 (footprints_of k.blocks.items)) i j (footprint_of s) at b l is (subst (λ (xs : List ℕ). slice_get xs i ≡ Some at) back x.there) (subst (λ (xs : List ℕ). slice_get xs j ≡ Some b) back f) in
    omega arith

-- ---- what was and what was looked at ----

-- the mention was within reach before the move
was : (k : KeptLayout) (starts : List ℕ) (j : ℕ) (s : Block) (at old : ℕ) (a : Aim) (to : Option NameLocation) → IsLaid k → Mentions k starts j s at a to → slice_get (starts_of k) j ≡ Some old → aim_fault old a.instr (address_of (starts_of k) to) a.plus ≡ None
was k starts j s at old a to l x e =
    let r = l.reach j (footprint_of s) old (footprint_at k.blocks.items j s x.is) e in
    let h : head_fault (starts_of k) old (head.Aims a) ≡ None = subst (λ (h : Head). head_fault (starts_of k) old h ≡ None) x.head r in
    subst (λ (t : Option NameLocation). aim_fault old a.instr (address_of (starts_of k) t) a.plus ≡ None) x.target h

-- the mention was looked at
looked : (k : KeptLayout) (starts : List ℕ) (j : ℕ) (s : Block) (at : ℕ) (a : Aim) (to : Option NameLocation) → Mentions k starts j s at a to → IsRight starts k.blocks.items j → aim_fault at a.instr (address_of starts to) a.plus ≡ None
looked k starts j s at a to x r =
    let h : head_fault starts at (head.Aims a) ≡ None = subst (λ (h : Head). head_fault starts at h ≡ None) x.head (r s at x.is x.there) in
    subst (λ (t : Option NameLocation). aim_fault at a.instr (address_of starts t) a.plus ≡ None) x.target h

-- a loose mention was looked at, or no block after the new addresses moves
loose_kept : (k : KeptLayout) (new : List ℕ) (by j : ℕ) (s : Block) (at old : ℕ) (a : Aim) (to : Option NameLocation) → IsLaid k → IsLookedAt k new by → Mentions k (moved_starts k new by) j s at a to → is_loose_to sort.Label j a.instr to ≡ true
    → at ≡ old - by → slice_get (starts_of k) j ≡ Some old → address_of (moved_starts k new by) to ≡ address_of (starts_of k) to → aim_fault at a.instr (address_of (moved_starts k new by) to) a.plus ≡ None
loose_kept k new by j s at old a to l c x near e f same = elim (cases_lt 0 by) [
  | inl some ↦
      let is : is_loose sort.Label j s.head ≡ true = subst (λ (h : Head). is_loose sort.Label j h ≡ true) (sym x.head) (subst (λ (t : Option NameLocation). is_loose_to sort.Label j a.instr t ≡ true) (sym x.target) near) in
      looked k (moved_starts k new by) j s at a to x (c.loose some j (l.loose j s x.is is))
  | inr none ↦
      let stays : old ≡ at = omega arith in
      let w = was k (moved_starts k new by) j s at old a to l x f in
      subst (λ n. aim_fault n a.instr (address_of (moved_starts k new by) to) a.plus ≡ None) stays (subst (λ (t : Option ℕ). aim_fault old a.instr t a.plus ≡ None) (sym same) w)
]

-- ---- a label ----

label_before : (k : KeptLayout) (new : List ℕ) (by bytes j t : ℕ) (s : Block) (at old : ℕ) (a : Aim) → Moves k new by bytes → IsLookedAt k new by → Mentions k (moved_starts k new by) j s at a (Some (location.Block t)) → slice_get (starts_of k) j ≡ Some old → t ≤ k.here → j < k.here
    → aim_fault at a.instr (slice_get (moved_starts k new by) t) a.plus ≡ None
label_before k new by bytes j t s at old a m c x e h l =
    let stays : at ≡ old = let same = moved_before k new by j m.move (omega arith) in let there = x.there in cc in
    let w = was k (moved_starts k new by) j s at old a (Some (location.Block t)) m.laid x e in
    subst (λ n. aim_fault n a.instr (slice_get (moved_starts k new by) t) a.plus ≡ None) (sym stays) (subst (λ (o : Option ℕ). aim_fault old a.instr o a.plus ≡ None) (sym (moved_before k new by t m.move h)) w)

-- where a literal's label moves together with others, it moves by a multiple of 4
literal_whole : (k : KeptLayout) (new : List ℕ) (by bytes j t : ℕ) (s : Block) (at : ℕ) (a : Aim) → Moves k new by bytes → Mentions k (moved_starts k new by) j s at a (Some (location.Block t)) → end_of k new ≤ t → is_literal a.instr ≡ true → Divides 4 by
literal_whole k new by bytes j t s at a m x h y =
    let last : literal_last j s.head ≡ max j t = ap (literal_last j) x.head ∙ ap (last_to j a.instr) x.target ∙ rw y refl in
    m.move.literals j (footprint_of s) (footprint_at k.blocks.items j s x.is) (omega arith)

-- the label comes nearer
label_nearer : (k : KeptLayout) (new : List ℕ) (by bytes j t : ℕ) (s : Block) (at old to : ℕ) (a : Aim) → Moves k new by bytes → Mentions k (moved_starts k new by) j s at a (Some (location.Block t)) → slice_get (starts_of k) j ≡ Some old → slice_get (starts_of k) t ≡ Some to → end_of k new ≤ t → j < k.here
    → aim_fault at a.instr (slice_get (moved_starts k new by) t) a.plus ≡ None
label_nearer k new by bytes j t s at old to a m x e f h l =
    let stays : at ≡ old = let same = moved_before k new by j m.move (omega arith) in let there = x.there in cc in
    let moved = moved_behind k new by t to m.move h f in
    let low = m.move.low t to h f in
    let two = apart k new by bytes j t s at (to - by) a (Some (location.Block t)) m x l (omega arith) moved in
    let w = was k (moved_starts k new by) j s at old a (Some (location.Block t)) m.laid x e in
    let w2 : aim_fault at a.instr (Some to) a.plus ≡ None = subst (λ n. aim_fault n a.instr (Some to) a.plus ≡ None) (sym stays) (subst (λ (o : Option ℕ). aim_fault old a.instr o a.plus ≡ None) f w) in
    subst (λ (o : Option ℕ). aim_fault at a.instr o a.plus ≡ None) (sym moved) (aim_ahead by at to a.instr a.plus (literal_whole k new by bytes j t s at a m x h) (omega arith) w2)

-- both ends move
label_along : (k : KeptLayout) (new : List ℕ) (by bytes j t : ℕ) (s : Block) (at old to : ℕ) (a : Aim) → Moves k new by bytes → Mentions k (moved_starts k new by) j s at a (Some (location.Block t)) → slice_get (starts_of k) j ≡ Some old → slice_get (starts_of k) t ≡ Some to → end_of k new ≤ t → end_of k new ≤ j
    → aim_fault at a.instr (slice_get (moved_starts k new by) t) a.plus ≡ None
label_along k new by bytes j t s at old to a m x e f h l =
    let moves : old - by ≡ at = let there = x.there in let same = moved_behind k new by j old m.move l e in cc in
    let moved = moved_behind k new by t to m.move h f in
    let low = m.move.low t to h f in
    let under = m.move.low j old l e in
    let w : aim_fault old a.instr (Some to) a.plus ≡ None = subst (λ (o : Option ℕ). aim_fault old a.instr o a.plus ≡ None) f (was k (moved_starts k new by) j s at old a (Some (location.Block t)) m.laid x e) in
    subst (λ (o : Option ℕ). aim_fault at a.instr o a.plus ≡ None) (sym moved) (subst (λ n. aim_fault n a.instr (Some (to - by)) a.plus ≡ None) moves (aim_moves by old to a.instr a.plus (literal_whole k new by bytes j t s at a m x h) under low w))

-- the instruction comes nearer
label_behind : (k : KeptLayout) (new : List ℕ) (by bytes j t : ℕ) (s : Block) (at old to : ℕ) (a : Aim) → Moves k new by bytes → IsLookedAt k new by → Mentions k (moved_starts k new by) j s at a (Some (location.Block t)) → slice_get (starts_of k) j ≡ Some old → slice_get (starts_of k) t ≡ Some to → t ≤ k.here → end_of k new ≤ j
    → aim_fault at a.instr (slice_get (moved_starts k new by) t) a.plus ≡ None
label_behind k new by bytes j t s at old to a m c x e f h l =
    let moves : at ≡ old - by = let there = x.there in let same = moved_behind k new by j old m.move l e in cc in
    let stays = moved_before k new by t m.move h in
    elim (cases_Bool (is_literal a.instr)) [
      | inl y ↦ loose_kept k new by j s at old a (Some (location.Block t)) m.laid c x (rw (y, le-leb t j (omega arith)) refl) moves e stays
      | inr n ↦
          let under = m.move.low j old l e in
          let before = order k new by bytes t j to at m (omega arith) (stays ∙ f) x.there in
          let w : aim_fault old a.instr (Some to) a.plus ≡ None = subst (λ (o : Option ℕ). aim_fault old a.instr o a.plus ≡ None) f (was k (moved_starts k new by) j s at old a (Some (location.Block t)) m.laid x e) in
          subst (λ (o : Option ℕ). aim_fault at a.instr o a.plus ≡ None) (sym (stays ∙ f)) (subst (λ n. aim_fault n a.instr (Some to) a.plus ≡ None) (sym moves) (aim_back by old to a.instr a.plus n (omega arith) w))
    ]

label_right : (k : KeptLayout) (new : List ℕ) (by bytes j t : ℕ) (s : Block) (at old to : ℕ) (a : Aim) → Moves k new by bytes → IsLookedAt k new by → Mentions k (moved_starts k new by) j s at a (Some (location.Block t)) → slice_get (starts_of k) j ≡ Some old → slice_get (starts_of k) t ≡ Some to
    → aim_fault at a.instr (slice_get (moved_starts k new by) t) a.plus ≡ None
label_right k new by bytes j t s at old to a m c x e f = elim (cases_lt k.here t) [
  | inr first ↦ elim (cases_lt j k.here) [
    | inl before ↦ label_before k new by bytes j t s at old a m c x e (omega arith) before
    | inr not ↦ elim (cases_lt j (end_of k new)) [
      | inl among ↦ looked k (moved_starts k new by) j s at a (Some (location.Block t)) x (c.heads j (omega arith) among)
      | inr behind ↦ label_behind k new by bytes j t s at old to a m c x e f (omega arith) (omega arith)
    ]
  ]
  | inl later ↦ elim (cases_lt t (end_of k new)) [
    | inl among ↦ looked k (moved_starts k new by) j s at a (Some (location.Block t)) x (c.callers t j s a later among x.is x.head x.target)
    | inr last ↦ elim (cases_lt j k.here) [
      | inl before ↦ label_nearer k new by bytes j t s at old to a m x e f (omega arith) before
      | inr not ↦ elim (cases_lt j (end_of k new)) [
        | inl among ↦ looked k (moved_starts k new by) j s at a (Some (location.Block t)) x (c.heads j (omega arith) among)
        | inr behind ↦ label_along k new by bytes j t s at old to a m x e f (omega arith) (omega arith)
      ]
    ]
  ]
]

-- ---- an address that is set ----

-- the mention was looked at, or the slack shows that it still reaches the address
set_behind : (k : KeptLayout) (new : List ℕ) (by bytes j to : ℕ) (s : Block) (at old : ℕ) (a : Aim) → 0 < by → end_of k new ≤ j → at ≡ old - by → Moves k new by bytes → IsLookedAt k new by → Mentions k (moved_starts k new by) j s at a (Some (location.Address to)) → slice_get (starts_of k) j ≡ Some old → aim_fault at a.instr (Some to) a.plus ≡ None
set_behind k new by bytes j to s at old a some behind moves m c x e = elim (cases_Bool (has_slack k by)) [
  | inl y ↦
      let parts = and_parts (nat_le by k.slack) (nat_le k.slack_from k.here) y in
      let from = leb-true k.slack_from k.here parts.1 in
      let slack = m.laid.slack j old s (omega arith) x.is e in
      let own : HasSlackTo k.slack old a.instr (Some (location.Address to)) a.plus = subst (λ (t : Option NameLocation). HasSlackTo k.slack old a.instr t a.plus) x.target (subst (λ (h : Head). HasSlack k.slack old h) x.head slack) in
      subst (λ n. aim_fault n a.instr (Some to) a.plus ≡ None) (sym moves) (own by (leb-true by k.slack parts.0) (m.move.low j old behind e))
  | inr n ↦
      let is : is_loose sort.Address j s.head ≡ true = subst (λ (h : Head). is_loose sort.Address j h ≡ true) (sym x.head) (subst (λ (t : Option NameLocation). is_loose_to sort.Address j a.instr t ≡ true) (sym x.target) refl) in
      looked k (moved_starts k new by) j s at a (Some (location.Address to)) x (c.absolute some n j (m.laid.absolute j s x.is is))
]

set_right : (k : KeptLayout) (new : List ℕ) (by bytes j to : ℕ) (s : Block) (at old : ℕ) (a : Aim) → Moves k new by bytes → IsLookedAt k new by → Mentions k (moved_starts k new by) j s at a (Some (location.Address to)) → slice_get (starts_of k) j ≡ Some old → aim_fault at a.instr (Some to) a.plus ≡ None
set_right k new by bytes j to s at old a m c x e = elim (cases_lt j k.here) [
  | inl before ↦
      let stays : old ≡ at = let same = moved_before k new by j m.move (omega arith) in let there = x.there in cc in
      subst (λ n. aim_fault n a.instr (Some to) a.plus ≡ None) stays (was k (moved_starts k new by) j s at old a (Some (location.Address to)) m.laid x e)
  | inr not ↦ elim (cases_lt j (end_of k new)) [
    | inl among ↦ looked k (moved_starts k new by) j s at a (Some (location.Address to)) x (c.heads j (omega arith) among)
    | inr behind ↦
        let moves : at ≡ old - by = let there = x.there in let same = moved_behind k new by j old m.move (omega arith) e in cc in
        elim (cases_lt 0 by) [
          | inl some ↦ set_behind k new by bytes j to s at old a some (omega arith) moves m c x e
          | inr none ↦ subst (λ n. aim_fault n a.instr (Some to) a.plus ≡ None) (let stays : old ≡ at = omega arith in stays) (was k (moved_starts k new by) j s at old a (Some (location.Address to)) m.laid x e)
        ]
  ]
]

-- ---- all of them ----

aim_right : (k : KeptLayout) (new : List ℕ) (by bytes j : ℕ) (s : Block) (at : ℕ) (a : Aim) (to : Option NameLocation) → Moves k new by bytes → IsLookedAt k new by → Mentions k (moved_starts k new by) j s at a to → aim_fault at a.instr (address_of (moved_starts k new by) to) a.plus ≡ None
aim_right k new by bytes j s at a None m c x = aim_none at a.instr a.plus
aim_right k new by bytes j s at a (Some (location.Block t)) m c x =
    let count = count_of k in
    let own = present_at (starts_of k) j (let w = slice_get_within k.blocks.items j s x.is in omega arith) in
    let other = present_at (starts_of k) t (let w = m.laid.targets j t s a x.is x.head x.target in omega arith) in
    label_right k new by bytes j t s at own.0 other.0 a m c x own.1 other.1
aim_right k new by bytes j s at a (Some (location.Address to)) m c x =
    let count = count_of k in
    let own = present_at (starts_of k) j (let w = slice_get_within k.blocks.items j s x.is in omega arith) in
    set_right k new by bytes j to s at own.0 a m c x own.1

pub right_all : (k : KeptLayout) (new : List ℕ) (by bytes : ℕ) → Moves k new by bytes → IsLookedAt k new by → (j : ℕ) → IsRight (moved_starts k new by) k.blocks.items j
right_all k new by bytes m c j s at e f = go s.head refl
  where
    go : (h : Head) → s.head ≡ h → head_fault (moved_starts k new by) at h ≡ None
    go head.Plain g = refl
    go (head.Pads size most) g = refl
    go (head.Aims a) g = aim_right k new by bytes j s at a a.to m c (record { is = e; there = f; head = g; target = refl })

-- ---- told of the footprints ----

-- all mentions are within reach exactly where each is right
pub reach_from : (k : KeptLayout) (new : List ℕ) (by bytes gone : ℕ) → Moves k new by bytes → ((j : ℕ) → IsRight (moved_starts k new by) k.blocks.items j) → AllReach k.base (lessen k.here bytes gone (footprints_of k.blocks.items))
reach_from k new by bytes gone m r j s at e f =
    let was = lessen_at k.here bytes gone (footprints_of k.blocks.items) j s e in
    let within = slice_get_within (footprints_of k.blocks.items) j was.footprint was.is in
    let count = footprints_length k.blocks.items in
    let there = present_at k.blocks.items j (omega arith) in
    let footprint = footprint_at k.blocks.items j there.0 there.1 in
    let found = was.is in
    let same : footprint_of there.0 ≡ was.footprint = cc in
    let head : there.0.head ≡ s.head = ap (λ (x : Footprint). x.head) same ∙ was.head in
    let right = r j there.0 at there.1 (subst (λ (xs : List ℕ). slice_get xs j ≡ Some at) (m.starts gone) f) in
    subst (λ (h : Head). head_fault (starts_from k.base (lessen k.here bytes gone (footprints_of k.blocks.items))) at h ≡ None) head (subst (λ (xs : List ℕ). head_fault xs at there.0.head ≡ None) (sym (m.starts gone)) right)

pub right_from : (k : KeptLayout) (new : List ℕ) (by bytes gone : ℕ) → IsMovedTo k bytes new by → AllReach k.base (lessen k.here bytes gone (footprints_of k.blocks.items)) → (j : ℕ) → IsRight (moved_starts k new by) k.blocks.items j
right_from k new by bytes gone m r j s at e f =
    let there = lessen_there k.here bytes gone (footprints_of k.blocks.items) j (footprint_of s) (footprint_at k.blocks.items j s e) in
    let reach = r j there.0 at there.1 (subst (λ (xs : List ℕ). slice_get xs j ≡ Some at) (sym (m.starts gone)) f) in
    subst (λ (h : Head). head_fault (moved_starts k new by) at h ≡ None) there.2 (subst (λ (xs : List ℕ). head_fault xs at there.0.head ≡ None) (m.starts gone) reach)

-- ---- told by a test ----

fault_none : (o : Option LayoutFault) (f : Option Fault) (b : Bool) → option_map fault_of o ≡ f → is_some o ≡ not b → (b ≡ true) ↔ (f ≡ None)
fault_none None f b e t = (λ h. sym e, λ h. let n : false ≡ not b = t in grind arith)
fault_none (Some k) f b e t = (λ h. absurd (let n : true ≡ not b = t in grind arith), λ h. absurd (cc))

pub aim_told : (k : KeptLayout) (starts : List ℕ) (j : ℕ) (s : Block) (at : ℕ) (a : Aim) (to : Option ℕ) (o : Option LayoutFault) (b : Bool) → slice_get k.blocks.items j ≡ Some s → s.head ≡ head.Aims a → slice_get starts j ≡ Some at → to ≡ address_of starts a.to
    → option_map fault_of o ≡ aim_fault at a.instr to a.plus → is_some o ≡ not b → (b ≡ true) ↔ IsRight starts k.blocks.items j
aim_told k starts j s at a to o b is head there target e t =
    let f : option_map fault_of o ≡ head_fault starts at s.head = e ∙ ap (λ (x : Option ℕ). aim_fault at a.instr x a.plus) target ∙ sym (ap (head_fault starts at) head) in
    let both = fault_none o (head_fault starts at s.head) b f t in (
      λ h. λ other n g l.
          let one : s ≡ other = cc in
          let place : at ≡ n = cc in
          subst (λ m. head_fault starts m other.head ≡ None) place (subst (λ (x : Block). head_fault starts at x.head ≡ None) one (both.0 h)),
      λ r. both.1 (r s at is there),
    )

pub none_told : (k : KeptLayout) (starts : List ℕ) (j : ℕ) (s : Block) → slice_get k.blocks.items j ≡ Some s → ((a : Aim) → s.head ≡ head.Aims a → ⊥) → IsRight starts k.blocks.items j
none_told k starts j s is not other at e f =
    let one : s ≡ other = cc in
    go other.head (λ a g. not a (ap (λ (x : Block). x.head) one ∙ g))
  where
    go : (h : Head) → ((a : Aim) → h ≡ head.Aims a → ⊥) → head_fault starts at h ≡ None
    go head.Plain n = refl
    go (head.Pads size most) n = refl
    go (head.Aims a) n = absurd (n a refl)

-- ---- blocks that mention a label ----

pub called_within : (k : KeptLayout) (t : ℕ) (d : Block) (numbers : List ℕ) → IsLaid k → slice_get k.blocks.items t ≡ Some d → numbers ≡ d.callers.items → (j : ℕ) → Contains numbers j → j < length k.blocks.items
called_within k t d numbers l e f j c = l.called t j d e (subst (λ xs. Contains xs j) f c)

pub called_right : (k : KeptLayout) (P : ℕ → Type 0) (t : ℕ) (d : Block) (numbers : List ℕ) → slice_get k.blocks.items t ≡ Some d → numbers ≡ d.callers.items → ((j : ℕ) → Contains numbers j → P j)
    → (j : ℕ) (other : Block) → slice_get k.blocks.items t ≡ Some other → Contains other.callers.items j → P j
called_right k P t d numbers e f h j other g c =
    let one : d ≡ other = cc in
    h j (subst (λ xs. Contains xs j) (sym (f ∙ ap (λ (x : Block). x.callers.items) one)) c)

-- what the current block mentions is within reach, and so are, for the blocks from `first` up to `number`, their mentions and those of their labels
pub record AreMet (k : KeptLayout) (new : List ℕ) (by first number : ℕ) : Type 0 where
  pub here : IsRight (moved_starts k new by) k.blocks.items k.here
  pub heads : (j : ℕ) → first ≤ j → j < number → IsRight (moved_starts k new by) k.blocks.items j
  pub callers : (t j : ℕ) (d : Block) → first ≤ t → t < number → slice_get k.blocks.items t ≡ Some d → Contains d.callers.items j → IsRight (moved_starts k new by) k.blocks.items j

pub met_first : (k : KeptLayout) (new : List ℕ) (by first : ℕ) → IsRight (moved_starts k new by) k.blocks.items k.here → AreMet k new by first first
met_first k new by first r = record {
  here = r;
  heads = λ j h l. absurd (omega arith);
  callers = λ t j d h l. absurd (omega arith);
}

pub met_more : (k : KeptLayout) (new : List ℕ) (by first number following : ℕ) → following ≡ suc number → AreMet k new by first number → IsRight (moved_starts k new by) k.blocks.items number
    → ((j : ℕ) (d : Block) → slice_get k.blocks.items number ≡ Some d → Contains d.callers.items j → IsRight (moved_starts k new by) k.blocks.items j) → AreMet k new by first following
met_more k new by first number following e m own called = record {
  here = m.here;
  heads = λ j h l. elim (cases_lt j number) [
    | inl before ↦ m.heads j h before
    | inr not ↦ subst (IsRight (moved_starts k new by) k.blocks.items) (let here : number ≡ j = omega arith in here) own
  ];
  callers = λ t j d h l f c. elim (cases_lt t number) [
    | inl before ↦ m.callers t j d h before f c
    | inr not ↦ called j d (ap (slice_get k.blocks.items) (let here : number ≡ t = omega arith in here) ∙ f) c
  ];
}
