-- The wall after the current block: the calm blocks before it move as one, and mentions between them and the blocks that don't move stay within reach.
use Rattle.std.proofs.Common.{◌≡◌, ◌∙◌, inl, inr, ℕ, zero, suc, ◌+◌, ◌-◌, ◌<◌, ◌≤◌, ◌^◌, max, true, false, List, [], ◌∷◌, ◌++◌, length, map, take, drop, Option, Some, None, refl, sym, ap, subst, arith, append_assoc, length-append, true≢false}
use Rattle.std.specs.Prelude.{slice_get, nat_eq, not, Bool}
use Rattle.std.proofs.lemmas.Bool.{and_parts, cases_Bool, cases_lt, eqb-true, lt-ltb}
use Rattle.thumb_model.specs.Layout.{aim_fault}
use Rattle.thumb_model.proofs.Lists.{get_back, get_drop, get_take, length_drop, length_map, present_at, take_all}
use Rattle.kept_layout.specs.declared.kept.KeptLayout.{KeptLayout}
use Rattle.kept_layout.specs.declared.block.Aim.{Aim}
use Rattle.kept_layout.specs.declared.block.Head.{Head}
use Rattle.kept_layout.specs.declared.block.Head.TheVariants as head
use Rattle.kept_layout.specs.declared.block.Block.{Block}
use Rattle.kept_layout.specs.declared.block.NameLocation.{NameLocation}
use Rattle.kept_layout.specs.declared.block.NameLocation.TheVariants as location
use Rattle.kept_layout.specs.Blocks.{address_of, behind, head_fault, is_calm, is_calm_to, is_literal, later_end, lessen, padding_of, footprint_of, footprints_of, starts_from, AreWide, Divides, HasSlack, HasSlackTo, IsCalm, IsAlignmentOf, Footprint}
use Rattle.kept_layout.specs.Kept.{IsLaid}
use Rattle.kept_layout.specs.Moves.{calm_starts, end_of, moved_starts, news, starts_of, wall_in, wall_of, AreKnownRight, IsRight, IsRightIf, IsWalked}
use Rattle.kept_layout.proofs.Distances.{aim_ahead, aim_back, aim_moves}
use Rattle.kept_layout.proofs.MovingPlaces.{footprint_at}
use Rattle.kept_layout.proofs.Nearing.{HasOwn}
use Rattle.kept_layout.proofs.ShrinkingKnown.{not_together, right_alike, starts_alike}
use Rattle.kept_layout.proofs.ShrinkingPlaces.{count_of, moved_among, moved_before, footprints_length}
use Rattle.kept_layout.proofs.ShrinkingReach.{aim_none}
use Rattle.kept_layout.proofs.ShrinkingStarts.{starts_apart, starts_order}
use Rattle.kept_layout.proofs.ShrinkingWalk.{start_in_code, walk_begin, walk_on}
use Rattle.kept_layout.proofs.Together.{behind_moves}
use Rattle.common_lemmas.proofs.Lists.{get_map, get_front}

-- ---- the wall ----

pub record Bounds (k : KeptLayout) : Type 0 where
  pub from : suc k.here ≤ wall_of k
  pub within : wall_of k ≤ length k.blocks.items
  pub last : suc k.here < length k.blocks.items → wall_of k < length k.blocks.items
  pub calm : (j : ℕ) → k.here < j → j < wall_of k → IsCalm (footprints_of k.blocks.items) j

pub bounds : (k : KeptLayout) → IsLaid k → Bounds k
bounds k l = go (slice_get k.walls.items (suc k.here)) refl
  where
    go : (o : Option ℕ) → slice_get k.walls.items (suc k.here) ≡ o → Bounds k
    go None e =
        let same : wall_of k ≡ suc k.here = ap (λ (x : Option ℕ). wall_in x (suc k.here)) e in
        let here = l.here in
        record { from = omega arith; within = omega arith; last = λ h. omega arith; calm = λ j h m. absurd (omega arith) }
    go (Some w) e =
        let same : wall_of k ≡ w = ap (λ (x : Option ℕ). wall_in x (suc k.here)) e in
        let is = l.walls (suc k.here) w e in
        let from = is.from in
        let within = is.within in
        let count = footprints_length k.blocks.items in
        record { from = omega arith; within = omega arith; last = λ h. omega arith; calm = λ j h m. is.calm j (omega arith) (omega arith) }

pub calm_count : (k : KeptLayout) (bytes : ℕ) → IsLaid k → length (calm_starts k bytes) ≡ wall_of k - suc k.here
calm_count k bytes l =
    let b = bounds k l in
    let from = b.from in
    let within = b.within in
    let count = count_of k in
    let rest = length_drop (suc k.here) (starts_of k) in
    length_map (λ a. a - bytes) (take (wall_of k - suc k.here) (drop (suc k.here) (starts_of k))) ∙ take_all (wall_of k - suc k.here) (drop (suc k.here) (starts_of k)) (omega arith)

-- the blocks that move together come after the wall and the new addresses
pub end_news : (k : KeptLayout) (bytes : ℕ) (at : List ℕ) → IsLaid k → end_of k (news k bytes at) ≡ wall_of k + length at
end_news k bytes at l =
    let count = calm_count k bytes l in
    let both = length-append (calm_starts k bytes) at in
    let from = (bounds k l).from in
    omega arith

pub end_calm : (k : KeptLayout) (bytes : ℕ) → IsLaid k → end_of k (calm_starts k bytes) ≡ wall_of k
end_calm k bytes l =
    let count = calm_count k bytes l in
    let from = (bounds k l).from in
    omega arith

calm_at : (k : KeptLayout) (bytes j a : ℕ) → k.here < j → j < wall_of k → slice_get (starts_of k) j ≡ Some a → slice_get (calm_starts k bytes) (j - suc k.here) ≡ Some (a - bytes)
calm_at k bytes j a h m e =
    get_map (λ a. a - bytes) (take (wall_of k - suc k.here) (drop (suc k.here) (starts_of k))) (j - suc k.here) a
    (get_take (wall_of k - suc k.here) (drop (suc k.here) (starts_of k)) (j - suc k.here) (omega arith) ∙ get_drop (suc k.here) (starts_of k) (j - suc k.here) j (omega arith) ∙ e)

pub news_calm : (k : KeptLayout) (bytes : ℕ) (at : List ℕ) (j a : ℕ) → IsLaid k → k.here < j → j < wall_of k → slice_get (starts_of k) j ≡ Some a → slice_get (news k bytes at) (j - suc k.here) ≡ Some (a - bytes)
news_calm k bytes at j a l h m e =
    let count = calm_count k bytes l in
    get_front (calm_starts k bytes) at (j - suc k.here) (omega arith) ∙ calm_at k bytes j a h m e

pub news_behind : (k : KeptLayout) (bytes : ℕ) (at : List ℕ) (j : ℕ) → IsLaid k → wall_of k ≤ j → slice_get (news k bytes at) (j - suc k.here) ≡ slice_get at (j - wall_of k)
news_behind k bytes at j l m =
    let count = calm_count k bytes l in
    let from = (bounds k l).from in
    get_back (calm_starts k bytes) at (j - wall_of k) (j - suc k.here) (omega arith)

pub news_on : (k : KeptLayout) (bytes : ℕ) (at items : List ℕ) (x : ℕ) → items ≡ at ++ x ∷ [] → news k bytes at ++ x ∷ [] ≡ news k bytes items
news_on k bytes at items x e = append_assoc (calm_starts k bytes) at (x ∷ []) ∙ ap (λ (xs : List ℕ). calm_starts k bytes ++ xs) (sym e)

pub news_none : (k : KeptLayout) (bytes : ℕ) (items : List ℕ) → items ≡ [] → calm_starts k bytes ≡ news k bytes items
news_none k bytes items e = none (calm_starts k bytes) ∙ ap (λ (xs : List ℕ). calm_starts k bytes ++ xs) (sym e)
  where
    none : (xs : List ℕ) → xs ≡ xs ++ []
    none [] = refl
    none (x ∷ xs) = ap (λ (ys : List ℕ). x ∷ ys) (none xs)

-- ---- walking to the wall ----

-- a block after the current one begins at no less than the number of bytes that go
pub few_low : (k : KeptLayout) (bytes j a : ℕ) → IsLaid k → ((s : Footprint) → slice_get (footprints_of k.blocks.items) k.here ≡ Some s → bytes ≤ s.bytes) → k.here < j → slice_get (starts_of k) j ≡ Some a → bytes ≤ a
few_low k bytes j a l few h e =
    let there = present_at k.blocks.items k.here l.here in
    let footprint = footprint_at k.blocks.items k.here there.0 there.1 in
    let count = count_of k in
    let own = present_at (starts_of k) k.here (let w = l.here in omega arith) in
    let some = few (footprint_of there.0) footprint in
    let far = starts_apart k.base (footprints_of k.blocks.items) k.here j (footprint_of there.0) own.0 a h footprint own.1 e in
    omega arith

starts_next : (at : ℕ) (ss : List Footprint) (n : ℕ) (s : Footprint) (a b : ℕ) → slice_get ss n ≡ Some s → slice_get (starts_from at ss) n ≡ Some a → slice_get (starts_from at ss) (suc n) ≡ Some b → b ≡ behind a s
starts_next at [] n s a b e f g = absurd (cc)
starts_next at (t ∷ []) zero s a b e f g = absurd (cc)
starts_next at (t ∷ (u ∷ ss)) zero s a b e f g =
    let same : t ≡ s = cc in
    let first : at ≡ a = cc in
    let next : behind at t ≡ b = cc in
    sym next ∙ ap (λ n. behind n t) first ∙ ap (behind a) same
starts_next at (t ∷ ss) (suc n) s a b e f g = starts_next (behind at t) ss n s a b e f g

take_next : (f : ℕ → ℕ) (xs : List ℕ) (d x : ℕ) → slice_get xs d ≡ Some x → map f (take (suc d) xs) ≡ map f (take d xs) ++ f x ∷ []
take_next f [] d x e = absurd (cc)
take_next f (y ∷ xs) zero x e = let same : y ≡ x = cc in ap (λ z. f z ∷ []) same
take_next f (y ∷ xs) (suc d) x e = ap (λ (ys : List ℕ). f y ∷ ys) (take_next f xs d x e)

-- a calm block pads as much where it lies an even number of bytes earlier
calm_alignment : (h : Head) → is_calm h ≡ true → IsAlignmentOf 2 h
calm_alignment head.Plain e = tt
calm_alignment (head.Pads size most) e = elim (cases_Bool (nat_eq size 1)) [
  | inl one ↦ let is = eqb-true size 1 one in (2, omega arith)
  | inr not ↦ elim (cases_Bool (nat_eq size 2)) [
    | inl two ↦ let is = eqb-true size 2 two in (1, omega arith)
    | inr other ↦ absurd (let never : false ≡ true = sym (rw (not, other) refl) ∙ e in cc)
  ]
]
calm_alignment (head.Aims aim) e = tt

walk_calm : (k : KeptLayout) (bytes d next a : ℕ) → IsLaid k → Divides 2 bytes → ((s : Footprint) → slice_get (footprints_of k.blocks.items) k.here ≡ Some s → bytes ≤ s.bytes) → next ≡ suc k.here + d → next ≤ wall_of k → next < length k.blocks.items → slice_get (starts_of k) next ≡ Some a
    → IsWalked k bytes (map (λ x. x - bytes) (take d (drop (suc k.here) (starts_of k)))) (a - bytes) next
walk_calm k bytes zero next a l even few e m w f =
    let there = present_at k.blocks.items k.here l.here in
    let footprint = footprint_at k.blocks.items k.here there.0 there.1 in
    let count = count_of k in
    let own = present_at (starts_of k) k.here (let h = l.here in omega arith) in
    let some = few (footprint_of there.0) footprint in
    let is : next ≡ suc k.here = omega arith in
    let end = starts_next k.base (footprints_of k.blocks.items) k.here (footprint_of there.0) own.0 a footprint own.1 (ap (slice_get (starts_of k)) (sym is) ∙ f) in
    let at = present_at k.blocks.items next w in
    let code = start_in_code k next at.0 a l at.1 f in
    walk_begin k bytes there.0 own.0 (a - bytes) next l there.1 own.1 (omega arith) (omega arith) is
walk_calm k bytes (suc d) next a l even few e m w f =
    let before : ℕ = suc k.here + d in
    let there = present_at k.blocks.items before (omega arith) in
    let footprint = footprint_at k.blocks.items before there.0 there.1 in
    let count = count_of k in
    let own = present_at (starts_of k) before (omega arith) in
    let on = walk_calm k bytes d before own.0 l even few refl (omega arith) (omega arith) own.1 in
    let calm = ((bounds k l).calm before (omega arith) (omega arith)).own (footprint_of there.0) footprint in
    let low = few_low k bytes before own.0 l few (omega arith) own.1 in
    let is : next ≡ suc before = omega arith in
    let end = starts_next k.base (footprints_of k.blocks.items) before (footprint_of there.0) own.0 a footprint own.1 (ap (slice_get (starts_of k)) (sym is) ∙ f) in
    let moves = behind_moves 2 bytes own.0 (footprint_of there.0) (calm_alignment there.0.head calm) even low in
    let at = present_at k.blocks.items next w in
    let code = start_in_code k next at.0 a l at.1 f in
    let more = walk_on k bytes (map (λ x. x - bytes) (take d (drop (suc k.here) (starts_of k)))) (own.0 - bytes) before there.0 (a - bytes) next on there.1 (omega arith) (omega arith) (omega arith) is in
    subst (λ (xs : List ℕ). IsWalked k bytes xs (a - bytes) next) (sym (take_next (λ x. x - bytes) (drop (suc k.here) (starts_of k)) d own.0 (get_drop (suc k.here) (starts_of k) d before refl ∙ own.1))) more

pub walked_to_wall : (k : KeptLayout) (bytes a : ℕ) → IsLaid k → Divides 2 bytes → ((s : Footprint) → slice_get (footprints_of k.blocks.items) k.here ≡ Some s → bytes ≤ s.bytes) → wall_of k < length k.blocks.items → slice_get (starts_of k) (wall_of k) ≡ Some a → IsWalked k bytes (calm_starts k bytes) (a - bytes) (wall_of k)
walked_to_wall k bytes a l even few w e = let from = (bounds k l).from in walk_calm k bytes (wall_of k - suc k.here) (wall_of k) a l even few (omega arith) (omega arith) w e

-- the wall is past the last block
pub walked_to_end : (k : KeptLayout) (bytes : ℕ) (s : Block) (a at : ℕ) → IsLaid k → length k.blocks.items ≤ wall_of k → slice_get k.blocks.items k.here ≡ Some s → slice_get (starts_of k) k.here ≡ Some a → at ≡ a + (padding_of s.head a + (s.bytes - bytes)) → at ≤ 2 ^ 29 → IsWalked k bytes (calm_starts k bytes) at (wall_of k)
walked_to_end k bytes s a at l w e f g h =
    let b = bounds k l in
    let from = b.from in
    let within = b.within in
    let last = b.last in
    let here = l.here in
    let is : wall_of k ≡ suc k.here = elim (cases_lt (suc k.here) (length k.blocks.items)) [
      | inl some ↦ absurd (let low = last some in omega arith)
      | inr none ↦ omega arith
    ] in
    let none : wall_of k - suc k.here ≡ 0 = omega arith in
    subst (λ n. IsWalked k bytes (map (λ x. x - bytes) (take n (drop (suc k.here) (starts_of k)))) at (wall_of k)) (sym none) (walk_begin k bytes s a at (wall_of k) l e f g h is)

-- ---- where all blocks move by the bytes that go ----

abbrev pub starts_less : KeptLayout → ℕ → List ℕ
starts_less k bytes = starts_from k.base (lessen k.here bytes 0 (footprints_of k.blocks.items))

lessen_else : (n bytes gone : ℕ) (ss : List Footprint) (j : ℕ) → (j ≡ n → ⊥) → slice_get (lessen n bytes gone ss) j ≡ slice_get ss j
lessen_else n bytes gone [] j d = refl
lessen_else zero bytes gone (s ∷ ss) zero d = absurd (d refl)
lessen_else zero bytes gone (s ∷ ss) (suc j) d = refl
lessen_else (suc n) bytes gone (s ∷ ss) zero d = refl
lessen_else (suc n) bytes gone (s ∷ ss) (suc j) d = lessen_else n bytes gone ss j (λ e. d (ap suc e))

-- an instruction that mentions a name has two bytes before whatever comes after its block
pub less_apart : (k : KeptLayout) (bytes i j : ℕ) (s : Block) (a : Aim) (at b : ℕ) → AreWide (footprints_of k.blocks.items) → slice_get k.blocks.items i ≡ Some s → s.head ≡ head.Aims a → (i ≡ k.here → ⊥) → i < j → slice_get (starts_less k bytes) i ≡ Some at → slice_get (starts_less k bytes) j ≡ Some b → at + 2 ≤ b
less_apart k bytes i j s a at b wide e f other h at_is b_is =
    let footprint = footprint_at k.blocks.items i s e in
    let two : 2 ≤ s.bytes = wide i (footprint_of s) a footprint f in
    let is = lessen_else k.here bytes 0 (footprints_of k.blocks.items) i other ∙ footprint in
    let far = starts_apart k.base (lessen k.here bytes 0 (footprints_of k.blocks.items)) i j (footprint_of s) at b h is at_is b_is in
    omega arith

pub less_order : (k : KeptLayout) (bytes i j a b : ℕ) → i ≤ j → slice_get (starts_less k bytes) i ≡ Some a → slice_get (starts_less k bytes) j ≡ Some b → a ≤ b
less_order k bytes i j a b = starts_order k.base (lessen k.here bytes 0 (footprints_of k.blocks.items)) i j a b

-- the mention was within reach before the move
pub was_right : (k : KeptLayout) (j : ℕ) (s : Block) (a : Aim) (t old to : ℕ) → IsLaid k → slice_get k.blocks.items j ≡ Some s → s.head ≡ head.Aims a → a.to ≡ Some (location.Block t) → slice_get (starts_of k) j ≡ Some old → slice_get (starts_of k) t ≡ Some to → aim_fault old a.instr (Some to) a.plus ≡ None
was_right k j s a t old to l e f g old_is to_is =
    let r = l.reach j (footprint_of s) old (footprint_at k.blocks.items j s e) old_is in
    let h : aim_fault old a.instr (address_of (starts_of k) a.to) a.plus ≡ None = subst (λ (x : Head). head_fault (starts_of k) old x ≡ None) f r in
    subst (λ (o : Option ℕ). aim_fault old a.instr o a.plus ≡ None) (ap (address_of (starts_of k)) g ∙ to_is) h

-- a mention of a label is within reach where its two addresses are
pub label_is_right : (k : KeptLayout) (starts : List ℕ) (j : ℕ) (s : Block) (a : Aim) (t at to : ℕ) → slice_get k.blocks.items j ≡ Some s → s.head ≡ head.Aims a → a.to ≡ Some (location.Block t) → slice_get starts j ≡ Some at → slice_get starts t ≡ Some to → aim_fault at a.instr (Some to) a.plus ≡ None
    → IsRight starts k.blocks.items j
label_is_right k starts j s a t at to e f g at_is to_is r = λ other n h i.
    let one : s ≡ other = cc in
    let place : at ≡ n = cc in
    let there : aim_fault at a.instr (address_of starts a.to) a.plus ≡ None = subst (λ (o : Option ℕ). aim_fault at a.instr o a.plus ≡ None) (sym (ap (address_of starts) g ∙ to_is)) r in
    let whole : head_fault starts at s.head ≡ None = subst (λ (x : Head). head_fault starts at x ≡ None) (sym f) there in
    subst (λ m. head_fault starts m other.head ≡ None) place (subst (λ (x : Block). head_fault starts at x.head ≡ None) one whole)

-- ---- mentions from and to calm blocks ----

-- neither a mention of a calm block's label nor a calm block's own mention is a literal's
pub no_literal_of : (k : KeptLayout) (j t : ℕ) (s : Block) (a : Aim) → IsLaid k → k.here < t → t < wall_of k → slice_get k.blocks.items j ≡ Some s → s.head ≡ head.Aims a → a.to ≡ Some (location.Block t) → is_literal a.instr ≡ false
no_literal_of k j t s a l h m e f g = ((bounds k l).calm t h m).label j (footprint_of s) a (footprint_at k.blocks.items j s e) f g

pub no_literal_at : (k : KeptLayout) (j : ℕ) (s : Block) (a : Aim) → IsLaid k → k.here < j → j < wall_of k → slice_get k.blocks.items j ≡ Some s → s.head ≡ head.Aims a → is_literal a.instr ≡ false
no_literal_at k j s a l h m e f =
    let own : is_calm s.head ≡ true = ((bounds k l).calm j h m).own (footprint_of s) (footprint_at k.blocks.items j s e) in
    let calm : is_calm (head.Aims a) ≡ true = subst (λ (x : Head). is_calm x ≡ true) f own in
    go (is_literal a.instr) refl calm
  where
    go : (b : Bool) → is_literal a.instr ≡ b → is_calm (head.Aims a) ≡ true → is_literal a.instr ≡ false
    go false e c = e
    go true e c = absurd (let never : false ≡ true = sym (rw e refl) ∙ c in cc)

-- a calm block mentions no address that is set
pub no_address_at : (k : KeptLayout) (j : ℕ) (s : Block) (a : Aim) (to : ℕ) → IsLaid k → k.here < j → j < wall_of k → slice_get k.blocks.items j ≡ Some s → s.head ≡ head.Aims a → a.to ≡ Some (location.Address to) → ⊥
no_address_at k j s a to l h m e f g =
    let own : is_calm s.head ≡ true = ((bounds k l).calm j h m).own (footprint_of s) (footprint_at k.blocks.items j s e) in
    let calm : is_calm (head.Aims a) ≡ true = subst (λ (x : Head). is_calm x ≡ true) f own in
    let parts = and_parts (not (is_literal a.instr)) (is_calm_to a.to) calm in
    let never : false ≡ true = sym (ap is_calm_to g) ∙ parts.1 in
    true≢false (sym never)

-- where blocks begin once the bytes are gone
record AreThere (k : KeptLayout) (bytes : ℕ) : Type 0 where
  before : (j : ℕ) → j ≤ k.here → slice_get (starts_less k bytes) j ≡ slice_get (starts_of k) j
  calm : (j a : ℕ) → k.here < j → j < wall_of k → slice_get (starts_of k) j ≡ Some a → slice_get (starts_less k bytes) j ≡ Some (a - bytes)

walked_there : (k : KeptLayout) (bytes at : ℕ) → IsLaid k → IsWalked k bytes (calm_starts k bytes) at (wall_of k) → (j : ℕ) → j < wall_of k → slice_get (starts_less k bytes) j ≡ slice_get (moved_starts k (calm_starts k bytes) 0) j
walked_there k bytes at l w j h =
    let end = end_calm k bytes l in
    ap (λ (xs : List ℕ). slice_get xs j) (w.starts 0) ∙ starts_alike k (calm_starts k bytes) (starts_from at (drop (wall_of k) (footprints_of k.blocks.items))) (map (λ a. a - 0) (drop (end_of k (calm_starts k bytes)) (starts_of k))) l.here j (omega arith)

are_there : (k : KeptLayout) (bytes at : ℕ) → IsLaid k → IsWalked k bytes (calm_starts k bytes) at (wall_of k) → AreThere k bytes
are_there k bytes at l w =
    let end = end_calm k bytes l in
    let b = bounds k l in
    let from = b.from in
    let within = b.within in
    let move = not_together k (calm_starts k bytes) 0 refl (omega arith) in
    record {
      before = λ j h. walked_there k bytes at l w j (omega arith) ∙ moved_before k (calm_starts k bytes) 0 j move h;
      calm = λ j a h m e. walked_there k bytes at l w j m ∙ moved_among k (calm_starts k bytes) 0 j move h (omega arith) ∙ calm_at k bytes j a h m e;
    }

-- a label's mention stays within reach if both ends lie before the wall and at least one of them moved
calm_label : (k : KeptLayout) (bytes j t : ℕ) (s : Block) (a : Aim) → IsLaid k → AreWide (footprints_of k.blocks.items) → ((n x : ℕ) → k.here < n → slice_get (starts_of k) n ≡ Some x → bytes ≤ x) → AreThere k bytes → slice_get k.blocks.items j ≡ Some s → s.head ≡ head.Aims a → a.to ≡ Some (location.Block t) → (j ≡ k.here → ⊥)
    → k.here < max j t → max j t < wall_of k → IsRight (starts_less k bytes) k.blocks.items j
calm_label k bytes j t s a l wide low there e f g other some below =
    let within = (bounds k l).within in
    let count = count_of k in
    let old = present_at (starts_of k) j (omega arith) in
    let to = present_at (starts_of k) t (omega arith) in
    let was = was_right k j s a t old.0 to.0 l e f g old.1 to.1 in
    elim (cases_lt k.here j) [
      | inl behind ↦
          let at = there.calm j old.0 behind (omega arith) old.1 in
          let plain = no_literal_at k j s a l behind (omega arith) e f in
          let under = low j old.0 behind old.1 in
          elim (cases_lt k.here t) [
            | inl both ↦
                let less = low t to.0 both to.1 in
                label_is_right k (starts_less k bytes) j s a t (old.0 - bytes) (to.0 - bytes) e f g at (there.calm t to.0 both (omega arith) to.1)
                (aim_moves bytes old.0 to.0 a.instr a.plus (λ y. absurd (let never : true ≡ false = sym y ∙ plain in cc)) under less was)
            | inr back ↦
                let where_to = there.before t (omega arith) ∙ to.1 in
                let order = less_order k bytes t j to.0 (old.0 - bytes) (omega arith) where_to at in
                label_is_right k (starts_less k bytes) j s a t (old.0 - bytes) to.0 e f g at where_to (aim_back bytes old.0 to.0 a.instr a.plus plain (omega arith) was)
          ]
      | inr before ↦
          let at = there.before j (omega arith) ∙ old.1 in
          let ahead : k.here < t = omega arith in
          let where_to = there.calm t to.0 ahead (omega arith) to.1 in
          let plain = no_literal_of k j t s a l ahead (omega arith) e f g in
          let less = low t to.0 ahead to.1 in
          let two = less_apart k bytes j t s a old.0 (to.0 - bytes) wide e f other (omega arith) at where_to in
          label_is_right k (starts_less k bytes) j s a t old.0 (to.0 - bytes) e f g at where_to (aim_ahead bytes old.0 to.0 a.instr a.plus (λ y. absurd (let never : true ≡ false = sym y ∙ plain in cc)) (omega arith) was)
    ]

calm_right : (k : KeptLayout) (bytes j : ℕ) (s : Block) → IsLaid k → AreWide (footprints_of k.blocks.items) → ((n x : ℕ) → k.here < n → slice_get (starts_of k) n ≡ Some x → bytes ≤ x) → AreThere k bytes → slice_get k.blocks.items j ≡ Some s → (j ≡ k.here → ⊥) → k.here < later_end j s.head → later_end j s.head < wall_of k
    → IsRight (starts_less k bytes) k.blocks.items j
calm_right k bytes j s l wide low there e other some below = go s.head refl some below
  where
    go : (h : Head) → s.head ≡ h → k.here < later_end j h → later_end j h < wall_of k → IsRight (starts_less k bytes) k.blocks.items j
    go head.Plain f m n = λ x at g i. let one : s ≡ x = cc in subst (λ (y : Head). head_fault (starts_less k bytes) at y ≡ None) (sym f ∙ ap (λ (y : Block). y.head) one) refl
    go (head.Pads size most) f m n = λ x at g i. let one : s ≡ x = cc in subst (λ (y : Head). head_fault (starts_less k bytes) at y ≡ None) (sym f ∙ ap (λ (y : Block). y.head) one) refl
    go (head.Aims a) f m n = aims a.to refl m n
      where
        aims : (o : Option NameLocation) → a.to ≡ o → k.here < later_end j (head.Aims (record a { to = o })) → later_end j (head.Aims (record a { to = o })) < wall_of k → IsRight (starts_less k bytes) k.blocks.items j
        aims None g m n = λ x at h i.
            let one : s ≡ x = cc in
            let none : aim_fault at a.instr (address_of (starts_less k bytes) a.to) a.plus ≡ None = subst (λ (o : Option NameLocation). aim_fault at a.instr (address_of (starts_less k bytes) o) a.plus ≡ None) (sym g) (aim_none at a.instr a.plus) in
            subst (λ (y : Head). head_fault (starts_less k bytes) at y ≡ None) (sym f ∙ ap (λ (y : Block). y.head) one) none
        aims (Some (location.Block t)) g m n = calm_label k bytes j t s a l wide low there e f g other m n
        aims (Some (location.Address to)) g m n = absurd (no_address_at k j s a to l m n e f g)

-- all mentions before the wall are within reach, where that of the current block was looked at
pub calm_known : (k : KeptLayout) (bytes at : ℕ) → IsLaid k → AreWide (footprints_of k.blocks.items) → ((s : Footprint) → slice_get (footprints_of k.blocks.items) k.here ≡ Some s → bytes ≤ s.bytes) → IsWalked k bytes (calm_starts k bytes) at (wall_of k) → IsRightIf true k (calm_starts k bytes) 0 k.here
    → AreKnownRight k (calm_starts k bytes) 0
calm_known k bytes at l wide few w own = λ j s e low high.
    let end = end_calm k bytes l in
    elim (cases_lt j k.here) [
      | inl before ↦ elsewhere j s e low high (λ x. omega arith)
      | inr not ↦ elim (cases_lt k.here j) [
        | inl behind ↦ elsewhere j s e low high (λ x. omega arith)
        | inr same ↦
            let here : k.here ≡ j = omega arith in
            subst (IsRight (moved_starts k (calm_starts k bytes) 0) k.blocks.items) here (own s (ap (slice_get k.blocks.items) here ∙ e) (lt-ltb _ _ (subst (λ n. later_end n s.head < end_of k (calm_starts k bytes)) (sym here) high)))
      ]
    ]
  where
    elsewhere : (j : ℕ) (s : Block) → slice_get k.blocks.items j ≡ Some s → k.here < later_end j s.head → later_end j s.head < end_of k (calm_starts k bytes) → (j ≡ k.here → ⊥) → IsRight (moved_starts k (calm_starts k bytes) 0) k.blocks.items j
    elsewhere j s e low high other =
        let end = end_calm k bytes l in
        right_alike (wall_of k) j (starts_less k bytes) (moved_starts k (calm_starts k bytes) 0) k.blocks.items s (walked_there k bytes at l w) e (omega arith)
        (calm_right k bytes j s l wide (λ n x h i. few_low k bytes n x l few h i) (are_there k bytes at l w) e other low (omega arith))

-- calm blocks have any slack, as they mention no address that is set
pub calm_slack : (k : KeptLayout) (new : List ℕ) (by j slack : ℕ) → IsLaid k → k.here < j → j < wall_of k → HasOwn k new by slack j
calm_slack k new by j slack l h m at s e f = go s.head refl
  where
    go : (x : Head) → s.head ≡ x → HasSlack slack at s.head
    go head.Plain g = subst (λ (y : Head). HasSlack slack at y) (sym g) tt
    go (head.Pads size most) g = subst (λ (y : Head). HasSlack slack at y) (sym g) tt
    go (head.Aims a) g = subst (λ (y : Head). HasSlack slack at y) (sym g) (aims a.to refl)
      where
        aims : (o : Option NameLocation) → a.to ≡ o → HasSlackTo slack at a.instr a.to a.plus
        aims None i = subst (λ (t : Option NameLocation). HasSlackTo slack at a.instr t a.plus) (sym i) tt
        aims (Some (location.Block t)) i = subst (λ (t : Option NameLocation). HasSlackTo slack at a.instr t a.plus) (sym i) tt
        aims (Some (location.Address to)) i = absurd (no_address_at k j s a to l h m e g i)
