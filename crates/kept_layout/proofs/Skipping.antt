-- Calm blocks that aren't looked at: the blocks that move together after the wall come nearer to them, or are far from them.
use Rattle.std.proofs.Common.{◌≡◌, ◌∙◌, inl, inr, ℕ, suc, ◌+◌, ◌-◌, ◌<◌, ◌≤◌, max, false, List, length, Option, Some, None, refl, ap, subst, arith}
use Rattle.std.specs.Prelude.{slice_get, Contains}
use Rattle.std.proofs.lemmas.Bool.{cases_lt}
use Rattle.std.proofs.lemmas.Option.{slice_get_within}
use Rattle.thumb_model.proofs.Lists.{present_at}
use Rattle.kept_layout.specs.declared.kept.KeptLayout.{KeptLayout}
use Rattle.kept_layout.specs.declared.block.Aim.{Aim}
use Rattle.kept_layout.specs.declared.block.Head.{Head}
use Rattle.kept_layout.specs.declared.block.Head.TheVariants as head
use Rattle.kept_layout.specs.declared.block.Block.{Block}
use Rattle.kept_layout.specs.declared.block.NameLocation.{NameLocation}
use Rattle.kept_layout.specs.declared.block.NameLocation.TheVariants as location
use Rattle.kept_layout.specs.Blocks.{later_end, footprints_of, AreWide, Footprint}
use Rattle.kept_layout.specs.Kept.{IsLaid}
use Rattle.kept_layout.specs.Moves.{end_of, has_slack, moved_starts, news, starts_of, wall_of, AreFar, AreKnownRight, IsLookedAt, IsMovedTo, IsRight}
use Rattle.kept_layout.proofs.Distances.{aim_ahead_of, aim_back_of}
use Rattle.kept_layout.proofs.ShrinkingKnown.{own_before}
use Rattle.kept_layout.proofs.ShrinkingPlaces.{count_of, moved_among, moved_behind}
use Rattle.kept_layout.proofs.ShrinkingReach.{AreMet}
use Rattle.kept_layout.proofs.ShrinkingStarts.{starts_order}
use Rattle.kept_layout.proofs.Walls.{end_news, few_low, label_is_right, less_apart, less_order, news_calm, no_literal_at, no_literal_of, starts_less, was_right}

-- what is known of a move whose calm blocks before `first` are skipped
pub record Goes (k : KeptLayout) (bytes : ℕ) (at : List ℕ) (by first : ℕ) : Type 0 where
  pub laid : IsLaid k
  pub wide : AreWide (footprints_of k.blocks.items)
  pub few : (s : Footprint) → slice_get (footprints_of k.blocks.items) k.here ≡ Some s → bytes ≤ s.bytes
  pub moved : IsMovedTo k bytes (news k bytes at) by
  pub far : AreFar k bytes by first
  pub known : AreKnownRight k (news k bytes at) by

calm_there : (k : KeptLayout) (bytes : ℕ) (at : List ℕ) (by j a : ℕ) → IsLaid k → IsMovedTo k bytes (news k bytes at) by → k.here < j → j < wall_of k → slice_get (starts_of k) j ≡ Some a → slice_get (moved_starts k (news k bytes at) by) j ≡ Some (a - bytes)
calm_there k bytes at by j a l m h w e =
    let end = end_news k bytes at l in
    moved_among k (news k bytes at) by j m.move h (omega arith) ∙ news_calm k bytes at j a l h w e

less_there : (k : KeptLayout) (bytes : ℕ) (at : List ℕ) (by j x : ℕ) → IsMovedTo k bytes (news k bytes at) by → slice_get (moved_starts k (news k bytes at) by) j ≡ Some x → slice_get (starts_less k bytes) j ≡ Some x
less_there k bytes at by j x m e = ap (λ (xs : List ℕ). slice_get xs j) (m.starts 0) ∙ e

-- a skipped block and one after it are far from each other
record AreApart (bytes low high : ℕ) : Type 0 where
  far : low + 2052 < high
  small : high + bytes ≤ low + 16000000

apart : (k : KeptLayout) (bytes : ℕ) (at : List ℕ) (by first j n low high : ℕ) → Goes k bytes at by first → by < bytes → k.here < j → j < first → wall_of k ≤ n → slice_get (starts_of k) j ≡ Some low → slice_get (starts_of k) n ≡ Some high → AreApart bytes low high
apart k bytes at by first j n low high g less h m w e f =
    let count = count_of k in
    let within = slice_get_within (starts_of k) n high f in
    let wall = present_at (starts_of k) (wall_of k) (omega arith) in
    let begin = present_at (starts_of k) 0 (omega arith) in
    let last : ℕ = length k.blocks.items - 1 in
    let end = present_at (starts_of k) last (omega arith) in
    let one = g.far.far less j low wall.0 h m e wall.1 in
    let two = g.far.small less (omega arith) last begin.0 end.0 begin.1 (omega arith) end.1 in
    let three = starts_order k.base (footprints_of k.blocks.items) (wall_of k) n wall.0 high w wall.1 f in
    let four = starts_order k.base (footprints_of k.blocks.items) 0 j begin.0 low (omega arith) begin.1 e in
    let five = starts_order k.base (footprints_of k.blocks.items) n last high end.0 (omega arith) f end.1 in
    record { far = omega arith; small = omega arith }

skipped_ahead : (k : KeptLayout) (bytes : ℕ) (at : List ℕ) (by first j t : ℕ) (s : Block) (a : Aim) → Goes k bytes at by first → k.here < j → j < first → slice_get k.blocks.items j ≡ Some s → s.head ≡ head.Aims a → a.to ≡ Some (location.Block t) → end_of k (news k bytes at) ≤ t
    → IsRight (moved_starts k (news k bytes at) by) k.blocks.items j
skipped_ahead k bytes at by first j t s a g h m e f i behind =
    let l = g.laid in
    let count = count_of k in
    let until = g.far.until in
    let end = end_news k bytes at l in
    let old = present_at (starts_of k) j (let w = slice_get_within k.blocks.items j s e in omega arith) in
    let to = present_at (starts_of k) t (let w = l.targets j t s a e f i in omega arith) in
    let own = calm_there k bytes at by j old.0 l g.moved h (omega arith) old.1 in
    let other = moved_behind k (news k bytes at) by t to.0 g.moved.move behind to.1 in
    let plain = no_literal_at k j s a l h (omega arith) e f in
    let low = few_low k bytes j old.0 l g.few h old.1 in
    let less = g.moved.move.low t to.0 behind to.1 in
    let two = less_apart k bytes j t s a (old.0 - bytes) (to.0 - by) g.wide e f (λ x. omega arith) (omega arith) (less_there k bytes at by j (old.0 - bytes) g.moved own) (less_there k bytes at by t (to.0 - by) g.moved other) in
    label_is_right k (moved_starts k (news k bytes at) by) j s a t (old.0 - bytes) (to.0 - by) e f i own other
    (aim_ahead_of bytes by old.0 to.0 a.instr a.plus plain low less two (λ x. let r = apart k bytes at by first j t old.0 to.0 g x h m (omega arith) old.1 to.1 in (r.far, r.small)) (was_right k j s a t old.0 to.0 l e f i old.1 to.1))

skipped_back : (k : KeptLayout) (bytes : ℕ) (at : List ℕ) (by first j t : ℕ) (s : Block) (a : Aim) → Goes k bytes at by first → k.here < t → t < first → slice_get k.blocks.items j ≡ Some s → s.head ≡ head.Aims a → a.to ≡ Some (location.Block t) → end_of k (news k bytes at) ≤ j
    → IsRight (moved_starts k (news k bytes at) by) k.blocks.items j
skipped_back k bytes at by first j t s a g h m e f i behind =
    let l = g.laid in
    let count = count_of k in
    let until = g.far.until in
    let end = end_news k bytes at l in
    let old = present_at (starts_of k) j (let w = slice_get_within k.blocks.items j s e in omega arith) in
    let to = present_at (starts_of k) t (let w = l.targets j t s a e f i in omega arith) in
    let own = moved_behind k (news k bytes at) by j old.0 g.moved.move behind old.1 in
    let other = calm_there k bytes at by t to.0 l g.moved h (omega arith) to.1 in
    let plain = no_literal_of k j t s a l h (omega arith) e f i in
    let low = few_low k bytes t to.0 l g.few h to.1 in
    let less = g.moved.move.low j old.0 behind old.1 in
    let order = less_order k bytes t j (to.0 - bytes) (old.0 - by) (omega arith) (less_there k bytes at by t (to.0 - bytes) g.moved other) (less_there k bytes at by j (old.0 - by) g.moved own) in
    label_is_right k (moved_starts k (news k bytes at) by) j s a t (old.0 - by) (to.0 - bytes) e f i own other
    (aim_back_of bytes by old.0 to.0 a.instr a.plus plain less low order (λ x. let r = apart k bytes at by first t j to.0 old.0 g x h m (omega arith) to.1 old.1 in (r.far, r.small)) (was_right k j s a t old.0 to.0 l e f i old.1 to.1))

-- what a skipped block mentions is within reach
skipped_head : (k : KeptLayout) (bytes : ℕ) (at : List ℕ) (by first j : ℕ) (s : Block) → Goes k bytes at by first → k.here < j → j < first → slice_get k.blocks.items j ≡ Some s → IsRight (moved_starts k (news k bytes at) by) k.blocks.items j
skipped_head k bytes at by first j s g h m e =
    let own = own_before j s.head in
    elim (cases_lt (later_end j s.head) (end_of k (news k bytes at))) [
      | inl before ↦ g.known j s e (omega arith) before
      | inr behind ↦ go s.head refl (omega arith)
    ]
  where
    end : end_of k (news k bytes at) ≡ wall_of k + length at
    end = end_news k bytes at g.laid

    until : first ≤ wall_of k
    until = g.far.until

    go : (x : Head) → s.head ≡ x → end_of k (news k bytes at) ≤ later_end j x → IsRight (moved_starts k (news k bytes at) by) k.blocks.items j
    go head.Plain f n = absurd (omega (arith, end, until, m, n))
    go (head.Pads size most) f n = absurd (omega (arith, end, until, m, n))
    go (head.Aims a) f n = aims a.to refl n
      where
        aims : (o : Option NameLocation) → a.to ≡ o → end_of k (news k bytes at) ≤ later_end j (head.Aims (record a { to = o })) → IsRight (moved_starts k (news k bytes at) by) k.blocks.items j
        aims None i n = absurd (omega (arith, end, until, m, n))
        aims (Some (location.Block t)) i n = skipped_ahead k bytes at by first j t s a g h m e f i (omega (arith, end, until, m, n))
        aims (Some (location.Address to)) i n = absurd (omega (arith, end, until, m, n))

-- so is what mentions a skipped block's label
skipped_called : (k : KeptLayout) (bytes : ℕ) (at : List ℕ) (by first t j : ℕ) (s : Block) (a : Aim) → Goes k bytes at by first → k.here < t → t < first → slice_get k.blocks.items j ≡ Some s → s.head ≡ head.Aims a → a.to ≡ Some (location.Block t) → IsRight (moved_starts k (news k bytes at) by) k.blocks.items j
skipped_called k bytes at by first t j s a g h m e f i =
    let later : later_end j s.head ≡ max j t = ap (later_end j) f ∙ ap (Rattle.kept_layout.specs.Blocks.later_to j) i in
    let end = end_news k bytes at g.laid in
    let until = g.far.until in
    elim (cases_lt (max j t) (end_of k (news k bytes at))) [
      | inl before ↦ g.known j s e (omega arith) (omega arith)
      | inr behind ↦ skipped_back k bytes at by first j t s a g h m e f i (omega arith)
    ]

-- what can come out of reach was looked at
pub looked_at : (k : KeptLayout) (bytes : ℕ) (at : List ℕ) (by first number : ℕ) → Goes k bytes at by first → AreMet k (news k bytes at) by first number → wall_of k + length at ≤ number → (0 < by → (j : ℕ) → Contains k.loose.items j → IsRight (moved_starts k (news k bytes at) by) k.blocks.items j)
    → (0 < by → has_slack k by ≡ false → (j : ℕ) → Contains k.absolute.items j → IsRight (moved_starts k (news k bytes at) by) k.blocks.items j) → IsLookedAt k (news k bytes at) by
looked_at k bytes at by first number g met over loose absolute =
    let end = end_news k bytes at g.laid in
    let until = g.far.until in
    let count = count_of k in
    let within = g.moved.move.within in
    record {
      heads = λ j h m. elim (cases_lt j first) [
        | inr later ↦ met.heads j (omega arith) (omega arith)
        | inl before ↦ elim (cases_lt k.here j) [
          | inl skipped ↦ let there = present_at k.blocks.items j (omega arith) in skipped_head k bytes at by first j there.0 g skipped before there.1
          | inr here ↦ subst (IsRight (moved_starts k (news k bytes at) by) k.blocks.items) (let same : k.here ≡ j = omega arith in same) met.here
        ]
      ];
      callers = λ t j s a h m e f i. elim (cases_lt t first) [
        | inl skipped ↦ skipped_called k bytes at by first t j s a g h skipped e f i
        | inr later ↦
            let low = g.laid.targets j t s a e f i in
            let there = present_at k.blocks.items t low in
            met.callers t j there.0 (omega arith) (omega arith) there.1 (g.laid.callers j t s there.0 a e f i there.1)
      ];
      loose = loose;
      absolute = absolute;
    }

-- ---- up to where none is looked at ----

-- a block is far from the wall, and so are those before it
pub far_found : (k : KeptLayout) (bytes by first n at wall : ℕ) → k.here < first → first ≤ wall_of k → suc n ≡ first → slice_get (starts_of k) n ≡ Some at → slice_get (starts_of k) (wall_of k) ≡ Some wall → at + 2052 < wall
    → ((j at end : ℕ) → slice_get (starts_of k) 0 ≡ Some at → suc j ≡ length k.blocks.items → slice_get (starts_of k) j ≡ Some end → end + bytes ≤ at + 16000000) → AreFar k bytes by first
far_found k bytes by first n at wall from until next e f far small = record {
  from = from;
  until = until;
  far = λ x j low other m o g h.
      let order = starts_order k.base (footprints_of k.blocks.items) j n low at (omega arith) g e in
      let same : wall ≡ other = cc in
      omega arith;
  small = λ x m. small;
}
