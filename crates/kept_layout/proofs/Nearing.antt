-- Slack: by how many bytes mentions of addresses that are set may move and stay within reach.
use Rattle.std.proofs.Common.{◌≡◌, inl, inr, ℕ, suc, ◌+◌, ◌-◌, ◌<◌, ◌≤◌, min, true, false, List, length, Option, Some, None, refl, sym, ap, subst, arith, true≢false}
use Rattle.std.specs.Prelude.{nat_le, slice_get}
use Rattle.std.proofs.lemmas.Bool.{and_parts, cases_Bool, cases_lt, leb-true}
use Rattle.std.proofs.lemmas.Option.{slice_get_read, slice_get_within}
use Rattle.thumb_model.specs.Layout.{aim_fault}
use Rattle.thumb_model.proofs.Lists.{present_at}
use Rattle.kept_layout.specs.declared.kept.KeptLayout.{KeptLayout}
use Rattle.kept_layout.specs.declared.block.Head.{Head}
use Rattle.kept_layout.specs.declared.block.Head.TheVariants as head
use Rattle.kept_layout.specs.declared.block.Block.{Block}
use Rattle.kept_layout.specs.declared.block.NameLocation.{NameLocation}
use Rattle.kept_layout.specs.declared.block.NameLocation.TheVariants as location
use Rattle.kept_layout.specs.declared.alignments.Loose.TheVariants as sort
use Rattle.kept_layout.specs.Blocks.{head_fault, is_loose, is_loose_to, HasSlack, HasSlackTo}
use Rattle.kept_layout.specs.Kept.{IsLaid}
use Rattle.kept_layout.specs.Moves.{end_of, has_slack, moved_starts, starts_of, AreSlack, IsMove}
use Rattle.kept_layout.proofs.ShrinkingPlaces.{count_of, moved_before, moved_behind}

-- ---- one mention ----

-- a mention that is within reach has slack 0
pub slack_none : (starts : List ℕ) (at : ℕ) (h : Head) → head_fault starts at h ≡ None → HasSlack 0 at h
slack_none starts at head.Plain e = tt
slack_none starts at (head.Pads size most) e = tt
slack_none starts at (head.Aims a) e = go a.to e
  where
    go : (to : Option NameLocation) → head_fault starts at (head.Aims (record a { to = to })) ≡ None → HasSlackTo 0 at a.instr to a.plus
    go None f = tt
    go (Some (location.Block t)) f = tt
    go (Some (location.Address to)) f = λ d l m. subst (λ n. aim_fault n a.instr (Some to) a.plus ≡ None) (let same : at ≡ at - d = omega arith in same) f

-- and with some slack it has any smaller one
pub slack_fewer : (n m at : ℕ) (h : Head) → m ≤ n → HasSlack n at h → HasSlack m at h
slack_fewer n m at head.Plain l s = tt
slack_fewer n m at (head.Pads size most) l s = tt
slack_fewer n m at (head.Aims a) l s = go a.to s
  where
    go : (to : Option NameLocation) → HasSlackTo n at a.instr to a.plus → HasSlackTo m at a.instr to a.plus
    go None r = tt
    go (Some (location.Block t)) r = tt
    go (Some (location.Address to)) r = λ d x y. r d (omega arith) y

-- by a move the slack gets less by as many bytes
slack_moves : (n by at : ℕ) (h : Head) → by ≤ n → by ≤ at → HasSlack n at h → HasSlack (n - by) (at - by) h
slack_moves n by at head.Plain l m s = tt
slack_moves n by at (head.Pads size most) l m s = tt
slack_moves n by at (head.Aims a) l m s = go a.to s
  where
    go : (to : Option NameLocation) → HasSlackTo n at a.instr to a.plus → HasSlackTo (n - by) (at - by) a.instr to a.plus
    go None r = tt
    go (Some (location.Block t)) r = tt
    go (Some (location.Address to)) r = λ d x y. subst (λ p. aim_fault p a.instr (Some to) a.plus ≡ None) (let same : at - (by + d) ≡ at - by - d = omega arith in same) (r (by + d) (omega arith) (omega arith))

-- ---- all of them ----

-- what isn't a mention of a set address has any slack
slack_other : (n at j : ℕ) (h : Head) → is_loose sort.Address j h ≡ false → HasSlack n at h
slack_other n at j head.Plain e = tt
slack_other n at j (head.Pads size most) e = tt
slack_other n at j (head.Aims a) e = go a.to e
  where
    go : (to : Option NameLocation) → is_loose_to sort.Address j a.instr to ≡ false → HasSlackTo n at a.instr to a.plus
    go None f = tt
    go (Some (location.Block t)) f = tt
    go (Some (location.Address to)) f = absurd (true≢false f)

-- the slack of what block j begins with, after the move
abbrev pub HasOwn : KeptLayout → List ℕ → ℕ → ℕ → ℕ → Type 0
HasOwn k new by slack j = (at : ℕ) (s : Block) → slice_get k.blocks.items j ≡ Some s → slice_get (moved_starts k new by) j ≡ Some at → HasSlack slack at s.head

own_fewer : (k : KeptLayout) (new : List ℕ) (by n m j : ℕ) → m ≤ n → HasOwn k new by n j → HasOwn k new by m j
own_fewer k new by n m j l h at s e f = slack_fewer n m at s.head l (h at s e f)

-- the blocks that move by themselves were looked at up to a number
pub record IsLeft (k : KeptLayout) (new : List ℕ) (by number slack : ℕ) : Type 0 where
  pub few : slack ≤ k.slack - by
  pub among : (j : ℕ) → k.here < j → j < number → HasOwn k new by slack j

pub left_first : (k : KeptLayout) (new : List ℕ) (by number slack : ℕ) → slack ≡ k.slack - by → ((j : ℕ) → k.here < j → j < number → HasOwn k new by slack j) → IsLeft k new by number slack
left_first k new by number slack f calm = record { few = omega arith; among = calm }

pub left_more : (k : KeptLayout) (new : List ℕ) (by number following slack own less : ℕ) → IsLeft k new by number slack → HasOwn k new by own number → less ≡ min slack own → following ≡ suc number → IsLeft k new by following less
left_more k new by number following slack own less h o e f = record {
  few = let few = h.few in omega arith;
  among = λ j l m. elim (cases_lt j number) [
    | inl before ↦ own_fewer k new by slack less j (omega arith) (h.among j l before)
    | inr now ↦ subst (HasOwn k new by less) (let same : number ≡ j = omega arith in same) (own_fewer k new by own less number (omega arith) o)
  ];
}

pub left_all : (k : KeptLayout) (new : List ℕ) (by number slack : ℕ) → IsLaid k → IsMove k new by → has_slack k by ≡ true → end_of k new ≤ number → IsLeft k new by number slack → AreSlack k new by k.slack_from slack
left_all k new by number slack l m enough h left j at s from e f =
    let few = left.few in
    let parts = and_parts (nat_le by k.slack) (nat_le k.slack_from k.here) enough in
    let most = leb-true by k.slack parts.0 in
    let count = count_of k in
    let old = present_at (starts_of k) j (let w = slice_get_within k.blocks.items j s e in omega arith) in
    let had = l.slack j old.0 s from e old.1 in
    elim (cases_lt k.here j) [
      | inr before ↦
          let same : old.0 ≡ at = let stays = moved_before k new by j m (omega arith) in let was = old.1 in cc in
          slack_fewer k.slack slack at s.head (omega arith) (subst (λ n. HasSlack k.slack n s.head) same had)
      | inl later ↦ elim (cases_lt j (end_of k new)) [
        | inl among ↦ left.among j later (omega arith) at s e f
        | inr behind ↦
            let moves : old.0 - by ≡ at = let there = moved_behind k new by j old.0 m (omega arith) old.1 in cc in
            let low = m.low j old.0 (omega arith) old.1 in
            slack_fewer (k.slack - by) slack at s.head few (subst (λ n. HasSlack (k.slack - by) n s.head) moves (slack_moves k.slack by old.0 s.head most low had))
      ]
    ]

-- the mentions of set addresses were looked at up to an index of their list
abbrev pub AreTried : KeptLayout → List ℕ → ℕ → ℕ → ℕ → Type 0
AreTried k new by index slack = (n j : ℕ) → n < index → slice_get k.absolute.items n ≡ Some j → k.here < j → HasOwn k new by slack j

pub tried_more : (k : KeptLayout) (new : List ℕ) (by index following slack own less number : ℕ) → AreTried k new by index slack → slice_get k.absolute.items index ≡ Some number → HasOwn k new by own number → less ≡ min slack own → following ≡ suc index → AreTried k new by following less
tried_more k new by index following slack own less number h e o f g n j l i b = elim (cases_lt n index) [
  | inl before ↦ own_fewer k new by slack less j (omega arith) (h n j before i b)
  | inr now ↦
      let same : number ≡ j = let here : index ≡ n = omega arith in let v = ap (slice_get k.absolute.items) here in cc in
      subst (HasOwn k new by less) same (own_fewer k new by own less number (omega arith) o)
]

pub tried_all : (k : KeptLayout) (new : List ℕ) (by index slack : ℕ) → IsLaid k → length k.absolute.items ≤ index → AreTried k new by index slack → AreSlack k new by k.here slack
tried_all k new by index slack l h tried j at s from e f = elim (cases_Bool (is_loose sort.Address j s.head)) [
  | inl is ↦
      let c = l.absolute j s e is in
      tried c.0 j (let w = c.1 in omega arith) (slice_get_read k.absolute.items (length k.absolute.items) c.0 j refl c.1 (sym c.2)) from at s e f
  | inr not ↦ slack_other slack at j s.head not
]
