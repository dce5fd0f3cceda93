-- How blocks move where the current one takes fewer bytes.
use Rattle.std.specs.Prelude.{◌≡◌, ℕ, suc, ◌+◌, ◌-◌, ◌^◌, ◌<◌, ◌≤◌, ◌&&◌, nat_eq, nat_le, nat_lt, Bool, true, false, List, ◌++◌, length, map, take, drop, Option, Some, None, slice_get, Contains}
use Rattle.kept_layout.specs.declared.kept.KeptLayout.{KeptLayout}
use Rattle.kept_layout.specs.declared.lag.Lag.{Lag}
use Rattle.kept_layout.specs.declared.block.Block.{Block}
use Rattle.kept_layout.specs.declared.block.Aim.{Aim}
use Rattle.kept_layout.specs.declared.block.Head.{Head}
use Rattle.kept_layout.specs.declared.block.Head.TheVariants as head
use Rattle.kept_layout.specs.declared.block.NameLocation.TheVariants as location
use Rattle.kept_layout.specs.Blocks.{end_from, head_fault, lag_of, later_end, lessen, literal_last, located, footprints_of, starts_from, Divides, HasSlack, Footprint}

-- the address of each block
abbrev pub starts_of : KeptLayout → List ℕ
starts_of k = starts_from k.base (footprints_of k.blocks.items)

-- the number of the first block after those that have new addresses of their own
abbrev pub end_of : KeptLayout → List ℕ → ℕ
end_of k new = suc k.here + length new

-- the address of each block after the move: those after the current one have the new addresses, and those after these lie `by` bytes earlier
abbrev pub moved_starts : KeptLayout → List ℕ → ℕ → List ℕ
moved_starts k new by = take (suc k.here) (starts_of k) ++ (new ++ map (λ a. a - by) (drop (end_of k new) (starts_of k)))

-- the wall of the block after the current one, if there is one
abbrev pub wall_in : Option ℕ → ℕ → ℕ
wall_in None n = n
wall_in (Some wall) n = wall

abbrev pub wall_of : KeptLayout → ℕ
wall_of k = wall_in (slice_get k.walls.items (suc k.here)) (suc k.here)

-- the addresses after the move of the calm blocks before the wall, which lie `bytes` earlier
abbrev pub calm_starts : KeptLayout → ℕ → List ℕ
calm_starts k bytes = map (λ a. a - bytes) (take (wall_of k - suc k.here) (drop (suc k.here) (starts_of k)))

-- these, and then those of the blocks from the wall on, which begin at `at`
abbrev pub news : KeptLayout → ℕ → List ℕ → List ℕ
news k bytes at = calm_starts k bytes ++ at

-- the new addresses are those of blocks, and the blocks after these can lie `by` bytes earlier
pub record IsMove (k : KeptLayout) (new : List ℕ) (by : ℕ) : Type 0 where
  pub within : end_of k new ≤ length k.blocks.items
  pub low : (j a : ℕ) → end_of k new ≤ j → slice_get (starts_of k) j ≡ Some a → by ≤ a
  -- `by` is a multiple of 4 where a literal or its label is among those
  pub literals : (i : ℕ) (s : Footprint) → slice_get (footprints_of k.blocks.items) i ≡ Some s → end_of k new ≤ literal_last i s.head → Divides 4 by

-- blocks move so if the current one takes `bytes` fewer, however many places go with these
pub record IsMovedTo (k : KeptLayout) (bytes : ℕ) (new : List ℕ) (by : ℕ) : Type 0 where
  pub move : IsMove k new by
  pub starts : (gone : ℕ) → starts_from k.base (lessen k.here bytes gone (footprints_of k.blocks.items)) ≡ moved_starts k new by
  pub in_code : (gone : ℕ) → end_from k.base (lessen k.here bytes gone (footprints_of k.blocks.items)) ≤ 2 ^ 29

-- blocks move so, where those from the wall on begin at `at`
abbrev pub IsMoved : KeptLayout → ℕ → List ℕ → ℕ → Type 0
IsMoved k bytes at by = IsMovedTo k bytes (news k bytes at) by

-- the blocks after the current one have the new addresses up to block `next`, which begins at `at`
pub record IsWalked (k : KeptLayout) (bytes : ℕ) (new : List ℕ) (at next : ℕ) : Type 0 where
  pub count : next ≡ suc k.here + length new
  pub within : next ≤ length k.blocks.items
  pub in_code : at ≤ 2 ^ 29
  pub starts : (gone : ℕ) → starts_from k.base (lessen k.here bytes gone (footprints_of k.blocks.items)) ≡ take (suc k.here) (starts_of k) ++ (new ++ starts_from at (drop next (footprints_of k.blocks.items)))
  pub ends : (gone : ℕ) → end_from k.base (lessen k.here bytes gone (footprints_of k.blocks.items)) ≡ end_from at (drop next (footprints_of k.blocks.items))

-- no calm block before `first` is near enough to those that move together for a mention between them to come out of reach, where these move by less
pub record AreFar (k : KeptLayout) (bytes by first : ℕ) : Type 0 where
  pub from : k.here < first
  pub until : first ≤ wall_of k
  pub far : by < bytes → (j at wall : ℕ) → k.here < j → j < first → slice_get (starts_of k) j ≡ Some at → slice_get (starts_of k) (wall_of k) ≡ Some wall → at + 2052 < wall
  pub small : by < bytes → suc k.here < first → (j at end : ℕ) → slice_get (starts_of k) 0 ≡ Some at → suc j ≡ length k.blocks.items → slice_get (starts_of k) j ≡ Some end → end + bytes ≤ at + 16000000

-- what block j mentions is within reach, where blocks begin at `starts`
abbrev pub IsRight : List ℕ → List Block → ℕ → Type 0
IsRight starts blocks j = (s : Block) (at : ℕ) → slice_get blocks j ≡ Some s → slice_get starts j ≡ Some at → head_fault starts at s.head ≡ None

-- whether block j and the one whose label its head mentions both lie before those that move together
abbrev pub is_known : KeptLayout → List ℕ → ℕ → Head → Bool
is_known k new j head = nat_lt (later_end j head) (end_of k new)

-- what block j mentions is within reach, if `is_known` of it is `known`
abbrev pub IsRightIf : Bool → KeptLayout → List ℕ → ℕ → ℕ → Type 0
IsRightIf known k new by j = (s : Block) → slice_get k.blocks.items j ≡ Some s → is_known k new j s.head ≡ known → IsRight (moved_starts k new by) k.blocks.items j

-- each mention from or to a block with a new address is within reach, where neither of its ends is among those that move together
abbrev pub AreKnownRight : KeptLayout → List ℕ → ℕ → Type 0
AreKnownRight k new by = (j : ℕ) (s : Block) → slice_get k.blocks.items j ≡ Some s → k.here < later_end j s.head → later_end j s.head < end_of k new → IsRight (moved_starts k new by) k.blocks.items j

-- whether the slack shows that no mention of an address that is set comes out of reach where all of them move by so many bytes
abbrev pub has_slack : KeptLayout → ℕ → Bool
has_slack k by = nat_le by k.slack && nat_le k.slack_from k.here

-- after the move, the mentions of set addresses after block `from` may all move by `slack` bytes
abbrev pub AreSlack : KeptLayout → List ℕ → ℕ → ℕ → ℕ → Type 0
AreSlack k new by from slack = (j at : ℕ) (s : Block) → from < j → slice_get k.blocks.items j ≡ Some s → slice_get (moved_starts k new by) j ≡ Some at → HasSlack slack at s.head

-- all that could come out of reach was looked at, and is within reach
pub record IsLookedAt (k : KeptLayout) (new : List ℕ) (by : ℕ) : Type 0 where
  pub heads : (j : ℕ) → k.here ≤ j → j < end_of k new → IsRight (moved_starts k new by) k.blocks.items j
  pub callers : (t j : ℕ) (s : Block) (a : Aim) → k.here < t → t < end_of k new → slice_get k.blocks.items j ≡ Some s → s.head ≡ head.Aims a → a.to ≡ Some (location.Block t) → IsRight (moved_starts k new by) k.blocks.items j
  pub loose : 0 < by → (j : ℕ) → Contains k.loose.items j → IsRight (moved_starts k new by) k.blocks.items j
  pub absolute : 0 < by → has_slack k by ≡ false → (j : ℕ) → Contains k.absolute.items j → IsRight (moved_starts k new by) k.blocks.items j

-- a block without its noted address
abbrev pub unplaced : Block → Block
unplaced s = record s { at = 0 }

-- whether the blocks with the lag `gap` end right at the wall
abbrev pub keeps_gap : KeptLayout → Bool
keeps_gap k = nat_eq k.lag.until (wall_of k) && nat_le (wall_of k) k.lag.border

-- the lags of blocks after the move
pub record IsLagAfter (k : KeptLayout) (bytes : ℕ) (at : List ℕ) (by : ℕ) (lag : Lag) : Type 0 where
  pub border : lag.border ≡ wall_of k + length at
  pub shift : lag.shift ≡ k.lag.shift + by
  pub from : lag.from ≡ suc k.here
  pub until : lag.until ≡ wall_of k
  pub kept : keeps_gap k ≡ true → lag.gap ≡ k.lag.gap + bytes

-- what is noted for block j, which lay at `old`: its address after the move, with its new lag added
pub record IsNote (k : KeptLayout) (bytes : ℕ) (at : List ℕ) (by : ℕ) (lag : Lag) (j old note : ℕ) : Type 0 where
  pub before : j ≤ k.here → note ≡ old + lag_of lag j
  pub calm : k.here < j → j < wall_of k → note ≡ old - bytes + lag_of lag j
  pub among : k.here < j → wall_of k ≤ j → j < wall_of k + length at → (x : ℕ) → slice_get at (j - wall_of k) ≡ Some x → note ≡ x + lag_of lag j
  pub behind : k.here < j → wall_of k + length at ≤ j → note ≡ old - by + lag_of lag j

-- the blocks from `from` up to before `until` are noted so, and the others are as before
pub record AreNotedIn (k : KeptLayout) (bytes : ℕ) (at : List ℕ) (by : ℕ) (lag : Lag) (from until : ℕ) (ss : List Block) : Type 0 where
  pub same : map unplaced ss ≡ map unplaced k.blocks.items
  pub notes : (j : ℕ) (s d : Block) → from ≤ j → j < until → slice_get k.blocks.items j ≡ Some s → slice_get ss j ≡ Some d → IsNote k bytes at by lag j (located k.lag j s.at) d.at
  pub low : (j : ℕ) → j < from → slice_get ss j ≡ slice_get k.blocks.items j
  pub rest : (j : ℕ) → until ≤ j → slice_get ss j ≡ slice_get k.blocks.items j

-- for all blocks the addresses after the move are noted
pub record AreNoted (k : KeptLayout) (new : List ℕ) (by : ℕ) (lag : Lag) (ss : List Block) : Type 0 where
  pub same : map unplaced ss ≡ map unplaced k.blocks.items
  pub lies : (j x : ℕ) (d : Block) → slice_get ss j ≡ Some d → slice_get (moved_starts k new by) j ≡ Some x → d.at ≡ x + lag_of lag j

-- a block without its alignment
abbrev pub unaligned : Block → Block
unaligned s = record s { alignment = 0 }
