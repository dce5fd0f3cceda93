-- Where blocks lie by their noted addresses and lags, and where they lie after a move.
use Rattle.std.proofs.Common.{◌≡◌, ◌∙◌, inl, inr, ℕ, zero, suc, ◌+◌, ◌-◌, ◌<◌, ◌≤◌, List, [], ◌∷◌, ◌++◌, length, map, take, drop, Some, refl, sym, ap, subst, arith}
use Rattle.std.specs.Prelude.{nat_le, nat_lt, slice_get}
use Rattle.std.proofs.lemmas.Bool.{le-leb, leb-true, lt-ltb, ltb-true, cases_Bool}
use Rattle.std.proofs.lemmas.Option.{slice_get_within}
use Rattle.thumb_model.proofs.Lists.{get_back, get_drop, get_take, present_at, take_all}
use Rattle.kept_layout.specs.declared.kept.KeptLayout.{KeptLayout}
use Rattle.kept_layout.specs.declared.lag.Lag.{Lag}
use Rattle.kept_layout.specs.declared.block.Block.{Block}
use Rattle.kept_layout.specs.Blocks.{addresses, lag_of, located, footprints_of}
use Rattle.kept_layout.specs.Kept.{IsLaid}
use Rattle.kept_layout.specs.Moves.{end_of, moved_starts, starts_of, IsMove}
use Rattle.kept_layout.proofs.ShrinkingStarts.{starts_length}
use Rattle.common_lemmas.proofs.Lists.{get_map, get_front}

-- ---- by what is noted ----

pub lag_before : (l : Lag) (n : ℕ) → n < l.border → n < l.from → lag_of l n ≡ 0
lag_before l n h m = elim (cases_Bool (nat_le l.from n)) [
  | inl t ↦ absurd (let low = leb-true l.from n t in omega arith)
  | inr f ↦ rw (lt-ltb n l.border h, f) refl
]

pub lag_gap : (l : Lag) (n : ℕ) → n < l.border → l.from ≤ n → n < l.until → lag_of l n ≡ l.gap
lag_gap l n h m o = rw (lt-ltb n l.border h, le-leb l.from n m, lt-ltb n l.until o) refl

pub lag_behind : (l : Lag) (n : ℕ) → l.border ≤ n → lag_of l n ≡ l.shift
lag_behind l n h = elim (cases_Bool (nat_lt n l.border)) [
  | inl t ↦ absurd (let low = ltb-true n l.border t in omega arith)
  | inr f ↦ rw f refl
]

address_from : (l : Lag) (first : ℕ) (ss : List Block) (n : ℕ) (s : Block) → slice_get ss n ≡ Some s → slice_get (addresses l first ss) n ≡ Some (located l (first + n) s.at)
address_from l first [] n s e = absurd (cc)
address_from l first (t ∷ ss) zero s e = let same : t ≡ s = cc in ap (λ (x : Block). Some (located l first x.at)) same ∙ ap (λ n. Some (located l n s.at)) (let zero : first ≡ first + 0 = omega arith in zero)
address_from l first (t ∷ ss) (suc n) s e = address_from l (suc first) ss n s e ∙ ap (λ n. Some (located l n s.at)) (let next : suc first + n ≡ first + suc n = omega arith in next)

pub address_at : (l : Lag) (ss : List Block) (n : ℕ) (s : Block) → slice_get ss n ≡ Some s → slice_get (addresses l 0 ss) n ≡ Some (located l n s.at)
address_at l ss n s e = address_from l 0 ss n s e ∙ ap (λ n. Some (located l n s.at)) (let same : 0 + n ≡ n = omega arith in same)

pub addresses_length : (l : Lag) (n : ℕ) (ss : List Block) → length (addresses l n ss) ≡ length ss
addresses_length l n [] = refl
addresses_length l n (s ∷ ss) = ap suc (addresses_length l (suc n) ss)

-- lists of the same elements
lists_same : {A : Type 0} (xs ys : List A) → length xs ≡ length ys → ((n : ℕ) (x : A) → slice_get ys n ≡ Some x → slice_get xs n ≡ Some x) → xs ≡ ys
lists_same [] [] l h = refl
lists_same [] (y ∷ ys) l h = absurd (omega arith)
lists_same (x ∷ xs) [] l h = absurd (omega arith)
lists_same (x ∷ xs) (y ∷ ys) l h =
    let first : x ≡ y = let e = h 0 y refl in cc in
    let rest = lists_same xs ys (omega arith) (λ n z e. h (suc n) z e) in
    ap (λ z. z ∷ xs) first ∙ ap (λ z. y ∷ z) rest

-- a list is that of the addresses, if it agrees with what is noted for each block
pub addresses_are : (lag : Lag) (ss : List Block) (xs : List ℕ) → length xs ≡ length ss → ((n : ℕ) (s : Block) → slice_get ss n ≡ Some s → slice_get xs n ≡ Some (located lag n s.at)) → addresses lag 0 ss ≡ xs
addresses_are lag ss xs l h = sym (lists_same xs (addresses lag 0 ss) (l ∙ sym (addresses_length lag 0 ss)) (λ n a e.
    let within = slice_get_within (addresses lag 0 ss) n a e in
    let len = addresses_length lag 0 ss in
    let there = present_at ss n (omega arith) in
    let found = address_at lag ss n there.0 there.1 in
    let same : a ≡ located lag n there.0.at = cc in
    h n there.0 there.1 ∙ ap (λ m. Some m) (sym same)))

-- where a block of a layout lies
pub lies_at : (k : KeptLayout) (n : ℕ) (s : Block) → IsLaid k → slice_get k.blocks.items n ≡ Some s → slice_get (starts_of k) n ≡ Some (located k.lag n s.at)
lies_at k n s l e = subst (λ xs. slice_get xs n ≡ Some (located k.lag n s.at)) l.starts (address_at k.lag k.blocks.items n s e)

-- ---- after a move ----

pub footprints_length : (ss : List Block) → length (footprints_of ss) ≡ length ss
footprints_length [] = refl
footprints_length (s ∷ ss) = ap suc (footprints_length ss)

pub count_of : (k : KeptLayout) → length (starts_of k) ≡ length k.blocks.items
count_of k = starts_length k.base (footprints_of k.blocks.items) ∙ footprints_length k.blocks.items

-- the blocks up to the current one stay
pub moved_before : (k : KeptLayout) (new : List ℕ) (by j : ℕ) → IsMove k new by → j ≤ k.here → slice_get (moved_starts k new by) j ≡ slice_get (starts_of k) j
moved_before k new by j m h =
    let count = count_of k in
    let within = m.within in
    let first = take_all (suc k.here) (starts_of k) (omega arith) in
    get_front (take (suc k.here) (starts_of k)) (new ++ map (λ a. a - by) (drop (end_of k new) (starts_of k))) j (omega arith) ∙ get_take (suc k.here) (starts_of k) j (omega arith)

-- the blocks after it begin at the new addresses
pub moved_among : (k : KeptLayout) (new : List ℕ) (by j : ℕ) → IsMove k new by → k.here < j → j < end_of k new → slice_get (moved_starts k new by) j ≡ slice_get new (j - suc k.here)
moved_among k new by j m h l =
    let count = count_of k in
    let within = m.within in
    let first = take_all (suc k.here) (starts_of k) (omega arith) in
    get_back (take (suc k.here) (starts_of k)) (new ++ map (λ a. a - by) (drop (end_of k new) (starts_of k))) (j - suc k.here) j (omega arith) ∙ get_front new (map (λ a. a - by) (drop (end_of k new) (starts_of k))) (j - suc k.here) (omega arith)

-- the blocks after these lie `by` bytes earlier
pub moved_behind : (k : KeptLayout) (new : List ℕ) (by j a : ℕ) → IsMove k new by → end_of k new ≤ j → slice_get (starts_of k) j ≡ Some a → slice_get (moved_starts k new by) j ≡ Some (a - by)
moved_behind k new by j a m h e =
    let count = count_of k in
    let within = m.within in
    let first = take_all (suc k.here) (starts_of k) (omega arith) in
    let rest : List ℕ = drop (end_of k new) (starts_of k) in
    let there : slice_get rest (j - end_of k new) ≡ Some a = get_drop (end_of k new) (starts_of k) (j - end_of k new) j (omega arith) ∙ e in
    get_back (take (suc k.here) (starts_of k)) (new ++ map (λ a. a - by) rest) (j - suc k.here) j (omega arith)
    ∙ get_back new (map (λ a. a - by) rest) (j - end_of k new) (j - suc k.here) (omega arith)
    ∙ get_map (λ a. a - by) rest (j - end_of k new) a there

pub address_is : (k : KeptLayout) (n a : ℕ) → IsLaid k → n < length k.blocks.items → ((s : Block) → slice_get k.blocks.items n ≡ Some s → a ≡ located k.lag n s.at) → slice_get (starts_of k) n ≡ Some a
address_is k n a l h f =
    let there = present_at k.blocks.items n h in
    lies_at k n there.0 l there.1 ∙ ap (λ m. Some m) (sym (f there.0 there.1))
