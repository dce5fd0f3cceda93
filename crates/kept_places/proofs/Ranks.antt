-- Marks that are read and set, and ranks.
use Rattle.std.proofs.Common.{◌≡◌, ◌≢◌, ◌↔◌, ℕ, zero, suc, ◌+◌, ◌-◌, ◌<◌, ◌≤◌, Bool, true, false, List, [], ◌∷◌, length, take, replicate, get_or, cond, refl, sym, ap, ◌∙◌, ◌⊎◌, inl, inr, arith}
use Rattle.std.specs.Prelude.{slice_set}
use Rattle.std.specs.List.{count_by}
use Rattle.std.proofs.lemmas.Bool.{cases_lt}
use Rattle.std.proofs.lemmas.List.Sums.{sum_by-cons}
use Rattle.kept_places.specs.Marks.{marked, is_gone, rank, IsStart}

-- ---- marks ----

pub marked_within : (ms : List Bool) (p : ℕ) → marked ms p ≡ true → p < length ms
marked_within [] p h = absurd (cc)
marked_within (m ∷ ms) zero h = omega arith
marked_within (m ∷ ms) (suc p) h = let r = marked_within ms p h in omega arith

pub marked_past : (ms : List Bool) (p : ℕ) → length ms ≤ p → marked ms p ≡ false
marked_past [] p h = refl
marked_past (m ∷ ms) zero h = absurd (omega arith)
marked_past (m ∷ ms) (suc p) h = marked_past ms p (omega arith)

pub marked_at : (ms : List Bool) (p : ℕ) (d : Bool) → p < length ms → marked ms p ≡ get_or ms p d
marked_at [] p d h = absurd (omega arith)
marked_at (m ∷ ms) zero d h = refl
marked_at (m ∷ ms) (suc p) d h = marked_at ms p d (omega arith)

pub marked_set : (ms : List Bool) (p : ℕ) (b : Bool) → p < length ms → marked (slice_set ms p b) p ≡ b
marked_set [] p b h = absurd (omega arith)
marked_set (m ∷ ms) zero b h = refl
marked_set (m ∷ ms) (suc p) b h = marked_set ms p b (omega arith)

pub marked_other : (ms : List Bool) (p q : ℕ) (b : Bool) → q ≢ p → marked (slice_set ms p b) q ≡ marked ms q
marked_other [] p q b d = refl
marked_other (m ∷ ms) zero zero b d = absurd (d refl)
marked_other (m ∷ ms) zero (suc q) b d = refl
marked_other (m ∷ ms) (suc p) zero b d = refl
marked_other (m ∷ ms) (suc p) (suc q) b d = marked_other ms p q b (λ e. d (ap suc e))

pub marked_replicate : (n p : ℕ) (b : Bool) → p < n → marked (replicate n b) p ≡ b
marked_replicate zero p b h = absurd (omega arith)
marked_replicate (suc n) zero b h = refl
marked_replicate (suc n) (suc p) b h = marked_replicate n p b (omega arith)

pub unmarked : (n p : ℕ) → marked (replicate n false) p ≡ false
unmarked zero p = refl
unmarked (suc n) zero = refl
unmarked (suc n) (suc p) = unmarked n p

-- ---- ranks ----

pub rank_zero : (gone : List Bool) → rank gone 0 ≡ 0
rank_zero [] = refl
rank_zero (g ∷ gs) = refl

-- the place after one that is gone has the same rank
pub rank_gone : (gone : List Bool) (p : ℕ) → is_gone gone p ≡ true → rank gone (suc p) ≡ rank gone p
rank_gone [] p e = absurd (cc)
rank_gone (true ∷ gs) zero e = rank_zero gs
rank_gone (false ∷ gs) zero e = absurd (cc)
rank_gone (true ∷ gs) (suc p) e = rank_gone gs p e
rank_gone (false ∷ gs) (suc p) e = ap suc (rank_gone gs p e)

-- the place after a kept one has the next rank
pub rank_kept : (gone : List Bool) (p : ℕ) → is_gone gone p ≡ false → rank gone (suc p) ≡ suc (rank gone p)
rank_kept [] p e = refl
rank_kept (true ∷ gs) zero e = absurd (cc)
rank_kept (false ∷ gs) zero e = ap suc (rank_zero gs)
rank_kept (true ∷ gs) (suc p) e = rank_kept gs p e
rank_kept (false ∷ gs) (suc p) e = ap suc (rank_kept gs p e)

pub rank_count : (gone : List Bool) (p : ℕ) → rank gone p + count_by (λ g. g) (take p gone) ≡ p
rank_count [] zero = refl
rank_count [] (suc p) = omega arith
rank_count (g ∷ gs) zero = refl
rank_count (true ∷ gs) (suc p) =
    let c : count_by (λ g. g) (take (suc p) (true ∷ gs)) ≡ 1 + count_by (λ g. g) (take p gs) = sum_by-cons (λ g. cond g 1 0) true (take p gs) in
    let r = rank_count gs p in
    omega arith
rank_count (false ∷ gs) (suc p) =
    let c : count_by (λ g. g) (take (suc p) (false ∷ gs)) ≡ 0 + count_by (λ g. g) (take p gs) = sum_by-cons (λ g. cond g 1 0) false (take p gs) in
    let r = rank_count gs p in
    omega arith

pub rank_whole : (n p : ℕ) → rank (replicate n false) p ≡ p
rank_whole zero p = refl
rank_whole (suc n) zero = refl
rank_whole (suc n) (suc p) = ap suc (rank_whole n p)

-- ---- order ----

pub ranks_ascend : (gone : List Bool) (p q : ℕ) → is_gone gone p ≡ false → p < q → rank gone p < rank gone q
ranks_ascend [] p q g h = h
ranks_ascend (b ∷ gs) p zero g h = absurd (omega arith)
ranks_ascend (true ∷ gs) zero (suc q) g h = absurd (cc)
ranks_ascend (false ∷ gs) zero (suc q) g h = omega arith
ranks_ascend (true ∷ gs) (suc p) (suc q) g h = ranks_ascend gs p q g (omega arith)
ranks_ascend (false ∷ gs) (suc p) (suc q) g h = let r = ranks_ascend gs p q g (omega arith) in omega arith

pub ranks_grow : (gone : List Bool) (p q : ℕ) → p ≤ q → rank gone p ≤ rank gone q
ranks_grow [] p q h = h
ranks_grow (b ∷ gs) zero q h = omega arith
ranks_grow (b ∷ gs) (suc p) zero h = absurd (omega arith)
ranks_grow (true ∷ gs) (suc p) (suc q) h = ranks_grow gs p q (omega arith)
ranks_grow (false ∷ gs) (suc p) (suc q) h = let r = ranks_grow gs p q (omega arith) in omega arith

pub outside_by_rank : (gone : List Bool) (p q m : ℕ) → is_gone gone p ≡ false → is_gone gone q ≡ false → ((rank gone m ≤ rank gone p) ⊎ (rank gone q < rank gone m)) ↔ ((m ≤ p) ⊎ (q < m))
outside_by_rank gone p q m g h = (forth, back)
  where
    forth : (rank gone m ≤ rank gone p) ⊎ (rank gone q < rank gone m) → (m ≤ p) ⊎ (q < m)
    forth (inl a) = elim (cases_lt p m) [ inl l ↦ absurd (let r = ranks_ascend gone p m g l in omega arith) | inr l ↦ inl l ]
    forth (inr a) = elim (cases_lt q m) [ inl l ↦ inr l | inr l ↦ absurd (let r = ranks_grow gone m q l in omega arith) ]

    back : (m ≤ p) ⊎ (q < m) → (rank gone m ≤ rank gone p) ⊎ (rank gone q < rank gone m)
    back (inl a) = inl (ranks_grow gone m p a)
    back (inr a) = inr (ranks_ascend gone q m h a)

-- ---- a place goes ----

-- up to it ranks stay
pub rank_set_before : (gone : List Bool) (p q : ℕ) → q ≤ p → rank (slice_set gone p true) q ≡ rank gone q
rank_set_before [] p q h = refl
rank_set_before (g ∷ gs) p zero h = rank_zero (slice_set (g ∷ gs) p true)
rank_set_before (g ∷ gs) zero (suc q) h = absurd (omega arith)
rank_set_before (true ∷ gs) (suc p) (suc q) h = rank_set_before gs p q (omega arith)
rank_set_before (false ∷ gs) (suc p) (suc q) h = ap suc (rank_set_before gs p q (omega arith))

-- after it they are one less
pub rank_set_behind : (gone : List Bool) (p q : ℕ) → p < length gone → is_gone gone p ≡ false → p < q → suc (rank (slice_set gone p true) q) ≡ rank gone q
rank_set_behind [] p q l e h = absurd (omega arith)
rank_set_behind (g ∷ gs) p zero l e h = absurd (omega arith)
rank_set_behind (true ∷ gs) zero (suc q) l e h = absurd (cc)
rank_set_behind (false ∷ gs) zero (suc q) l e h = refl
rank_set_behind (true ∷ gs) (suc p) (suc q) l e h = rank_set_behind gs p q (omega arith) e (omega arith)
rank_set_behind (false ∷ gs) (suc p) (suc q) l e h = ap suc (rank_set_behind gs p q (omega arith) e (omega arith))

-- ---- the kept place before ----

-- places between which all are gone have one rank
pub rank_between : (gone : List Bool) (n s : ℕ) → ((k : ℕ) → s ≤ k → k < s + n → is_gone gone k ≡ true) → rank gone (s + n) ≡ rank gone s
rank_between gone zero s h = ap (rank gone) (let z : s + 0 ≡ s = omega arith in z)
rank_between gone (suc n) s h = ap (rank gone) (let z : s + suc n ≡ suc (s + n) = omega arith in z) ∙ rank_gone gone (s + n) (h (s + n) (omega arith) (omega arith)) ∙ rank_between gone n s (λ k a b. h k a (omega arith))

rank_start : (gone : List Bool) (q s : ℕ) → IsStart gone q s → rank gone q ≡ rank gone s
rank_start gone q s h =
    let up = h.up_to in
    let all : s + (q - s) ≡ q = omega arith in
    ap (rank gone) (sym all) ∙ rank_between gone (q - s) s (λ k a b. h.between k a (omega arith))

pub first_kept : (gone : List Bool) (q s : ℕ) → IsStart gone q s → s ≡ 0 → rank gone q ≡ 0
first_kept gone q s h e = rank_start gone q s h ∙ ap (rank gone) e ∙ rank_zero gone

pub kept_before : (gone : List Bool) (q s p : ℕ) → IsStart gone q s → p + 1 ≡ s → (p < q) × (is_gone gone p ≡ false) × (suc (rank gone p) ≡ rank gone q)
kept_before gone q s p h e =
    let up = h.up_to in
    let kept = h.first p e in
    (omega arith, kept, sym (rank_kept gone p kept) ∙ ap (rank gone) (let z : suc p ≡ s = omega arith in z) ∙ sym (rank_start gone q s h))
