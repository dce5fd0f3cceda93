-- How many code points have an item.
use Rattle.std.proofs.Common.{◌≡◌, ℕ, zero, suc, ◌+◌, ◌<◌, ◌≤◌, ◌&&◌, nat_lt, Bool, true, false, List, [], ◌∷◌, length, get_or, refl, sym, ap, ◌∙◌, inl, inr, arith}
use Rattle.std.specs.Prelude.{slice_set}
use Rattle.std.specs.Int.{from_bool}
use Rattle.std.proofs.lemmas.Bool.{cases_lt, lt-ltb, le-ltb, ltb-true}
use Rattle.std.proofs.lemmas.Option.{slice_get_read}
use Rattle.thumb_instr.specs.declared.items.Items.{Items}
use Rattle.thumb_instr.specs.Items.{has}
use Rattle.thumb_instr.proofs.Bits.{has_none}
use Rattle.liveness.specs.Live.{word_of, set_at}
use Rattle.kept_places.specs.Marks.{marked}
use Rattle.liveness.specs.declared.counted.PointSets.{PointSets}
use Rattle.liveness.specs.Counted.{points_with, AreCounted}
pub use Rattle.liveness.proofs.Settles.{nothing_at}
use Rattle.liveness.proofs.Paths.{has_zero as has_nothing}
use Rattle.word_bits.proofs.Words.{from_bool-le}

-- one set of a list is changed
pub with_set : (x : ℕ) (ms : List Bool) (ss : List Items) (p : ℕ) (s : Items) → p < length ss → length ss ≤ length ms
    → points_with x ms (slice_set ss p s) + from_bool (marked ms p && has (set_at ss p) x) ≡ points_with x ms ss + from_bool (marked ms p && has s.bits x)
unfolding points_with
with_set x ms [] p s h l = absurd (omega arith)
with_set x [] (t ∷ ss) p s h l = absurd (omega arith)
with_set x (m ∷ ms) (t ∷ ss) zero s h l = omega arith
with_set x (m ∷ ms) (t ∷ ss) (suc p) s h l = let r = with_set x ms ss p s (omega arith) (omega arith) in omega arith

pub points_bound : (x : ℕ) (ms : List Bool) (ss : List Items) → points_with x ms ss ≤ length ss
unfolding points_with
points_bound x [] ss = omega arith
points_bound x (m ∷ ms) [] = omega arith
points_bound x (m ∷ ms) (s ∷ ss) = let r = points_bound x ms ss in let b = from_bool-le (m && has s.bits x) in omega arith

-- a place that lacks the item isn't counted
pub not_all : (x : ℕ) (ms : List Bool) (ss : List Items) (p : ℕ) → p < length ss → has (set_at ss p) x ≡ false → points_with x ms ss + 1 ≤ length ss
unfolding points_with
not_all x ms [] p h n = absurd (omega arith)
not_all x [] (s ∷ ss) p h n = omega arith
not_all x (m ∷ ms) (s ∷ ss) zero h n = let r = points_bound x ms ss in let b = none m (has s.bits x) n in omega arith
  where
    none : (a b : Bool) → b ≡ false → from_bool (a && b) ≡ 0
    none true b e = ap from_bool e
    none false b e = refl
not_all x (m ∷ ms) (s ∷ ss) (suc p) h n = let r = not_all x ms ss p (omega arith) n in let b = from_bool-le (m && has s.bits x) in omega arith

-- a marked place that has the item is counted
pub has_some : (x : ℕ) (ms : List Bool) (ss : List Items) (p : ℕ) → marked ms p ≡ true → has (set_at ss p) x ≡ true → 0 < points_with x ms ss
unfolding points_with
has_some x [] ss p m h = absurd (cc)
has_some x (b ∷ ms) [] p m h = absurd (let z = has_nothing x in cc)
has_some x (b ∷ ms) (s ∷ ss) zero m h = let e : from_bool (b && has s.bits x) ≡ 1 = ap from_bool (ap (λ c. c && has s.bits x) m ∙ h) in omega arith
has_some x (b ∷ ms) (s ∷ ss) (suc p) m h = let r = has_some x ms ss p m h in omega arith

-- and where the count isn't 0, some marked place has the item
pub some_has : (x : ℕ) (ms : List Bool) (ss : List Items) → 0 < points_with x ms ss → (p : ℕ) × (marked ms p ≡ true) × (has (set_at ss p) x ≡ true)
unfolding points_with
some_has x [] ss h = absurd (omega arith)
some_has x (m ∷ ms) [] h = absurd (omega arith)
some_has x (m ∷ ms) (s ∷ ss) h = go (m && has s.bits x) refl (λ l. some_has x ms ss l)
  where
    both : (a b : Bool) → (a && b) ≡ true → (a ≡ true) × (b ≡ true)
    both true true e = (refl, refl)
    both true false e = absurd (cc)
    both false b e = absurd (cc)

    go : (b : Bool) → (m && has s.bits x) ≡ b → (0 < points_with x ms ss → (p : ℕ) × (marked ms p ≡ true) × (has (set_at ss p) x ≡ true)) → (p : ℕ) × (marked (m ∷ ms) p ≡ true) × (has (set_at (s ∷ ss) p) x ≡ true)
    go true e next = let t = both m (has s.bits x) e in (0, t.0, t.1)
    go false e next = let r = next (let f : from_bool (m && has s.bits x) ≡ 0 = ap from_bool e in omega arith) in (suc r.0, r.1, r.2)

pub none_has : (x : ℕ) (ms : List Bool) (ss : List Items) → ((p : ℕ) → has (set_at ss p) x ≡ false) → points_with x ms ss ≡ 0
unfolding points_with
none_has x [] ss h = refl
none_has x (m ∷ ms) [] h = refl
none_has x (m ∷ ms) (s ∷ ss) h = let r = none_has x ms ss (λ p. h (suc p)) in let e : from_bool (m && has s.bits x) ≡ 0 = none m (has s.bits x) (h 0) in omega arith
  where
    none : (a b : Bool) → b ≡ false → from_bool (a && b) ≡ 0
    none true b e = ap from_bool e
    none false b e = refl

-- no set has a 20th item
pub small_sets : (x : ℕ) (ss : List Items) → 19 ≤ x → (p : ℕ) → has (set_at ss p) x ≡ false
small_sets x [] h p = has_nothing x
small_sets x (s ∷ ss) h zero = has_none s.bits x s.is_small h
small_sets x (s ∷ ss) h (suc p) = small_sets x ss h p

-- ---- the set of all code points ----

zero_lt : (n : ℕ) → nat_lt 0 n ≡ true → 0 < n
zero_lt n e = ltb-true 0 n e

lt_zero : (n : ℕ) → 0 < n → nat_lt 0 n ≡ true
lt_zero zero h = absurd (omega arith)
lt_zero (suc n) h = lt-ltb 0 (suc n) h

pub point_has : (marks : List Bool) (s : PointSets) → AreCounted marks s → (p x : ℕ) → marked marks p ≡ true → has (set_at s.sets.items p) x ≡ true → has s.points.bits x ≡ true
point_has marks s c p x m h = c.points x ∙ lt_zero _ (has_some x marks s.sets.items p m h)

pub has_point : (marks : List Bool) (s : PointSets) → AreCounted marks s → (x : ℕ) → has s.points.bits x ≡ true → (p : ℕ) × (marked marks p ≡ true) × (has (set_at s.sets.items p) x ≡ true)
has_point marks s c x h = some_has x marks s.sets.items (zero_lt _ (sym (c.points x) ∙ h))

pub none_counted : (marks : List Bool) (s : PointSets) → length s.counts.items ≡ 19 → ((x : ℕ) → x < 19 → get_or s.counts.items x 0 ≡ 0) → ((x : ℕ) → has s.points.bits x ≡ false) → ((p x : ℕ) → has (set_at s.sets.items p) x ≡ false) → AreCounted marks s
none_counted marks s k c w n = record {
  kinds = k;
  counts = λ x l. c x l ∙ sym (none_has x marks s.sets.items (λ p. n p x));
  points = λ x. w x ∙ sym (ap (nat_lt 0) (none_has x marks s.sets.items (λ p. n p x)));
}

-- ---- one set more ----

-- the set of a place that is no code point
pub plain_put : (marks : List Bool) (s s' : PointSets) (p : ℕ) (new : Items) → AreCounted marks s → p < length s.sets.items → length s.sets.items ≤ length marks → marked marks p ≡ false → s'.sets.items ≡ slice_set s.sets.items p new → s'.counts.items ≡ s.counts.items → s'.points.bits ≡ s.points.bits → AreCounted marks s'
plain_put marks s s' p new c l many m e d w = record {
  kinds = ap length d ∙ c.kinds;
  counts = λ x h. ap (λ (xs : List ℕ). get_or xs x 0) d ∙ c.counts x h ∙ sym (same x);
  points = λ x. ap (λ y. has y x) w ∙ c.points x ∙ sym (ap (nat_lt 0) (same x));
}
  where
    same : (x : ℕ) → points_with x marks s'.sets.items ≡ points_with x marks s.sets.items
    same x =
        let t = with_set x marks s.sets.items p new l many in
        let a : from_bool (marked marks p && has (set_at s.sets.items p) x) ≡ 0 = ap (λ b. from_bool (b && has (set_at s.sets.items p) x)) m in
        let b : from_bool (marked marks p && has new.bits x) ≡ 0 = ap (λ b. from_bool (b && has new.bits x)) m in
        ap (points_with x marks) e ∙ (let f : points_with x marks (slice_set s.sets.items p new) ≡ points_with x marks s.sets.items = omega arith in f)

-- the set of a code point
pub point_put : (marks : List Bool) (s s' : PointSets) (p : ℕ) (new : Items) → AreCounted marks s → p < length s.sets.items → length s.sets.items ≤ length marks → marked marks p ≡ true → s'.sets.items ≡ slice_set s.sets.items p new → length s'.counts.items ≡ 19
    → ((x : ℕ) → x < 19 → get_or s'.counts.items x 0 + from_bool (has (set_at s.sets.items p) x) ≡ get_or s.counts.items x 0 + from_bool (has new.bits x))
    → ((x : ℕ) → has s'.points.bits x ≡ (nat_lt x 19 && nat_lt 0 (get_or s'.counts.items x 0))) → AreCounted marks s'
point_put marks s s' p new c l many m e k d w = record {
  kinds = k;
  counts = counts;
  points = λ x. w x ∙ elim (cases_lt x 19) [
    | inl h ↦ ap (λ b. b && nat_lt 0 (get_or s'.counts.items x 0)) (lt-ltb x 19 h) ∙ ap (nat_lt 0) (counts x h)
    | inr h ↦ ap (λ b. b && nat_lt 0 (get_or s'.counts.items x 0)) (le-ltb x 19 h) ∙ sym (ap (nat_lt 0) (none_has x marks s'.sets.items (small_sets x s'.sets.items h)))
  ];
}
  where
    counts : (x : ℕ) → x < 19 → get_or s'.counts.items x 0 ≡ points_with x marks s'.sets.items
    counts x h =
        let t = with_set x marks s.sets.items p new l many in
        let a : from_bool (marked marks p && has (set_at s.sets.items p) x) ≡ from_bool (has (set_at s.sets.items p) x) = ap (λ b. from_bool (b && has (set_at s.sets.items p) x)) m in
        let b : from_bool (marked marks p && has new.bits x) ≡ from_bool (has new.bits x) = ap (λ b. from_bool (b && has new.bits x)) m in
        let f : get_or s'.counts.items x 0 ≡ points_with x marks (slice_set s.sets.items p new) = omega (arith, t, a, b, d x h, c.counts x h) in
        f ∙ sym (ap (points_with x marks) e)

-- ---- reads ----

pub marked_or : (ms : List Bool) (p : ℕ) → marked ms p ≡ get_or ms p false
marked_or [] p = refl
marked_or (m ∷ ms) zero = refl
marked_or (m ∷ ms) (suc p) = marked_or ms p

pub set_read : (ss : List Items) (p : ℕ) (s : Items) → p < length ss → s ≡ get_or ss p s → set_at ss p ≡ s.bits
set_read ss p s h e = ap word_of (slice_get_read ss _ p s refl h e)
