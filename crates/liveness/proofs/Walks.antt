-- Sets of live items while they shrink.
use Rattle.std.proofs.Common.{◌≡◌, ◌≢◌, ℕ, ◌+◌, ◌<◌, ◌≤◌, ◌==◌, ◌&&◌, ◌||◌, not, Bool, true, false, List, length, Option, if◌then◌else◌, refl, sym, ap, ◌∙◌, subst, inl, inr, arith, eq-eqb}
use Rattle.std.specs.Prelude.{slice_set}
use Rattle.std.proofs.lemmas.Bool.{cases_eq, cases_Bool, or_right}
use Rattle.thumb_instr.specs.declared.items.Items.{Items}
use Rattle.thumb_instr.specs.Items.{one_of, has}
use Rattle.code_flow.specs.declared.way.Ways.{Ways}
use Rattle.liveness.specs.Live.{word_of, set_at}
use Rattle.liveness.specs.Graph.{ways_at}
use Rattle.liveness.specs.Passing.{passes_to, Keeps}
use Rattle.liveness.specs.Passes.{total, weight_below}
use Rattle.liveness.proofs.Weights.{grows, total_set, get_here, get_else}
use Rattle.liveness.specs.declared.counted.PointSets.{PointSets}
use Rattle.liveness.specs.declared.walk.Walk.{Walk}
use Rattle.liveness.specs.Stack.{Stack}
use Rattle.liveness.specs.Walk.{start_at, IsFitWalk, ClearsOn}
use Rattle.listing_parser.proofs.ReplaceLemmas.{and_first as and_left}

-- ---- sets that are put in ----

-- where a touched place gets another set, what the sets were stays
pub put_start : (k k' : Walk) (p : ℕ) (s : Items) → k'.was ≡ k.was → k'.touched ≡ k.touched → k'.before.sets.items ≡ slice_set k.before.sets.items p s → one_of p k.touched.places ≡ true → (q : ℕ) → start_at k' q ≡ start_at k q
put_start k k' p s was touched sets here q = elim (cases_eq q p) [
  | inl e ↦ subst (λ y. start_at k' y ≡ start_at k y) (sym e) (ap (λ b. if b then set_at k'.was.items p else set_at k'.before.sets.items p) (ap (λ (t : Stack). one_of p t.places) touched ∙ here) ∙ ap (λ (v : _). set_at v.items p) was ∙ sym (ap (λ b. if b then set_at k.was.items p else set_at k.before.sets.items p) here))
  | inr d ↦ ap (λ b. if b then set_at k'.was.items q else set_at k'.before.sets.items q) (ap (λ (t : Stack). one_of q t.places) touched) ∙ other d (one_of q k.touched.places)
]
  where
    other : q ≢ p → (b : Bool) → (if b then set_at k'.was.items q else set_at k'.before.sets.items q) ≡ (if b then set_at k.was.items q else set_at k.before.sets.items q)
    other d true = ap (λ (v : _). set_at v.items q) was
    other d false = ap (λ (ss : List Items). set_at ss q) sets ∙ ap word_of (get_else k.before.sets.items p q s d)

-- a set with fewer items weighs less
pub put_less : (ss : List Items) (p : ℕ) (old s : Items) → p < length ss → set_at ss p ≡ old.bits → ((x : ℕ) → has s.bits x ≡ true → has old.bits x ≡ true) → s.bits ≢ old.bits → total (slice_set ss p s) + 1 ≤ total ss
put_less ss p old s l at fewer d =
    let g = grows s.bits old.bits s.is_small old.is_small fewer (λ e. d (sym e)) in
    let t = total_set ss p s l in
    let w : weight_below 19 (set_at ss p) ≡ weight_below 19 old.bits = ap (weight_below 19) at in
    omega arith

-- ---- what stays fit ----

-- what a set is after it was put in
pub put_here : (b b' : List Items) (p : ℕ) (s : Items) → p < length b → b' ≡ slice_set b p s → set_at b' p ≡ s.bits
put_here b b' p s l e = ap (λ (ss : List Items). set_at ss p) e ∙ get_here b p s l

pub put_else : (b b' : List Items) (p : ℕ) (s : Items) → b' ≡ slice_set b p s → (q : ℕ) → q ≢ p → set_at b' q ≡ set_at b q
put_else b b' p s e q d = ap (λ (ss : List Items). set_at ss q) e ∙ ap word_of (get_else b p q s d)

-- ---- one after the other ----

pub clears_same : (k : Walk) → ClearsOn k k
clears_same k = record {
  many = refl;
  fewer = λ p x h. h;
  pushed = λ p x h n. absurd (cc);
  kept = λ p h. h;
  touched = λ p h. h;
  start = λ p. refl;
  less = omega arith;
}

pub clears_on : (a b c : Walk) → ClearsOn a b → ClearsOn b c → ClearsOn a c
clears_on a b c s t = record {
  many = t.many ∙ s.many;
  fewer = λ p x h. s.fewer p x (t.fewer p x h);
  pushed = λ p x h n. elim (cases_Bool (has (set_at b.before.sets.items p) x)) [
    | inl m ↦ t.pushed p x m n
    | inr m ↦ t.kept p (s.pushed p x h m)
  ];
  kept = λ p h. t.kept p (s.kept p h);
  touched = λ p h. t.touched p (s.touched p h);
  start = λ p. t.start p ∙ s.start p;
  less = omega (arith, s.less, t.less);
}

-- ---- items that are cleared at a place ----

and_not : (a b : Bool) → b ≡ true → (a && not b) ≡ false
and_not true true e = refl
and_not false b e = refl
and_not true false e = absurd (cc)

-- k was touched at p, which gives k₁, and then its set was put in, and the place on the stack
module _ (k k₁ k' : Walk) (p : ℕ) (old s lost : Items) (inside : p < length k.before.sets.items) (at : set_at k.before.sets.items p ≡ old.bits) (minus : (x : ℕ) → has s.bits x ≡ (has old.bits x && not (has lost.bits x))) (changed : s.bits ≢ old.bits) (before : k₁.before ≡ k.before)
    (sets₁ : k'.before.sets.items ≡ slice_set k₁.before.sets.items p s) where
  sets : k'.before.sets.items ≡ slice_set k.before.sets.items p s
  sets = sets₁ ∙ ap (λ (t : PointSets). slice_set t.sets.items p s) before

  pub cleared_here : (x : ℕ) → has (set_at k'.before.sets.items p) x ≡ (has (set_at k.before.sets.items p) x && not (has lost.bits x))
  cleared_here x = ap (λ y. has y x) (put_here k.before.sets.items k'.before.sets.items p s inside sets) ∙ minus x ∙ ap (λ y. has y x && not (has lost.bits x)) (sym at)

  pub cleared_told : (x : ℕ) → has lost.bits x ≡ true → has (set_at k'.before.sets.items p) x ≡ false
  cleared_told x h = cleared_here x ∙ and_not (has (set_at k.before.sets.items p) x) (has lost.bits x) h

  pub cleared_else : (q : ℕ) → q ≢ p → set_at k'.before.sets.items q ≡ set_at k.before.sets.items q
  cleared_else q d = put_else k.before.sets.items k'.before.sets.items p s sets q d

  pub cleared_on : length k₁.was.items ≡ length k.was.items → k'.was ≡ k₁.was → k'.touched ≡ k₁.touched → one_of p k₁.touched.places ≡ true → ((q : ℕ) → one_of q k.touched.places ≡ true → one_of q k₁.touched.places ≡ true) → ((q : ℕ) → start_at k₁ q ≡ start_at k q) → k₁.stack ≡ k.stack
      → ((q : ℕ) → one_of q k'.stack.places ≡ (one_of q k₁.stack.places || (q == p))) → length k'.stack.places ≤ length k₁.stack.places + 1 → ClearsOn k k'
  cleared_on many was touched here kept start stack members longer = record {
    many = ap (λ (v : _). length v.items) was ∙ many;
    fewer = fewer;
    pushed = pushed;
    kept = λ q h. members q ∙ ap (λ b. b || (q == p)) (ap (λ (t : Stack). one_of q t.places) stack ∙ h);
    touched = λ q h. ap (λ (t : Stack). one_of q t.places) touched ∙ kept q h;
    start = λ q. put_start k₁ k' p s was touched sets₁ here q ∙ start q;
    less = omega (arith, longer, ap (λ (t : Stack). length t.places) stack, ap total sets, put_less k.before.sets.items p old s inside at (λ x h. and_left (has old.bits x) (not (has lost.bits x)) (sym (minus x) ∙ h)) changed);
  }
    where
      fewer : (q x : ℕ) → has (set_at k'.before.sets.items q) x ≡ true → has (set_at k.before.sets.items q) x ≡ true
      fewer q x h = elim (cases_eq q p) [
        | inl e ↦ ap (λ y. has (set_at k.before.sets.items y) x) e ∙ and_left _ (not (has lost.bits x)) (sym (cleared_here x) ∙ ap (λ y. has (set_at k'.before.sets.items y) x) (sym e) ∙ h)
        | inr d ↦ sym (ap (λ y. has y x) (cleared_else q d)) ∙ h
      ]

      pushed : (q x : ℕ) → has (set_at k.before.sets.items q) x ≡ true → has (set_at k'.before.sets.items q) x ≡ false → one_of q k'.stack.places ≡ true
      pushed q x h n = elim (cases_eq q p) [
        | inl e ↦ members q ∙ or_right (one_of q k₁.stack.places) (q == p) (eq-eqb q p e)
        | inr d ↦ absurd (let t = ap (λ y. has y x) (cleared_else q d) in cc)
      ]

-- a place that is taken from the stack
pub popped_fit : (marks : List Bool) (n : ℕ) (k : Walk) (s : Stack) → IsFitWalk marks n k → s.room ≡ k.stack.room → ((q : ℕ) → one_of q s.places ≡ true → one_of q k.stack.places ≡ true) → IsFitWalk marks n (record { before = k.before; was = k.was; stack = s; touched = k.touched })
popped_fit marks n k s f r m = record {
  enough = f.enough;
  few = f.few;
  counted = f.counted;
  before_many = f.before_many;
  was_many = f.was_many;
  stack_room = r ∙ f.stack_room;
  touched_room = f.touched_room;
  below = f.below;
  stacked = λ q h. f.stacked q (m q h);
}

-- what was cleared before a place was cleared at p, unless that keeps it
abbrev pub ToldOff : List (Option Ways) → List Items → ℕ → Items → Walk → ℕ → Type 0
ToldOff all forward place items k p = (x : ℕ) → has items.bits x ≡ true → passes_to place (ways_at all p) x ≡ true → has (set_at k.before.sets.items p) x ≡ true → Keeps all forward p x
