-- Pushing and taking places preserves the invariant of those that wait.
use Rattle.std.proofs.Common.{◌≡◌, ◌≢◌, ℕ, zero, suc, ◌+◌, ◌<◌, ◌≤◌, ◌||◌, Bool, true, false, List, [], ◌∷◌, ◌++◌, length, length-append, replicate, refl, sym, ap, ◌∙◌, ◌⊎◌, inl, inr, arith, ne_eqb}
use Rattle.std.specs.Prelude.{slice_set}
use Rattle.std.specs.Int.{from_bool}
use Rattle.std.proofs.lemmas.Bool.{cases_eq}
use Rattle.std.proofs.lemmas.List.{length-set, length-replicate}
use Rattle.thumb_instr.specs.Items.{one_of}
use Rattle.thumb_instr.proofs.Listed.{one_of_append}
use Rattle.liveness.specs.declared.waiting.Waiting.{Waiting}
use Rattle.kept_places.specs.Marks.{marked}
use Rattle.liveness.specs.Marked.{count_marked}
use Rattle.liveness.specs.Waiting.{left, AreWaiting, WaitMore, IsTaken}
use Rattle.kept_places.proofs.Ranks.{marked_set, marked_other, marked_within}
use Rattle.liveness.proofs.Paths.{or_left, or_right}
use Rattle.liveness.proofs.Stacks.{count_bound, count_set}
use Rattle.code_flow.proofs.Reaches.{in_both}
pub use Rattle.code_flow.proofs.Reaches.{is_one, one_is}
use Rattle.word_bits.proofs.Words.{from_bool-le}

-- ---- how many are marked ----

count_all : (n : ℕ) → count_marked (replicate n true) ≡ n
unfolding count_marked
count_all zero = refl
count_all (suc n) = let h = count_all n in omega arith

pub all_marked : (n q : ℕ) → q < n → marked (replicate n true) q ≡ true
all_marked zero q h = absurd (omega arith)
all_marked (suc n) zero h = refl
all_marked (suc n) (suc q) h = all_marked n q (omega arith)

-- ---- one place ----

pub not_one : (q p : ℕ) → q ≢ p → one_of q (p ∷ []) ≡ false
not_one q p d = ap (λ b. b || false) (ne_eqb q p d)

-- ---- begin and cease ----

pub all_wait : (w : Waiting) (n : ℕ) → w.fresh ≡ n → w.again.items ≡ [] → w.marks.items ≡ replicate n true → AreWaiting w
all_wait w n f a m = record {
  fresh = omega (arith, f, many);
  again = λ q h. absurd (let t : one_of q w.again.items ≡ false = ap (one_of q) a in cc);
  listed = λ q h. inr (let l = marked_within w.marks.items q h in omega (arith, f, many, l));
  few = omega (arith, f, ap length a, ap count_marked m, count_all n);
}
  where
    many : length w.marks.items ≡ n
    many = ap length m ∙ length-replicate n true

pub pushed : (w w' : Waiting) (p : ℕ) → AreWaiting w → p < length w.marks.items → marked w.marks.items p ≡ false → w'.fresh ≡ w.fresh → w'.again.items ≡ w.again.items ++ p ∷ [] → w'.marks.items ≡ slice_set w.marks.items p true → WaitMore w w'
pushed w w' p a l n f e m = record {
  waiting = record { fresh = omega (arith, many, f, a.fresh); again = again; listed = listed; few = few };
  as_many = many;
  kept = kept;
  no_fewer = omega (arith, f, ap length e, length-append w.again.items (p ∷ []));
}
  where
    many : length w'.marks.items ≡ length w.marks.items
    many = ap length m ∙ length-set w.marks.items p true

    other : (q : ℕ) → q ≢ p → marked w'.marks.items q ≡ marked w.marks.items q
    other q d = ap (λ (ms : List Bool). marked ms q) m ∙ marked_other w.marks.items p q true d

    again : (q : ℕ) → one_of q w'.again.items ≡ true → q < length w'.marks.items
    again q h = elim (in_both q p w.again.items (sym (ap (one_of q) e) ∙ h)) [
      | inl o ↦ let r = a.again q o in omega (arith, r, many)
      | inr s ↦ omega (arith, s, l, many)
    ]

    more : (q : ℕ) → (one_of q w.again.items || one_of q (p ∷ [])) ≡ true → one_of q w'.again.items ≡ true
    more q h = ap (one_of q) e ∙ one_of_append q w.again.items (p ∷ []) ∙ h

    listed : (q : ℕ) → marked w'.marks.items q ≡ true → (one_of q w'.again.items ≡ true) ⊎ (q < w'.fresh)
    listed q h = elim (cases_eq q p) [
      | inl s ↦ inl (more q (or_right (one_of q w.again.items) _ (is_one q p s)))
      | inr d ↦ elim (a.listed q (sym (other q d) ∙ h)) [
        | inl o ↦ inl (more q (or_left _ _ o))
        | inr r ↦ inr (omega (arith, r, f))
      ]
    ]

    few : left w' ≤ count_marked w'.marks.items
    few = omega (arith, a.few, f, ap length e, length-append w.again.items (p ∷ []), ap count_marked m, count_set w.marks.items p true l, ap from_bool n)

    kept : (q : ℕ) → marked w.marks.items q ≡ true → marked w'.marks.items q ≡ true
    kept q h = elim (cases_eq q p) [
      | inl s ↦ absurd (let t : marked w.marks.items q ≡ false = ap (marked w.marks.items) s ∙ n in cc)
      | inr d ↦ other q d ∙ h
    ]

pub taken : (w w' : Waiting) (p : ℕ) → AreWaiting w → p < length w.marks.items → w'.marks.items ≡ slice_set w.marks.items p false → left w' + 1 ≡ left w → w'.fresh ≤ w.fresh
    → ((q : ℕ) → one_of q w'.again.items ≡ true → one_of q w.again.items ≡ true) → ((q : ℕ) → q ≢ p → (one_of q w.again.items ≡ true) ⊎ (q < w.fresh) → (one_of q w'.again.items ≡ true) ⊎ (q < w'.fresh)) → IsTaken p w w'
taken w w' p a l m less f was still = record {
  waiting = record { fresh = omega (arith, many, f, a.fresh); again = again; listed = listed; few = few };
  as_many = many;
  within = l;
  others = other;
  less = less;
}
  where
    many : length w'.marks.items ≡ length w.marks.items
    many = ap length m ∙ length-set w.marks.items p false

    other : (q : ℕ) → q ≢ p → marked w'.marks.items q ≡ marked w.marks.items q
    other q d = ap (λ (ms : List Bool). marked ms q) m ∙ marked_other w.marks.items p q false d

    again : (q : ℕ) → one_of q w'.again.items ≡ true → q < length w'.marks.items
    again q h = let r = a.again q (was q h) in omega (arith, r, many)

    listed : (q : ℕ) → marked w'.marks.items q ≡ true → (one_of q w'.again.items ≡ true) ⊎ (q < w'.fresh)
    listed q h = elim (cases_eq q p) [
      | inl s ↦ absurd (let t : marked w'.marks.items q ≡ false = ap (marked w'.marks.items) s ∙ ap (λ (ms : List Bool). marked ms p) m ∙ marked_set w.marks.items p false l in cc)
      | inr d ↦ still q d (a.listed q (sym (other q d) ∙ h))
    ]

    few : left w' ≤ count_marked w'.marks.items
    few = omega (arith, a.few, less, ap count_marked m, count_set w.marks.items p false l, from_bool-le (marked w.marks.items p))

-- the last of those that wait again
pub last_within : (w : Waiting) (rest : List ℕ) (p : ℕ) → AreWaiting w → w.again.items ≡ rest ++ p ∷ [] → p < length w.marks.items
last_within w rest p a e = a.again p (ap (one_of p) e ∙ one_of_append p rest (p ∷ []) ∙ or_right (one_of p rest) _ (is_one p p refl))

pub last_taken : (w w' : Waiting) (p : ℕ) → AreWaiting w → w.again.items ≡ w'.again.items ++ p ∷ [] → w'.fresh ≡ w.fresh → w'.marks.items ≡ slice_set w.marks.items p false → IsTaken p w w'
last_taken w w' p a e f m =
    taken w w' p a (last_within w w'.again.items p a e) m (omega (arith, f, ap length e, length-append w'.again.items (p ∷ []))) (omega (arith, f)) (λ q h. old q (or_left _ _ h)) still
  where
    old : (q : ℕ) → (one_of q w'.again.items || one_of q (p ∷ [])) ≡ true → one_of q w.again.items ≡ true
    old q h = ap (one_of q) e ∙ one_of_append q w'.again.items (p ∷ []) ∙ h

    still : (q : ℕ) → q ≢ p → (one_of q w.again.items ≡ true) ⊎ (q < w.fresh) → (one_of q w'.again.items ≡ true) ⊎ (q < w'.fresh)
    still q d (inr r) = inr (omega (arith, r, f))
    still q d (inl o) = elim (in_both q p w'.again.items (sym (ap (one_of q) e) ∙ o)) [
      | inl h ↦ inl h
      | inr s ↦ absurd (d s)
    ]

-- the last of those that weren't visited yet
pub fresh_taken : (w w' : Waiting) (p : ℕ) → AreWaiting w → w'.again.items ≡ w.again.items → w.fresh ≡ p + 1 → w'.fresh ≡ p → w'.marks.items ≡ slice_set w.marks.items p false → IsTaken p w w'
fresh_taken w w' p a e f g m =
    taken w w' p a (omega (arith, a.fresh, f)) m (omega (arith, ap length e, f, g)) (omega (arith, f, g)) (λ q h. sym (ap (one_of q) e) ∙ h) still
  where
    still : (q : ℕ) → q ≢ p → (one_of q w.again.items ≡ true) ⊎ (q < w.fresh) → (one_of q w'.again.items ≡ true) ⊎ (q < w'.fresh)
    still q d (inl o) = inl (ap (one_of q) e ∙ o)
    still q d (inr r) = inr (omega (arith, d, r, f, g))

-- ---- more wait ----

pub more_same : (w : Waiting) → AreWaiting w → WaitMore w w
more_same w a = record { waiting = a; as_many = refl; kept = λ q h. h; no_fewer = omega arith }

pub more_on : (w w' w'' : Waiting) → WaitMore w w' → WaitMore w' w'' → WaitMore w w''
more_on w w' w'' a b = record { waiting = b.waiting; as_many = b.as_many ∙ a.as_many; kept = λ q h. b.kept q (a.kept q h); no_fewer = omega (arith, a.no_fewer, b.no_fewer) }

-- never more than there are places
pub few_left : (w : Waiting) → AreWaiting w → left w ≤ length w.marks.items
few_left w a = let h = count_bound w.marks.items in omega (arith, a.few, h)

none_marked : (ms : List Bool) → ((q : ℕ) → marked ms q ≡ false) → count_marked ms ≡ 0
unfolding count_marked
none_marked [] h = refl
none_marked (m ∷ ms) h = let first : from_bool m ≡ 0 = ap from_bool (h 0) in let rest = none_marked ms (λ q. h (suc q)) in omega arith

-- none waits where none is marked
pub none_left : (w : Waiting) → AreWaiting w → ((q : ℕ) → marked w.marks.items q ≡ false) → left w ≡ 0
none_left w a h = let n = none_marked w.marks.items h in omega (arith, a.few, n)
