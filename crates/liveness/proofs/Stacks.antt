-- Pushing and popping places preserves the invariant of a stack.
use Rattle.std.proofs.Common.{◌≡◌, ◌≢◌, ℕ, zero, suc, ◌+◌, ◌<◌, ◌≤◌, ◌==◌, ◌||◌, Bool, true, false, List, [], ◌∷◌, ◌++◌, length, length-append, replicate, get_or, refl, sym, ap, ◌∙◌, ◌⊎◌, inl, inr, arith, eq-eqb, ne_eqb}
use Rattle.std.specs.Prelude.{slice_set, vec_capacity}
use Rattle.std.specs.Int.{from_bool}
use Rattle.std.proofs.lemmas.Bool.{cases_eq, or_left, or_right, or_parts}
use Rattle.std.proofs.lemmas.List.{length-set}
use Rattle.thumb_instr.specs.Items.{one_of}
use Rattle.thumb_instr.proofs.Listed.{one_of_append}
use Rattle.kept_places.specs.Marks.{marked}
use Rattle.kept_places.proofs.Ranks.{marked_within, marked_set, marked_other, unmarked}
use Rattle.liveness.specs.Marked.{count_marked}
use Rattle.liveness.specs.Stacked.{AreDistinct, AreStacked}
use Rattle.liveness.specs.declared.stack.PlaceStack.TheInside.{Inside}
use Rattle.word_bits.proofs.Words.{from_bool-le}
use Rattle.common_lemmas.proofs.Booleans.{or_false}

-- ---- members ----

pub one_more : (q p : ℕ) (ps : List ℕ) → one_of q (ps ++ p ∷ []) ≡ (one_of q ps || (q == p))
one_more q p ps = one_of_append q ps (p ∷ []) ∙ ap (λ b. one_of q ps || b) (or_false (q == p))

-- a place that is there already changes nothing
pub same_members : (q p : ℕ) (ps : List ℕ) → one_of p ps ≡ true → one_of q ps ≡ (one_of q ps || (q == p))
same_members q p ps h = elim (cases_eq q p) [
  | inl e ↦ let t : one_of q ps ≡ true = ap (λ y. one_of y ps) e ∙ h in t ∙ sym (ap (λ b. b || (q == p)) t)
  | inr d ↦ sym (ap (λ b. one_of q ps || b) (ne_eqb q p d) ∙ or_false (one_of q ps))
]

-- ---- no place twice ----

pub distinct_more : (ps : List ℕ) (p : ℕ) → AreDistinct ps → one_of p ps ≡ false → AreDistinct (ps ++ p ∷ [])
distinct_more [] p d h = (refl, tt)
distinct_more (q ∷ ps) p d h =
    let s = or_parts (p == q) (one_of p ps) h in (
      one_more q p ps ∙ ap (λ b. b || (q == p)) d.0 ∙ apart (cases_eq q p) s.0,
      distinct_more ps p d.1 s.1,
    )
  where
    apart : (q ≡ p) ⊎ (q ≢ p) → (p == q) ≡ false → (q == p) ≡ false
    apart (inl e) n = absurd (let t : (p == q) ≡ true = eq-eqb p q (sym e) in cc)
    apart (inr d) n = ne_eqb q p d

pub distinct_less : (ps : List ℕ) (p : ℕ) → AreDistinct (ps ++ p ∷ []) → AreDistinct ps × (one_of p ps ≡ false)
distinct_less [] p d = (tt, refl)
distinct_less (q ∷ ps) p d =
    let r = distinct_less ps p d.1 in
    let s = or_parts (one_of q ps) (q == p) (sym (one_more q p ps) ∙ d.0) in
    ((s.0, r.0), ap (λ b. b || one_of p ps) (apart (cases_eq p q) s.1) ∙ r.1)
  where
    apart : (p ≡ q) ⊎ (p ≢ q) → (q == p) ≡ false → (p == q) ≡ false
    apart (inl e) n = absurd (let t : (q == p) ≡ true = eq-eqb q p (sym e) in cc)
    apart (inr d) n = ne_eqb p q d

-- ---- how many ----

pub count_set : (ms : List Bool) (p : ℕ) (b : Bool) → p < length ms → count_marked (slice_set ms p b) + from_bool (marked ms p) ≡ count_marked ms + from_bool b
unfolding count_marked
count_set [] p b h = absurd (omega arith)
count_set (m ∷ ms) zero b h = omega arith
count_set (m ∷ ms) (suc p) b h = let r = count_set ms p b (omega arith) in omega arith

pub count_bound : (ms : List Bool) → count_marked ms ≤ length ms
unfolding count_marked
count_bound [] = omega arith
count_bound (m ∷ ms) = let h = count_bound ms in let b = from_bool-le m in omega arith

-- an unmarked place is no member yet, and there is room for it
pub room_left : (s : Inside) (p : ℕ) → AreStacked s → p < length s.marks.items → marked s.marks.items p ≡ false → length s.places.items < vec_capacity s.places
room_left s p a l n =
    let e = count_set s.marks.items p true l in
    let b = count_bound (slice_set s.marks.items p true) in
    omega (arith, a.few, a.room, e, b, ap from_bool n, length-set s.marks.items p true)

-- ---- come, and taken ----

pub come : (s s' : Inside) (p : ℕ) → AreStacked s → p < length s.marks.items → marked s.marks.items p ≡ false → s'.places.items ≡ s.places.items ++ p ∷ [] → s'.marks.items ≡ slice_set s.marks.items p true → vec_capacity s.places ≤ vec_capacity s'.places → AreStacked s'
come s s' p a l n e m r = record {
  room = omega (arith, r, a.room, ap length m, length-set s.marks.items p true);
  marks = marks;
  distinct = rw e (distinct_more s.places.items p a.distinct (sym (a.marks p) ∙ n));
  few = omega (arith, a.few, ap length e, length-append s.places.items (p ∷ []), ap count_marked m, count_set s.marks.items p true l, ap from_bool n);
}
  where
    marks : (q : ℕ) → marked s'.marks.items q ≡ one_of q s'.places.items
    marks q = ap (λ (ms : List Bool). marked ms q) m ∙ elim (cases_eq q p) [
      | inl t ↦ ap (marked (slice_set s.marks.items p true)) t ∙ marked_set s.marks.items p true l ∙ sym (ap (one_of q) e ∙ one_more q p s.places.items ∙ or_right (one_of q s.places.items) _ (eq-eqb q p t))
      | inr d ↦ marked_other s.marks.items p q true d ∙ a.marks q ∙ sym (ap (one_of q) e ∙ one_more q p s.places.items ∙ ap (λ b. one_of q s.places.items || b) (ne_eqb q p d) ∙ or_false (one_of q s.places.items))
    ]

-- the last is a member
pub last_one : (s : Inside) (ps : List ℕ) (p : ℕ) → AreStacked s → s.places.items ≡ ps ++ p ∷ [] → marked s.marks.items p ≡ true
last_one s ps p a e = a.marks p ∙ ap (one_of p) e ∙ one_more p p ps ∙ or_right (one_of p ps) _ (eq-eqb p p refl)

pub last_within : (s : Inside) (ps : List ℕ) (p : ℕ) → AreStacked s → s.places.items ≡ ps ++ p ∷ [] → p < length s.marks.items
last_within s ps p a e = marked_within s.marks.items p (last_one s ps p a e)

pub taken : (s s' : Inside) (p : ℕ) → AreStacked s → s.places.items ≡ s'.places.items ++ p ∷ [] → s'.marks.items ≡ slice_set s.marks.items p false → vec_capacity s'.places ≡ vec_capacity s.places → AreStacked s'
taken s s' p a e m r = record {
  room = omega (arith, r, a.room, ap length m, length-set s.marks.items p false);
  marks = marks;
  distinct = rest.0;
  few = omega (arith, a.few, ap length e, length-append s'.places.items (p ∷ []), ap count_marked m, count_set s.marks.items p false inside, ap from_bool (last_one s s'.places.items p a e));
}
  where
    inside : p < length s.marks.items
    inside = last_within s s'.places.items p a e

    rest : AreDistinct s'.places.items × (one_of p s'.places.items ≡ false)
    rest = distinct_less s'.places.items p (rw (sym e) a.distinct)

    marks : (q : ℕ) → marked s'.marks.items q ≡ one_of q s'.places.items
    marks q = ap (λ (ms : List Bool). marked ms q) m ∙ elim (cases_eq q p) [
      | inl t ↦ ap (marked (slice_set s.marks.items p false)) t ∙ marked_set s.marks.items p false inside ∙ sym (ap (λ y. one_of y s'.places.items) t ∙ rest.1)
      | inr d ↦ marked_other s.marks.items p q false d ∙ a.marks q ∙ ap (one_of q) e ∙ one_more q p s'.places.items ∙ ap (λ b. one_of q s'.places.items || b) (ne_eqb q p d) ∙ or_false (one_of q s'.places.items)
    ]

-- a member is within
pub member_within : (s : Inside) (k : ℕ) → AreStacked s → k < length s.places.items → get_or s.places.items k 0 < length s.marks.items
member_within s k a l = marked_within s.marks.items (get_or s.places.items k 0) (a.marks (get_or s.places.items k 0) ∙ among s.places.items k l)
  where
    among : (xs : List ℕ) (i : ℕ) → i < length xs → one_of (get_or xs i 0) xs ≡ true
    among [] i h = absurd (omega arith)
    among (x ∷ xs) zero h = or_left _ _ (eq-eqb x x refl)
    among (x ∷ xs) (suc i) h = or_right (get_or xs i 0 == x) _ (among xs i (omega arith))

pub never_more : (s : Inside) → AreStacked s → length s.places.items ≤ length s.marks.items
never_more s a = let b = count_bound s.marks.items in omega (arith, a.few, b)

pub none_stacked : (s : Inside) (n : ℕ) → s.places.items ≡ [] → s.marks.items ≡ replicate n false → length s.marks.items ≤ vec_capacity s.places → AreStacked s
none_stacked s n e m r = record {
  room = r;
  marks = λ p. ap (λ (ms : List Bool). marked ms p) m ∙ unmarked n p ∙ sym (ap (one_of p) e);
  distinct = rw e tt;
  few = omega (arith, ap length e);
}
