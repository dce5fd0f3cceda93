-- Places that lost an item in the end.
use Rattle.std.proofs.Common.{◌≡◌, ◌≢◌, ℕ, zero, suc, ◌<◌, ◌≤◌, ◌==◌, ◌&&◌, not, Bool, true, false, List, [], ◌∷◌, ◌++◌, length, refl, sym, ap, ◌∙◌, subst, ◌⊎◌, inl, inr, arith, ◌↔◌, eq-eqb, eqb-true, ne_eqb}
use Rattle.std.specs.Prelude.{slice_set}
use Rattle.std.proofs.lemmas.Bool.{cases_Bool, cases_lt, or_cases, or_left, or_right, not-true, and_parts, and_from, not_from_false}
use Rattle.std.proofs.lemmas.Nat.Bits.{bit_at-zero, same_from_bits_below}
use Rattle.thumb_instr.specs.declared.items.Items.{Items}
use Rattle.thumb_instr.specs.Items.{one_of, has}
use Rattle.thumb_instr.proofs.Bits.{has_none}
use Rattle.kept_places.specs.Marks.{marked}
use Rattle.kept_places.proofs.Ranks.{marked_set}
use Rattle.liveness.specs.Live.{set_at}
use Rattle.liveness.proofs.Weights.{bit_of}
use Rattle.liveness.specs.KeptLive.{LosesAt}
use Rattle.liveness.proofs.Aheads.{mark_kept, mark_back}
use Rattle.liveness.proofs.Stacks.{one_more}

-- ---- whether a word has an item ----

-- the greatest item below some number, where it has none from there on
some_item : (n w : ℕ) → ((x : ℕ) → n ≤ x → has w x ≡ false) → ((x : ℕ) × (has w x ≡ true)) ⊎ ((x : ℕ) → has w x ≡ false)
some_item zero w above = inr (λ x. above x (omega arith))
some_item (suc n) w above = elim (cases_Bool (has w n)) [
  | inl h ↦ inl (n, h)
  | inr h ↦ some_item n w (λ x l. elim (cases_lt n x) [
    | inl b ↦ above x (omega arith)
    | inr b ↦ ap (has w) (let e : x ≡ n = omega arith in e) ∙ h
  ])
]

-- a word without an item is 0
is_zero : (w : ℕ) → w < 524288 → ((x : ℕ) → has w x ≡ false) → w ≡ 0
is_zero w l none = same_from_bits_below 19 w 0 l (omega arith) (λ x b. elim (bit_of w x) [
  | inl p ↦ p.0 ∙ sym (bit_at-zero x)
  | inr p ↦ absurd (let n = none x in let y = p.1 in cc)
])

pub loses_some : (m : Items) (old new : ℕ) → ((x : ℕ) → has m.bits x ≡ (has old x && not (has new x))) → m.bits ≢ 0 → LosesAt old new
loses_some m old new is some = elim (some_item 19 m.bits (λ x l. has_none m.bits x m.is_small l)) [
  | inl r ↦ let t = and_parts (has old r.0) _ (sym (is r.0) ∙ r.1) in (r.0, t.0, not-true (has new r.0) t.1)
  | inr none ↦ absurd (some (is_zero m.bits m.is_small none))
]

pub some_lost : (m : Items) (old new : ℕ) → ((x : ℕ) → has m.bits x ≡ (has old x && not (has new x))) → LosesAt old new → m.bits ≢ 0
some_lost m old new is r e =
    let t : has m.bits r.0 ≡ true = is r.0 ∙ and_from (has old r.0) _ r.1 (not_from_false (has new r.0) r.2) in
    let f : has m.bits r.0 ≡ false = ap (λ w. has w r.0) e ∙ ap (λ n. n == 1) (bit_at-zero r.0) in
    cc

-- so a test of the word tells whether it has one
module _ (m old new : Items) (was before : List Items) (p : ℕ) (at : set_at was p ≡ old.bits) (now : set_at before p ≡ new.bits) (is : (x : ℕ) → has m.bits x ≡ (has old.bits x && not (has new.bits x))) where
  minus : (x : ℕ) → has m.bits x ≡ (has (set_at was p) x && not (has (set_at before p) x))
  minus x = is x ∙ ap (λ y. has y x && not (has new.bits x)) (sym at) ∙ ap (λ y. has (set_at was p) x && not (has y x)) (sym now)

  pub tells_lost : not (m.bits == 0) ≡ true → LosesAt (set_at was p) (set_at before p)
  tells_lost h = loses_some m (set_at was p) (set_at before p) minus (λ e. absurd (let t : (m.bits == 0) ≡ true = eq-eqb m.bits 0 e in let f = not-true (m.bits == 0) h in cc))

  pub lost_tells : LosesAt (set_at was p) (set_at before p) → not (m.bits == 0) ≡ true
  lost_tells l = not_from_false (m.bits == 0) (ne_eqb m.bits 0 (some_lost m (set_at was p) (set_at before p) minus l))

-- ---- places that are told ----

pub told_one : (ms ms' : List Bool) (place : ℕ) (tells : Bool) → place < length ms → tells ≡ true → ms' ≡ slice_set ms place true → (p : ℕ) → (marked ms' p ≡ true) ↔ ((marked ms p ≡ true) ⊎ ((p ≡ place) × (tells ≡ true)))
told_one ms ms' place tells l t e p = (back, on)
  where
    back : marked ms' p ≡ true → (marked ms p ≡ true) ⊎ ((p ≡ place) × (tells ≡ true))
    back h = elim (mark_back ms place p (ap (λ y. marked y p) (sym e) ∙ h)) [
      | inl m ↦ inl m
      | inr s ↦ inr (s, t)
    ]

    on : (marked ms p ≡ true) ⊎ ((p ≡ place) × (tells ≡ true)) → marked ms' p ≡ true
    on (inl m) = ap (λ y. marked y p) e ∙ mark_kept ms place p l m
    on (inr s) = ap (λ y. marked y p) e ∙ ap (marked (slice_set ms place true)) s.0 ∙ marked_set ms place true l

-- of the touched places, those that are left are still to be looked at
pub record IsTelling (touched rest : List ℕ) (was before : List Items) (ms ms' : List Bool) : Type 0 where
  pub many : length ms' ≡ length ms
  pub members : (p : ℕ) → one_of p rest ≡ true → one_of p touched ≡ true
  pub kept : (p : ℕ) → marked ms p ≡ true → marked ms' p ≡ true
  pub back : (p : ℕ) → marked ms' p ≡ true → (marked ms p ≡ true) ⊎ ((one_of p touched ≡ true) × LosesAt (set_at was p) (set_at before p))
  pub told : (p : ℕ) → one_of p touched ≡ true → LosesAt (set_at was p) (set_at before p) → (one_of p rest ≡ true) ⊎ (marked ms' p ≡ true)

pub none_told : (touched : List ℕ) (was before : List Items) (ms : List Bool) → IsTelling touched touched was before ms ms
none_told touched was before ms = record {
  many = refl;
  members = λ p h. h;
  kept = λ p h. h;
  back = λ p h. inl h;
  told = λ p h l. inl h;
}

pub one_told : (touched rest rest' : List ℕ) (was before : List Items) (ms ms' ms'' : List Bool) (q : ℕ) (tells : Bool) → IsTelling touched rest was before ms ms' → rest ≡ rest' ++ q ∷ [] → length ms'' ≡ length ms' → ((p : ℕ) → (marked ms'' p ≡ true) ↔ ((marked ms' p ≡ true) ⊎ ((p ≡ q) × (tells ≡ true))))
    → (tells ≡ true → LosesAt (set_at was q) (set_at before q)) → (LosesAt (set_at was q) (set_at before q) → tells ≡ true) → IsTelling touched rest' was before ms ms''
one_told touched rest rest' was before ms ms' ms'' q tells t e m told loses lost = record {
  many = m ∙ t.many;
  members = λ p h. t.members p (ap (one_of p) e ∙ one_more p q rest' ∙ or_left (one_of p rest') (p == q) h);
  kept = λ p h. (told p).1 (inl (t.kept p h));
  back = λ p h. back p ((told p).0 h);
  told = λ p h l. on p l (t.told p h l);
}
  where
    last : one_of q touched ≡ true
    last = t.members q (ap (one_of q) e ∙ one_more q q rest' ∙ or_right (one_of q rest') (q == q) (eq-eqb q q refl))

    back : (p : ℕ) → (marked ms' p ≡ true) ⊎ ((p ≡ q) × (tells ≡ true)) → (marked ms p ≡ true) ⊎ ((one_of p touched ≡ true) × LosesAt (set_at was p) (set_at before p))
    back p (inl h) = t.back p h
    back p (inr s) = inr (subst (λ y. (one_of y touched ≡ true) × LosesAt (set_at was y) (set_at before y)) (sym s.0) (last, loses s.1))

    on : (p : ℕ) → LosesAt (set_at was p) (set_at before p) → (one_of p rest ≡ true) ⊎ (marked ms' p ≡ true) → (one_of p rest' ≡ true) ⊎ (marked ms'' p ≡ true)
    on p l (inr h) = inr ((told p).1 (inl h))
    on p l (inl h) = elim (or_cases (one_of p rest') (p == q) (sym (one_more p q rest') ∙ sym (ap (one_of p) e) ∙ h)) [
      | inl o ↦ inl o
      | inr s ↦ let same : p ≡ q = eqb-true p q s in inr ((told p).1 (inr (same, lost (subst (λ y. LosesAt (set_at was y) (set_at before y)) same l))))
    ]

pub all_told : (touched rest : List ℕ) (was before : List Items) (ms ms' : List Bool) → IsTelling touched rest was before ms ms' → rest ≡ [] → (p : ℕ) → (marked ms' p ≡ true) ↔ ((marked ms p ≡ true) ⊎ ((one_of p touched ≡ true) × LosesAt (set_at was p) (set_at before p)))
all_told touched rest was before ms ms' t none p = (t.back p, on)
  where
    on : (marked ms p ≡ true) ⊎ ((one_of p touched ≡ true) × LosesAt (set_at was p) (set_at before p)) → marked ms' p ≡ true
    on (inl h) = t.kept p h
    on (inr r) = elim (t.told p r.0 r.1) [
      | inl o ↦ absurd (let f : one_of p rest ≡ false = ap (one_of p) none in cc)
      | inr m ↦ m
    ]
