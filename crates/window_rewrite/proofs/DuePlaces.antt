-- Places that stay, where a window of kept places gives way: which of them are kept, what stands there and their ranks.
use Rattle.std.proofs.Common.{◌≡◌, ℕ, zero, suc, ◌+◌, ◌-◌, ◌<◌, ◌≤◌, Bool, true, false, List, [], ◌∷◌, length, set, take, refl, sym, ap, ◌∙◌, subst, ◌⊎◌, inl, inr, arith, Some}
use Rattle.std.specs.Prelude.{slice_get}
use Rattle.std.proofs.lemmas.Bool.{cases_eq, cases_lt}
use Rattle.std.proofs.lemmas.Option.{slice_get_within}
use Rattle.kept_places.specs.Marks.{is_gone, marked, rank}
use Rattle.kept_places.proofs.Ranks.{marked_other, ranks_ascend, ranks_grow, rank_set_behind}
use Rattle.thumb_instr.specs.declared.instr.Instr.{Instr}
use Rattle.thumb_model.specs.Listing.{Place, plain}
use Rattle.thumb_model.specs.Replaced.{moved}
use Rattle.padded_code.specs.Padding.{nop}
use Rattle.padded_code.specs.Exchange.{marks_after, places_after}
use Rattle.padded_code.specs.Windows.{AreRanked}
use Rattle.padded_code.proofs.Exchanged.{get_other, move_step, move_same, rank_drop}
use Rattle.window_rewrite.proofs.DueMarks.{set_length as length_set}

-- ---- kept places by their ranks ----

-- two kept places of one rank are one
pub same_place : (gone : List Bool) (p q : ℕ) → is_gone gone p ≡ false → is_gone gone q ≡ false → rank gone p ≡ rank gone q → p ≡ q
same_place gone p q g h e = elim (cases_lt p q) [
  | inl l ↦ absurd (let r = ranks_ascend gone p q g l in omega arith)
  | inr l ↦ elim (cases_lt q p) [
    | inl k ↦ absurd (let r = ranks_ascend gone q p h k in omega arith)
    | inr k ↦ omega arith
  ]
]

-- a place of greater rank stands behind
pub behind_by_rank : (gone : List Bool) (p q : ℕ) → rank gone p < rank gone q → p < q
behind_by_rank gone p q h = elim (cases_lt p q) [
  | inl l ↦ l
  | inr l ↦ absurd (let r = ranks_grow gone q p l in omega arith)
]

pub record IsRanked (gone : List Bool) (r p : ℕ) : Type 0 where
  pub within : p < length gone
  pub kept : is_gone gone p ≡ false
  pub here : rank gone p ≡ r

pub ranked_at : (gone : List Bool) (r : ℕ) (ps : List ℕ) → AreRanked gone r ps → (k p : ℕ) → slice_get ps k ≡ Some p → IsRanked gone (r + k) p
ranked_at gone r [] a k p e = absurd (cc)
ranked_at gone r (q ∷ qs) a zero p e =
    let same : q ≡ p = cc in
    record {
      within = subst (λ j. j < length gone) same a.0;
      kept = ap (is_gone gone) (sym same) ∙ a.1;
      here = ap (rank gone) (sym same) ∙ a.2 ∙ omega arith;
    }
ranked_at gone r (q ∷ qs) a (suc k) p e =
    let t = ranked_at gone (suc r) qs a.3 k p e in
    record { within = t.within; kept = t.kept; here = t.here ∙ omega arith }

-- the kept places of ranks from r on are among the window's
pub among : (gone : List Bool) (r : ℕ) (ps : List ℕ) → AreRanked gone r ps → (p : ℕ) → is_gone gone p ≡ false → r ≤ rank gone p → rank gone p < r + length ps → slice_get ps (rank gone p - r) ≡ Some p
among gone r [] a p g l h = absurd (omega arith)
among gone r (q ∷ qs) a p g l h = elim (cases_eq (rank gone p) r) [
  | inl e ↦ (
      let same : q ≡ p = same_place gone q p a.1 g (a.2 ∙ sym e) in
      ap (λ k. slice_get (q ∷ qs) k) (let f : rank gone p - r ≡ 0 = omega arith in f) ∙ ap (λ j. Some j) same
      )
  | inr n ↦ ap (λ k. slice_get (q ∷ qs) k) (let f : rank gone p - r ≡ suc (rank gone p - suc r) = omega (arith, n) in f) ∙ among gone (suc r) qs a.3 p g (omega (arith, n)) (omega arith)
]

pub taken_ranked : (gone : List Bool) (r n : ℕ) (ps : List ℕ) → AreRanked gone r ps → AreRanked gone r (take n ps)
taken_ranked gone r zero [] a = tt
taken_ranked gone r (suc n) [] a = tt
taken_ranked gone r zero (p ∷ ps) a = tt
taken_ranked gone r (suc n) (p ∷ ps) a = (a.0, a.1, a.2, taken_ranked gone (suc r) n ps a.3)

-- ---- a window gives way ----

-- a place that isn't the window's
abbrev pub IsOutside : List ℕ → ℕ → Type 0
IsOutside ps p = (k : ℕ) → slice_get ps k ≡ Some p → ⊥

pub outside : (gone : List Bool) (r : ℕ) (ps : List ℕ) (p : ℕ) → AreRanked gone r ps → (rank gone p < r) ⊎ (r + length ps ≤ rank gone p) → IsOutside ps p
outside gone r ps p a o k e =
    let t = (ranked_at gone r ps a k p e).here in
    let w = slice_get_within ps k p e in
    elim o [ inl h ↦ absurd (omega arith) | inr h ↦ absurd (omega arith) ]

pub marks_stay : (ps : List ℕ) (is : List Instr) (gone : List Bool) (p : ℕ) → IsOutside ps p → is_gone (marks_after ps is gone) p ≡ is_gone gone p
marks_stay [] is gone p o = refl
marks_stay (q ∷ qs) [] gone p o = marks_stay qs [] (set gone q true) p (λ k. o (suc k)) ∙ marked_other gone q p true (λ e. o 0 (ap (λ j. Some j) (sym e)))
marks_stay (q ∷ qs) (i ∷ is) gone p o = marks_stay qs is gone p (λ k. o (suc k))

pub places_stay : (ps : List ℕ) (is : List Instr) (places : List Place) (p : ℕ) → IsOutside ps p → slice_get (places_after ps is places) p ≡ slice_get places p
places_stay [] is places p o = refl
places_stay (q ∷ qs) [] places p o = places_stay qs [] (set places q nop) p (λ k. o (suc k)) ∙ get_other places q p nop (λ e. o 0 (ap (λ j. Some j) (sym e)))
places_stay (q ∷ qs) (i ∷ is) places p o = places_stay qs is (set places q (plain i)) p (λ k. o (suc k)) ∙ get_other places q p (plain i) (λ e. o 0 (ap (λ j. Some j) (sym e)))

was_unmarked : (ms : List Bool) (q p : ℕ) → marked (set ms q true) p ≡ false → marked ms p ≡ false
was_unmarked [] q p h = refl
was_unmarked (m ∷ ms) zero zero h = absurd (true_false h)
  where
    true_false : true ≡ false → ⊥
    true_false e = absurd (cc)
was_unmarked (m ∷ ms) zero (suc p) h = h
was_unmarked (m ∷ ms) (suc q) zero h = h
was_unmarked (m ∷ ms) (suc q) (suc p) h = was_unmarked ms q p h

-- what is kept then was kept before
pub was_kept : (ps : List ℕ) (is : List Instr) (gone : List Bool) (p : ℕ) → is_gone (marks_after ps is gone) p ≡ false → is_gone gone p ≡ false
was_kept [] is gone p h = h
was_kept (q ∷ qs) [] gone p h = was_unmarked gone q p (was_kept qs [] (set gone q true) p h)
was_kept (q ∷ qs) (i ∷ is) gone p h = was_kept qs is gone p h

ranked_drop : (gone : List Bool) (p r s : ℕ) (ps : List ℕ) → p < length gone → is_gone gone p ≡ false → rank gone p ≡ r → r ≤ s → length (set gone p true) ≡ length gone → AreRanked gone (suc s) ps → AreRanked (set gone p true) s ps
ranked_drop gone p r s [] l g e h n a = tt
ranked_drop gone p r s (q ∷ qs) l g e h n a =
    let b = behind_by_rank gone p q (omega (arith, a.2)) in
    let d = rank_set_behind gone p q l g b in (
      omega (arith, n, a.0),
      marked_other gone p q true (λ f. omega arith) ∙ a.1,
      omega (arith, d, a.2),
      ranked_drop gone p r (suc s) qs l g e (omega arith) n a.3,
    )

-- a rank outside the window's moves as the replacement moves it
pub ranks_after : (ps : List ℕ) (is : List Instr) (gone : List Bool) (r q : ℕ) → length is ≤ length ps → AreRanked gone r ps → (rank gone q ≤ r) ⊎ (r + length ps ≤ rank gone q)
    → rank (marks_after ps is gone) q ≡ moved r (length ps - length is) (rank gone q)
ranks_after [] [] gone r q l a o = omega arith
ranks_after [] (i ∷ is) gone r q l a o = absurd (omega arith)
ranks_after (p ∷ ps) [] gone r q l a o =
    let e : rank (set gone p true) q ≡ moved r 1 (rank gone q) = subst (λ j. rank (set gone p true) q ≡ moved j 1 (rank gone q)) a.2 (rank_drop gone p q a.0 a.1) in
    ranks_after ps [] (set gone p true) r q (omega arith) (ranked_drop gone p r r ps a.0 a.1 a.2 (omega arith) (length_set gone p true) a.3)
    (elim o [ inl h ↦ inl (omega arith) | inr h ↦ inr (let h' : r + suc (length ps) ≤ rank gone q = h in omega arith) ])
    ∙ move_step r (length ps - 0) (rank gone q) (rank (set gone p true) q) e
    ∙ ap (λ j. moved r j (rank gone q)) (let f : suc (length ps - 0) ≡ suc (length ps) - 0 = omega arith in f)
ranks_after (p ∷ ps) (i ∷ is) gone r q l a o =
    ranks_after ps is gone (suc r) q (omega arith) a.3
    (elim o [ inl h ↦ inl (omega arith) | inr h ↦ inr (let h' : r + suc (length ps) ≤ rank gone q = h in omega arith) ])
    ∙ move_same r (length ps) (length is) (rank gone q) (elim o [ inl h ↦ inl h | inr h ↦ inr (let h' : r + suc (length ps) ≤ rank gone q = h in omega arith) ])

pub marks_length : (ps : List ℕ) (is : List Instr) (gone : List Bool) → length (marks_after ps is gone) ≡ length gone
marks_length [] is gone = refl
marks_length (p ∷ ps) [] gone = marks_length ps [] (set gone p true) ∙ length_set gone p true
marks_length (p ∷ ps) (i ∷ is) gone = marks_length ps is gone
