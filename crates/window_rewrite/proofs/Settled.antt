-- Whether labels stay code where a window gives way, decided by what stands at its place and behind it.
use Rattle.std.proofs.Common.{◌≡◌, ℕ, ◌+◌, ◌-◌, ◌<◌, ◌≤◌, true, false, List, [], ◌∷◌, ◌++◌, length, take, drop, map, Some, refl, sym, ap, ◌∙◌, ◌⊎◌, inl, inr, arith}
use Rattle.std.specs.Prelude.{slice_get}
use Rattle.std.proofs.lemmas.Bool.{cases_lt, cases_Bool}
use Rattle.thumb_instr.specs.declared.instr.Instr.{Instr}
use Rattle.thumb_model.specs.Listing.{Place, plain, Label, is_op_place}
use Rattle.thumb_model.specs.Replaced.{moved}
use Rattle.window_rewrite.specs.Settled.{IsSettled}
use Rattle.thumb_model.proofs.Lists.{get_drop, get_take, get_back, length_map, take_all}
use Rattle.common_lemmas.proofs.Lists.{get_front}

-- what is left of the instructions' places where `count` of them from place p on give way
abbrev pub left_places : ℕ → ℕ → List Instr → List Place → List Place
left_places p count is places = take p places ++ (map plain is ++ drop (p + count) places)

-- ---- places of what is left ----

pub before_window : (p count : ℕ) (is : List Instr) (places : List Place) (q : ℕ) → p ≤ length places → q < p → slice_get (left_places p count is places) q ≡ slice_get places q
before_window p count is places q within h =
    let n : length (take p places) ≡ p = take_all p places within in
    get_front (take p places) (map plain is ++ drop (p + count) places) q (omega arith) ∙ get_take p places q h

pub in_window : (p count : ℕ) (is : List Instr) (places : List Place) (j q : ℕ) → p ≤ length places → j < length is → q ≡ p + j → slice_get (left_places p count is places) q ≡ slice_get (map plain is) j
in_window p count is places j q within h e =
    let n : length (take p places) ≡ p = take_all p places within in
    let m : length (map plain is) ≡ length is = length_map plain is in
    get_back (take p places) (map plain is ++ drop (p + count) places) j q (omega arith) ∙ get_front (map plain is) (drop (p + count) places) j (omega arith)

pub behind_window : (p count : ℕ) (is : List Instr) (places : List Place) (q r : ℕ) → p ≤ length places → p + count ≤ q → r + count ≡ q + length is → slice_get (left_places p count is places) r ≡ slice_get places q
behind_window p count is places q r within h e =
    let n : length (take p places) ≡ p = take_all p places within in
    let m : length (map plain is) ≡ length is = length_map plain is in
    get_back (take p places) (map plain is ++ drop (p + count) places) (length is + (q - (p + count))) r (omega arith)
    ∙ get_back (map plain is) (drop (p + count) places) (q - (p + count)) (length is + (q - (p + count))) (omega arith)
    ∙ get_drop (p + count) places (q - (p + count)) q (omega arith)

-- ---- the look ----

-- labels stay code
abbrev pub AreCodeStill : List Place → List Label → ℕ → ℕ → List Instr → Type 0
AreCodeStill places labels p count is =
    (k : ℕ) (l : Label) → slice_get labels k ≡ Some l → is_op_place (slice_get places l.place) ≡ true → is_op_place (slice_get (left_places p count is places) (moved p (count - length is) l.place)) ≡ true

-- what is asked of the window: it is among the places, begins with an instruction, no more instructions come, and no label stands within
pub record IsGap (places : List Place) (labels : List Label) (p count : ℕ) (is : List Instr) : Type 0 where
  pub within : p + count ≤ length places
  pub some : 0 < count
  pub no_longer : length is ≤ count
  pub first : is_op_place (slice_get places p) ≡ true
  pub unlabelled : (k : ℕ) (l : Label) → slice_get labels k ≡ Some l → (l.place ≤ p) ⊎ (p + count ≤ l.place)

pub first_plain : (is : List Instr) → 0 < length is → is_op_place (slice_get (map plain is) 0) ≡ true
first_plain [] h = absurd (omega arith)
first_plain (i ∷ is) h = refl

pub settled_stay : (places : List Place) (labels : List Label) (p count : ℕ) (is : List Instr) → IsGap places labels p count is → IsSettled places labels p count is → AreCodeStill places labels p count is
settled_stay places labels p count is g s k l e h =
    let within = g.within in
    let some = g.some in
    let no_longer = g.no_longer in
    elim (cases_lt l.place p) [
      | inl a ↦ (
          let same : moved p (count - length is) l.place ≡ l.place = omega arith in
          ap (λ q. is_op_place (slice_get (left_places p count is places) q)) same ∙ ap is_op_place (before_window p count is places l.place (omega arith) a) ∙ h
          )
      | inr b ↦ elim (cases_lt p l.place) [
        | inl c ↦ (
            let far : p + count ≤ l.place = elim (g.unlabelled k l e) [ inl n ↦ absurd (omega arith) | inr n ↦ n ] in
            let at : moved p (count - length is) l.place + count ≡ l.place + length is = omega arith in
            ap is_op_place (behind_window p count is places l.place (moved p (count - length is) l.place) (omega arith) far at) ∙ h
            )
        | inr c ↦ (
            let here : l.place ≡ p = omega arith in
            let same : moved p (count - length is) l.place ≡ p = omega arith in
            ap (λ q. is_op_place (slice_get (left_places p count is places) q)) same ∙ at_gap here s
            )
      ]
    ]
  where
    at_gap : l.place ≡ p → IsSettled places labels p count is → is_op_place (slice_get (left_places p count is places) p) ≡ true
    at_gap here (inl n) = let within = g.within in ap is_op_place (in_window p count is places 0 p (omega arith) n (omega arith)) ∙ first_plain is n
    at_gap here (inr (inr n)) = absurd (n k l e here)
    at_gap here (inr (inl n)) =
        let within = g.within in
        elim (cases_lt 0 (length is)) [
          | inl m ↦ ap is_op_place (in_window p count is places 0 p (omega arith) m (omega arith)) ∙ first_plain is m
          | inr m ↦ ap is_op_place (behind_window p count is places (p + count) p (omega arith) (omega arith) (omega arith)) ∙ n
        ]

pub stay_settled : (places : List Place) (labels : List Label) (p count : ℕ) (is : List Instr) → IsGap places labels p count is → AreCodeStill places labels p count is → IsSettled places labels p count is
stay_settled places labels p count is g s =
    elim (cases_lt 0 (length is)) [
      | inl n ↦ inl n
      | inr n ↦ inr (elim (cases_Bool (is_op_place (slice_get places (p + count)))) [
        | inl t ↦ inl t
        | inr f ↦ inr (λ k l e here.
            let within = g.within in
            let old : is_op_place (slice_get places l.place) ≡ true = ap (λ q. is_op_place (slice_get places q)) here ∙ g.first in
            let same : moved p (count - length is) l.place ≡ p = omega arith in
            let new : is_op_place (slice_get (left_places p count is places) p) ≡ true = ap (λ q. is_op_place (slice_get (left_places p count is places) q)) (sym same) ∙ s k l e old in
            let bad : true ≡ false = sym new ∙ ap is_op_place (behind_window p count is places (p + count) p (omega arith) (omega arith) (omega arith)) ∙ f in
            absurd (cc))
      ])
    ]
