-- Counts of one kind of item after the other.
use Rattle.std.proofs.Common.{◌≡◌, ◌≢◌, ℕ, ◌+◌, ◌<◌, ◌≤◌, ◌==◌, ◌&&◌, ◌||◌, nat_lt, Bool, false, List, length, get_or, refl, sym, ap, ◌∙◌, subst, inl, inr, arith, eq-eqb, ne_eqb}
use Rattle.std.specs.Prelude.{slice_set}
use Rattle.std.specs.Int.{from_bool}
use Rattle.std.proofs.lemmas.Bool.{cases_eq, cases_lt, lt-ltb, le-ltb}
use Rattle.std.proofs.lemmas.List.{get_or-set_same, get_or-set_other}
use Rattle.thumb_instr.specs.Items.{has}
use Rattle.common_lemmas.proofs.Booleans.{or_false}

pub none_yet : (w : ℕ) (cs : List ℕ) → ((x : ℕ) → has w x ≡ false) → (x : ℕ) → has w x ≡ (nat_lt x 0 && nat_lt 0 (get_or cs x 0))
none_yet w cs n x = n x ∙ sym (ap (λ b. b && nat_lt 0 (get_or cs x 0)) (le-ltb x 0 (omega arith)))

module _ (cs old : List ℕ) (i n : ℕ) (was is : ℕ → Bool) (inside : i < length cs) (new : n + from_bool (was i) ≡ get_or cs i 0 + from_bool (is i)) where
  pub done_more : ((x : ℕ) → x < i → get_or cs x 0 + from_bool (was x) ≡ get_or old x 0 + from_bool (is x)) → ((x : ℕ) → i ≤ x → get_or cs x 0 ≡ get_or old x 0) → (x : ℕ) → x < i + 1 → get_or (slice_set cs i n) x 0 + from_bool (was x) ≡ get_or old x 0 + from_bool (is x)
  done_more done rest x h = elim (cases_eq x i) [
    | inl e ↦ subst (λ y. get_or (slice_set cs i n) y 0 + from_bool (was y) ≡ get_or old y 0 + from_bool (is y)) (sym e) (ap (λ y. y + from_bool (was i)) (get_or-set_same cs i n 0 inside) ∙ new ∙ ap (λ y. y + from_bool (is i)) (rest i (omega arith)))
    | inr d ↦ ap (λ y. y + from_bool (was x)) (get_or-set_other cs i x n 0 d) ∙ done x (omega (arith, h, d))
  ]

  pub rest_more : ((x : ℕ) → i ≤ x → get_or cs x 0 ≡ get_or old x 0) → (x : ℕ) → i + 1 ≤ x → get_or (slice_set cs i n) x 0 ≡ get_or old x 0
  rest_more rest x h = get_or-set_other cs i x n 0 (λ e. omega arith) ∙ rest x (omega arith)

pub points_more : (cs : List ℕ) (i n w w' : ℕ) → i < length cs → ((x : ℕ) → has w x ≡ (nat_lt x i && nat_lt 0 (get_or cs x 0))) → ((x : ℕ) → has w' x ≡ (has w x || ((x == i) && nat_lt 0 n))) → (x : ℕ) → has w' x ≡ (nat_lt x (i + 1) && nat_lt 0 (get_or (slice_set cs i n) x 0))
points_more cs i n w w' inside old new x = elim (cases_eq x i) [
  | inl e ↦ subst (λ y. has w' y ≡ (nat_lt y (i + 1) && nat_lt 0 (get_or (slice_set cs i n) y 0))) (sym e) here
  | inr d ↦
      new x ∙ ap (λ b. has w x || (b && nat_lt 0 n)) (ne_eqb x i d) ∙ or_false (has w x) ∙ old x
      ∙ ap (λ b. b && nat_lt 0 (get_or cs x 0)) (same d) ∙ sym (ap (λ y. nat_lt x (i + 1) && nat_lt 0 y) (get_or-set_other cs i x n 0 d))
]
  where
    here : has w' i ≡ (nat_lt i (i + 1) && nat_lt 0 (get_or (slice_set cs i n) i 0))
    here =
        new i ∙ ap (λ b. b || ((i == i) && nat_lt 0 n)) (old i ∙ ap (λ b. b && nat_lt 0 (get_or cs i 0)) (le-ltb i i (omega arith))) ∙ ap (λ b. b && nat_lt 0 n) (eq-eqb i i refl)
        ∙ sym (ap (λ b. b && nat_lt 0 (get_or (slice_set cs i n) i 0)) (lt-ltb i (i + 1) (omega arith)) ∙ ap (nat_lt 0) (get_or-set_same cs i n 0 inside))

    same : x ≢ i → nat_lt x i ≡ nat_lt x (i + 1)
    same d = elim (cases_lt x i) [
      | inl l ↦ lt-ltb x i l ∙ sym (lt-ltb x (i + 1) (omega arith))
      | inr l ↦ le-ltb x i l ∙ sym (le-ltb x (i + 1) (omega (arith, d)))
    ]
