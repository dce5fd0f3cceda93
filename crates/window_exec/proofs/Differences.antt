-- Eight tests, of r0 to r3 and the flags, find each item of a mask that differs.
use Rattle.std.proofs.Common.{◌≡◌, ℕ, zero, suc, ◌+◌, ◌-◌, ◌<◌, ◌≤◌, ◌↔◌, ◌==◌, ◌&&◌, ◌||◌, not, Bool, true, IsTrue, inl, inr, refl, subst, arith, nat_lt, nat_le, eq-eqb}
use Rattle.std.proofs.lemmas.Bool.{cases_Bool, and_parts, or_cases, or_left, or_right, eqb-true, ltb-true, leb-true}
use Rattle.thumb_instr.specs.Items.{has, is_in_masks}
use Rattle.thumb_model.specs.Effect.{Values}
use Rattle.window_exec.specs.State.{Differ}

-- whether an item is in the mask and differs
abbrev pub differs_at : ℕ → Values → Values → ℕ → Bool
differs_at mask v w x = has mask x && not (v x == w x)

-- one of the eight
abbrev pub differs_anywhere : ℕ → Values → Values → Bool
differs_anywhere mask v w =
    let t = differs_at mask v w in
    t 0 || t 1 || t 2 || t 3 || t 15 || t 16 || t 17 || t 18

-- what follows from each of two tests follows from one of them
pub either : {D : Type 0} (a b : Bool) → (a ≡ true → D) → (b ≡ true → D) → (a || b) ≡ true → D
either a b f g h = elim (or_cases a b h) [ inl l ↦ f l | inr r ↦ g r ]

-- what holds of every item that a mask may have, by cases
pub of_four : (P : ℕ → Type 0) → P 0 → P 1 → P 2 → P 3 → (x : ℕ) → x < 4 → P x
of_four P a b c d zero h = a
of_four P a b c d (suc zero) h = b
of_four P a b c d (suc (suc zero)) h = c
of_four P a b c d (suc (suc (suc zero))) h = d
of_four P a b c d (suc (suc (suc (suc x)))) h = absurd (omega arith)

of_eight : (P : ℕ → Type 0) → P 0 → P 1 → P 2 → P 3 → P 15 → P 16 → P 17 → P 18 → (x : ℕ) → is_in_masks x ≡ true → P x
of_eight P a b c d n z k v x =
    either (nat_lt x 4) (nat_le 15 x && nat_lt x 19)
    (λ low. of_four P a b c d x (ltb-true x 4 low))
    (λ flag.
    let parts = and_parts (nat_le 15 x) (nat_lt x 19) flag in
    let least : 15 ≤ x = leb-true 15 x parts.0 in
    let below : x < 19 = ltb-true x 19 parts.1 in
    let e : 15 + (x - 15) ≡ x = omega arith in
    let few : x - 15 < 4 = omega arith in
    subst P e (of_four (λ y. P (15 + y)) n z k v (x - 15) few))

-- a test that succeeds shows an item that differs
shows : (mask : ℕ) (v w : Values) (x : ℕ) → differs_at mask v w x ≡ true → Differ v w mask
shows mask v w x h =
    let parts = and_parts (has mask x) (not (v x == w x)) h in
    (x, parts.0, λ e. let same : (v x == w x) ≡ true = eq-eqb (v x) (w x) e in absurd (cc))

-- an item that differs makes its test succeed
succeeds : (mask : ℕ) (v w : Values) (x : ℕ) → has mask x ≡ true → (v x ≡ w x → ⊥) → differs_at mask v w x ≡ true
succeeds mask v w x h n = elim (cases_Bool (v x == w x)) [
  | inl same ↦ absurd (n (eqb-true (v x) (w x) same))
  | inr other ↦ rw (h, other) refl
]

pub differs_is : (mask : ℕ) (v w : Values) → ((x : ℕ) → has mask x ≡ true → is_in_masks x ≡ true) → IsTrue (differs_anywhere mask v w) ↔ Differ v w mask
differs_is mask v w in_masks =
    let t : ℕ → Bool = differs_at mask v w in
    let s = shows mask v w in
    let six = t 0 || t 1 || t 2 || t 3 || t 15 || t 16 in (
      either (t 0 || t 1 || t 2 || t 3 || t 15 || t 16 || t 17) (t 18) (either six (t 17) (either (t 0 || t 1 || t 2 || t 3 || t 15) (t 16) (either (t 0 || t 1 || t 2 || t 3) (t 15)
          (either (t 0 || t 1 || t 2) (t 3) (either (t 0 || t 1) (t 2) (either (t 0) (t 1) (s 0) (s 1)) (s 2)) (s 3)) (s 15)) (s 16)) (s 17)) (s 18),
      λ d. of_eight (λ x. t x ≡ true → differs_anywhere mask v w ≡ true)
          (λ h. or_left _ _ (or_left _ _ (or_left _ _ (or_left _ _ (or_left _ _ (or_left _ _ (or_left _ _ h)))))))
          (λ h. or_left _ _ (or_left _ _ (or_left _ _ (or_left _ _ (or_left _ _ (or_left _ _ (or_right _ _ h)))))))
          (λ h. or_left _ _ (or_left _ _ (or_left _ _ (or_left _ _ (or_left _ _ (or_right _ _ h))))))
          (λ h. or_left _ _ (or_left _ _ (or_left _ _ (or_left _ _ (or_right _ _ h)))))
          (λ h. or_left _ _ (or_left _ _ (or_left _ _ (or_right _ _ h))))
          (λ h. or_left _ _ (or_left _ _ (or_right _ _ h)))
          (λ h. or_left _ _ (or_right _ _ h))
          (λ h. or_right _ _ h)
          d.0 (in_masks d.0 d.1) (succeeds mask v w d.0 d.1 d.2),
    )
