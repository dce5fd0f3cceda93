-- A simulation of two machines in which the second needs no more steps than the first. Nothing here is about instructions.
use Rattle.std.proofs.Common.{◌≡◌, ℕ, zero, suc, ◌+◌, ◌-◌, ◌<◌, ◌≤◌, refl, sym, ap, ◌∙◌, subst, ◌⊎◌, inl, inr, arith}
use Rattle.std.proofs.lemmas.Bool.{cases_lt}
use Rattle.thumb_model.specs.Steps.{times}

-- m steps and then n are k = m + n steps
pub times_add : {A : Type 0} (f : A → A) (m n k : ℕ) (a : A) → k ≡ m + n → times f k a ≡ times f n (times f m a)
times_add f zero n k a e = ap (λ j. times f j a) (let h : k ≡ n = omega arith in h)
times_add f (suc m) n zero a e = absurd (omega arith)
times_add f (suc m) n (suc k) a e = times_add f m n k (f a) (omega arith)

-- a state that a step leaves as it is stays so for n steps
pub times_still : {A : Type 0} (f : A → A) (n : ℕ) (a : A) → f a ≡ a → times f n a ≡ a
times_still f zero a e = refl
times_still f (suc n) a e = ap (times f n) e ∙ times_still f n a e

module _ (A B : Type 0) (f : A → A) (g : B → B) (Alike : A → B → Type 0) (Related : A → B → Type 0) where
  -- both stand still, or both go on to related states, the second in no more steps, and are alike at each step between
  pub record Advance (a : A) (b : B) : Type 0 where
    pub left : ℕ
    pub right : ℕ
    pub some : 0 < right
    pub no_more : right ≤ left
    pub related : Related (times f left a) (times g right b)
    pub on_left : (k : ℕ) → k < left → Alike (times f k a) b
    pub on_right : (k : ℕ) → k < right → Alike (times f k a) (times g k b)

  module _ (alike : (a : A) (b : B) → Related a b → Alike a b) (advance : (a : A) (b : B) → Related a b → ((f a ≡ a) × (g b ≡ b)) ⊎ Advance a b) where
    -- what the first machine shows after n steps, the second shows after no more
    pub sooner : (fuel n : ℕ) (a : A) (b : B) → n ≤ fuel → Related a b → (m : ℕ) × (m ≤ n) × Alike (times f n a) (times g m b)
    sooner zero n a b l r = (0, omega arith, subst (λ (k : ℕ). Alike (times f k a) b) (let z : 0 ≡ n = omega arith in z) (alike a b r))
    sooner (suc fuel) n a b l r =
        elim (advance a b r) [
          | inl e ↦ (0, omega arith, subst (λ (x : A). Alike x b) (sym (times_still f n a e.0)) (alike a b r))
          | inr v ↦ elim (cases_lt n v.left) [
            | inl h ↦ (0, omega arith, v.on_left n h)
            | inr h ↦
                (let some = v.some in
                let no_more = v.no_more in
                let next = sooner fuel (n - v.left) (times f v.left a) (times g v.right b) (omega arith) v.related in
                let e : times f n a ≡ times f (n - v.left) (times f v.left a) = times_add f v.left (n - v.left) n a (omega arith) in
                let e' : times g (v.right + next.0) b ≡ times g next.0 (times g v.right b) = times_add g v.right next.0 (v.right + next.0) b refl in
                (v.right + next.0, omega (arith, next.1), subst (λ (x : A). Alike x (times g (v.right + next.0) b)) (sym e) (subst (λ (y : B). Alike (times f (n - v.left) (times f v.left a)) y) (sym e') next.2)))
          ]
        ]

    -- what the second machine shows after m steps, the first shows after no fewer
    pub reached : (fuel m : ℕ) (a : A) (b : B) → m ≤ fuel → Related a b → (n : ℕ) × (m ≤ n) × Alike (times f n a) (times g m b)
    reached zero m a b l r = (0, omega arith, subst (λ (k : ℕ). Alike a (times g k b)) (let z : 0 ≡ m = omega arith in z) (alike a b r))
    reached (suc fuel) m a b l r =
        elim (advance a b r) [
          | inl e ↦ (m, omega arith, subst (λ (x : A). Alike x (times g m b)) (sym (times_still f m a e.0)) (subst (λ (y : B). Alike a y) (sym (times_still g m b e.1)) (alike a b r)))
          | inr v ↦ elim (cases_lt m v.right) [
            | inl h ↦ (m, omega arith, v.on_right m h)
            | inr h ↦
                (let some = v.some in
                let no_more = v.no_more in
                let next = reached fuel (m - v.right) (times f v.left a) (times g v.right b) (omega arith) v.related in
                let e : times f (v.left + next.0) a ≡ times f next.0 (times f v.left a) = times_add f v.left next.0 (v.left + next.0) a refl in
                let e' : times g m b ≡ times g (m - v.right) (times g v.right b) = times_add g v.right (m - v.right) m b (omega arith) in
                (v.left + next.0, omega (arith, next.1), subst (λ (x : A). Alike x (times g m b)) (sym e) (subst (λ (y : B). Alike (times f next.0 (times f v.left a)) y) (sym e') next.2)))
          ]
        ]
