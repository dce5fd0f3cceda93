-- Which items may be live after a window where a rule is used on it.
use Rattle.std.proofs.Common.{◌≡◌, ℕ, ◌<◌, ◌&&◌, ◌||◌, true, false, List, map, ap, ◌⊎◌, inl, inr, ltb-true, lt-ltb}
use Rattle.std.specs.Prelude.{not, nat_lt}
use Rattle.std.proofs.lemmas.Bool.{and_parts, and_from, or_cases, or_right, not-true}
use Rattle.thumb_instr.specs.Window.{Low, item_under}
use Rattle.thumb_model.specs.Effect.{one_of}
use Rattle.window_rewrite.specs.Fitting.{is_allowed}

abbrev pub Allowed : List ℕ → List Low → ℕ → Type 0
Allowed mask registers x = (one_of x (map (item_under registers) mask) ≡ true) ⊎ ((x < 15) × (one_of x (map (λ r. r.number) registers) ≡ false))

pub allowed_true : (mask : List ℕ) (registers : List Low) (x : ℕ) → is_allowed mask registers x ≡ true → Allowed mask registers x
allowed_true mask registers x h = elim (or_cases (one_of x (map (item_under registers) mask)) (nat_lt x 15 && not (one_of x (map (λ r. r.number) registers))) h) [
  | inl m ↦ inl m
  | inr o ↦ (let b = and_parts (nat_lt x 15) (not (one_of x (map (λ r. r.number) registers))) o in inr (ltb-true x 15 b.0, not-true _ b.1))
]

pub true_allowed : (mask : List ℕ) (registers : List Low) (x : ℕ) → Allowed mask registers x → is_allowed mask registers x ≡ true
true_allowed mask registers x (inl m) = ap (λ t. t || (nat_lt x 15 && not (one_of x (map (λ r. r.number) registers)))) m
true_allowed mask registers x (inr o) = or_right (one_of x (map (item_under registers) mask)) _ (and_from (nat_lt x 15) (not (one_of x (map (λ r. r.number) registers))) (lt-ltb x 15 o.0) (ap not o.1))
