-- Steps that build gates, one after another: each only adds to what was built, and the same step taken again later adds nothing and has the same result.
use Rattle.std.proofs.Common.{◌≡◌, ℕ, ◌+◌, ◌≤◌, Bool, List, refl, ap, ◌∙◌}
use Rattle.cnf_gates.specs.declared.bit.Bit.{Bit}
use Rattle.cnf_gates.specs.Gates.{Built}
use Rattle.cnf_gates.specs.Meaning.{bit_value, GatesHold}
use Rattle.cnf_gates.specs.Growth.{BitBelow, AllBelow, Keeps, Grows, Gives}
use Rattle.cnf_gates.proofs.Giving.{Keeps-then, Grows-none, Grows-then, Grows-within}
use Rattle.bit_blast.specs.Exactness.{number_of}
use Rattle.bit_blast.proofs.Extends.{Extends, Extends-none, Extends-then}
use Rattle.std.proofs.Common.{length}

pub record Goes {A : Type 0} (n : ℕ) (b : Built) (step : Built → Built × A) : Type 0 where
  pub grows : Grows n b (step b).0
  pub extends : Extends b (step b).0
  pub again : (c : Built) → Keeps (step b).0 c → step c ≡ (c, (step b).1)

-- a step that builds nothing
pub Goes-none : {A : Type 0} (n : ℕ) (b : Built) (x : A) → Goes n b (λ c. (c, x))
Goes-none n b x = record { grows = Grows-none n b; extends = Extends-none b; again = λ c _. refl }

-- a step that builds one gate
pub Goes-gives : (n : ℕ) (b : Built) (step : Built → Built × Bit) (f : (ℕ → Bool) → Bool) → Gives n b step f → Extends b (step b).0 → Goes n b step
Goes-gives n b step f g e = record { grows = g.grows; extends = e; again = g.again }

pub Goes-within : {A : Type 0} (n k : ℕ) (b : Built) (step : Built → Built × A) → n ≤ k → Goes n b step → Goes k b step
Goes-within n k b step le g = record { grows = Grows-within n k b (step b).0 le g.grows; extends = g.extends; again = g.again }

-- the same step with a function applied to its result
pub Goes-map : {A B : Type 0} (n : ℕ) (b : Built) (h : A → B) (step : Built → Built × A) → Goes n b step → Goes n b (λ c. ((step c).0, h (step c).1))
Goes-map n b h step g = record { grows = g.grows; extends = g.extends; again = λ c k. ap (λ p. (p.0, h p.1)) (g.again c k) }

-- a step and one that takes its result
pub Goes-then : {A B : Type 0} (total n k : ℕ) (b : Built) (first : Built → Built × A) (second : A → Built → Built × B)
    → n + k ≤ total → Goes n b first → Goes k (first b).0 (second (first b).1) → Goes total b (λ c. second (first c).1 (first c).0)
Goes-then total n k b first second le g h = record {
  grows = Grows-within (n + k) total b (second (first b).1 (first b).0).0 le (Grows-then n k b (first b).0 (second (first b).1 (first b).0).0 g.grows h.grows);
  extends = Extends-then b (first b).0 (second (first b).1 (first b).0).0 h.grows.kept g.extends h.extends;
  again = λ c keeps. ap (λ p. second p.1 p.0) (g.again c (Keeps-then (first b).0 (second (first b).1 (first b).0).0 c h.grows.keeps keeps)) ∙ h.again c keeps;
}

-- the properties of a step that gives a bit
pub record BitGives (n : ℕ) (b : Built) (step : Built → Built × Bit) (f : (ℕ → Bool) → Bool) : Type 0 where
  pub goes : Goes n b step
  pub below : BitBelow (step b).0.variables (step b).1
  pub value : (m : ℕ → Bool) → GatesHold m (step b).0.gates → bit_value m (step b).1 ≡ f m

-- the properties of a step that gives a word
pub record WordGives (n : ℕ) (b : Built) (step : Built → Built × List Bit) (wide : ℕ) (f : (ℕ → Bool) → ℕ) : Type 0 where
  pub goes : Goes n b step
  pub below : AllBelow (step b).0.variables (step b).1
  pub length_is : length (step b).1 ≡ wide
  pub value : (m : ℕ → Bool) → GatesHold m (step b).0.gates → number_of m (step b).1 ≡ f m
