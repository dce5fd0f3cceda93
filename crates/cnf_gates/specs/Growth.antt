-- Invariants of builders, and what an operation guarantees: this is what the proofs about formulas rest on.
use Rattle.std.specs.Prelude.{◌≡◌, ℕ, suc, ◌+◌, ◌<◌, ◌≤◌, Bool, true, ◌&&◌, nat_lt, List, [], ◌∷◌, Some}
use Rattle.std.specs.Map.{lookup}
use Rattle.clause_model.specs.Clauses.{variable_of}
use Rattle.cnf_gates.specs.declared.bit.Bit.{Bit}
use Rattle.cnf_gates.specs.declared.bit.Bit.TheVariants.{Constant, Signed}
use Rattle.cnf_gates.specs.declared.bit.Gate.{Gate}
use Rattle.cnf_gates.specs.declared.bit.Gate.TheVariants.{And, Xor, Ite}
use Rattle.cnf_gates.specs.Cnf.{AreClausesOf}
use Rattle.cnf_gates.specs.Gates.{Built, gate_eq}
use Rattle.cnf_gates.specs.Meaning.{all_true, bit_value, GatesHold}

-- a constant, or a literal of one of the first v variables
abbrev pub BitBelow : ℕ → Bit → Type 0
BitBelow v (Constant c) = Unit {0}
BitBelow v (Signed l) = variable_of l < v

-- each of the bits is such
abbrev pub AllBelow : ℕ → List Bit → Type 0
AllBelow v [] = Unit {0}
AllBelow v (x ∷ xs) = BitBelow v x × AllBelow v xs

-- whether each variable that the gate takes is one of the first v
abbrev pub gate_below : ℕ → Gate → Bool
gate_below v (And a b) = nat_lt (variable_of a) v && nat_lt (variable_of b) v
gate_below v (Xor x y) = nat_lt x v && nat_lt y v
gate_below v (Ite c t e) = nat_lt c v && nat_lt (variable_of t) v && nat_lt (variable_of e) v

-- the gates' variables ascend, from low on and below high; each gate takes only variables below its own
abbrev pub InOrder : ℕ → List (Gate × ℕ) → ℕ → Type 0
InOrder low [] high = low ≤ high
InOrder low (e ∷ es) high = (low ≤ e.1) × (gate_below e.1 e.0 ≡ true) × InOrder (suc e.1) es high

-- the invariant of a builder that is given only its own bits: the gates are in order from some low on, the literals are of
-- its variables, and where the clauses are true the gates hold
pub record Ready (low : ℕ) (b : Built) : Type 0 where
  pub order : InOrder low b.gates b.variables
  pub within : AreClausesOf b.variables b.clauses
  pub sound : (m : ℕ → Bool) → all_true m b.clauses ≡ true → GatesHold m b.gates

-- the clauses say no more than the gates: where the gates hold they are true
pub record IsExact (b : Built) : Type 0 where
  pub exact : (m : ℕ → Bool) → GatesHold m b.gates → all_true m b.clauses ≡ true

-- each gate of b is found in c, with the same variable
pub record Keeps (b c : Built) : Type 0 where
  pub found : (k : Gate) (v : ℕ) → lookup (gate_eq k) b.gates ≡ Some v → lookup (gate_eq k) c.gates ≡ Some v

-- c is b with gates added, of at most n new variables
pub record Grows (n : ℕ) (b c : Built) : Type 0 where
  pub ready : (low : ℕ) → Ready low b → Ready low c
  pub exact : IsExact b → IsExact c
  pub more : b.variables ≤ c.variables
  pub most : c.variables ≤ b.variables + n
  pub kept : (m : ℕ → Bool) → GatesHold m c.gates → GatesHold m b.gates
  pub keeps : Keeps b c

-- what a step from b guarantees: it adds to b at most n variables; its bit is one of the builder's, and has the value f m wherever the
-- gates hold; and repeated later it changes nothing and gives the same bit
pub record Gives (n : ℕ) (b : Built) (step : Built → Built × Bit) (f : (ℕ → Bool) → Bool) : Type 0 where
  pub grows : Grows n b (step b).0
  pub below : BitBelow (step b).0.variables (step b).1
  pub value : (m : ℕ → Bool) → GatesHold m (step b).0.gates → bit_value m (step b).1 ≡ f m
  pub again : (c : Built) → Keeps (step b).0 c → step c ≡ (c, (step b).1)
