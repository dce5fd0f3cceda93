-- What follows from the guarantee of a step, for the laws.
use Rattle.std.proofs.Common.{◌≡◌, ℕ, Bool, true}
use Rattle.cnf_gates.specs.declared.bit.Bit.{Bit}
use Rattle.cnf_gates.specs.Gates.{Built}
use Rattle.cnf_gates.specs.Meaning.{bit_value, all_true, IsNoGate}
use Rattle.cnf_gates.specs.Growth.{Ready, IsExact, Gives}
use Rattle.cnf_gates.proofs.Order.{extended, extended-no_gate, GatesHold-extended}

-- a step's bit has its value wherever the clauses are true
pub value_by_clauses : (low n : ℕ) (b : Built) (step : Built → Built × Bit) (f : (ℕ → Bool) → Bool) → Ready low b → Gives n b step f → (m : ℕ → Bool) → all_true m (step b).0.clauses ≡ true → bit_value m (step b).1 ≡ f m
value_by_clauses low n b step f h g m t = g.value m ((g.grows.ready low h).sound m t)

-- a step that is repeated at once changes nothing
pub again_at_once : (n : ℕ) (b : Built) (step : Built → Built × Bit) (f : (ℕ → Bool) → Bool) → Gives n b step f → step (step b).0 ≡ step b
again_at_once n b step f g = g.again (step b).0 (record { found = λ _ _ e. e })

-- values for the variables of no gate extend to values at which all clauses are true
pub values_extend : (low : ℕ) (b : Built) → Ready low b → IsExact b → (m : ℕ → Bool) → (n : ℕ → Bool) × (all_true n b.clauses ≡ true) × ((v : ℕ) → IsNoGate b.gates v → n v ≡ m v)
values_extend low b h e m = (extended m b.gates, e.exact (extended m b.gates) (GatesHold-extended m low b.variables b.gates h.order), λ v k. extended-no_gate m b.gates v k)
