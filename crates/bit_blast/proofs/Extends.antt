-- The clauses that a gate adds come after those that are there, and are true wherever the gates hold.
use Rattle.std.proofs.Common.{◌≡◌, ℕ, [], ◌∷◌, Option, Some, None, Bool, true, false, cond, eqb, ltb, sym, ◌∙◌}
use Rattle.std.proofs.lemmas.Bool.{and_parts, and_from}
use Rattle.std.specs.Map.{lookup}
use Rattle.clause_model.specs.Clauses.{negated, variable_of, is_negative}
use Rattle.cnf_gates.specs.declared.bit.Bit.{Bit}
use Rattle.cnf_gates.specs.declared.bit.Bit.TheVariants.{Constant, Signed}
use Rattle.cnf_gates.specs.declared.bit.Gate.{Gate}
use Rattle.cnf_gates.specs.declared.bit.Gate.TheVariants.{And, Xor, Ite}
use Rattle.cnf_gates.specs.Gates.{Built, gate_eq, clauses_of, gate_of, found_or, and_of, or_of, xor_of, choice_of, ite_of, bit_eq, not_of}
use Rattle.cnf_gates.specs.Meaning.{all_true, gate_value, GatesHold}
use Rattle.cnf_gates.proofs.Values.{all_true-append, all_true-clauses_of, beq_same, GatesHold-append}

-- c's clauses are b's and then others, which are true where c's gates hold
pub record Extends (b c : Built) : Type 0 where
  pub forth : (m : ℕ → Bool) → GatesHold m c.gates → all_true m b.clauses ≡ true → all_true m c.clauses ≡ true
  pub back : (m : ℕ → Bool) → all_true m c.clauses ≡ true → all_true m b.clauses ≡ true

pub Extends-none : (b : Built) → Extends b b
Extends-none b = record { forth = λ m _ t. t; back = λ m t. t }

pub Extends-then : (a b c : Built) → ((m : ℕ → Bool) → GatesHold m c.gates → GatesHold m b.gates) → Extends a b → Extends b c → Extends a c
Extends-then a b c kept g h = record { forth = λ m holds t. h.forth m holds (g.forth m (kept m holds) t); back = λ m t. g.back m (h.back m t) }

extends_cond : (b : Built) (t : Bool) (r s : Built × Bit) → Extends b r.0 → Extends b s.0 → Extends b (cond t r s).0
extends_cond b true r s h k = h
extends_cond b false r s h k = k

found_extends : (b : Built) (k : Gate) (o : Option ℕ) → Extends b (found_or o b k).0
found_extends b k (Some v) = Extends-none b
found_extends b k None = record {
  forth = λ m holds t.
      let parts = GatesHold-append m b.gates ((k, b.variables) ∷ []) holds in
      all_true-append m b.clauses (clauses_of k b.variables)
      ∙ and_from (all_true m b.clauses) (all_true m (clauses_of k b.variables)) t (all_true-clauses_of m k b.variables ∙ beq_same (m b.variables) (gate_value m k) parts.1.0);
  back = λ m t. (and_parts (all_true m b.clauses) (all_true m (clauses_of k b.variables)) (sym (all_true-append m b.clauses (clauses_of k b.variables)) ∙ t)).0;
}

gate_extends : (b : Built) (k : Gate) → Extends b (gate_of b k).0
gate_extends b k = found_extends b k (lookup (gate_eq k) b.gates)

pub and_extends : (b : Built) (x y : Bit) → Extends b (and_of b x y).0
and_extends b (Constant false) y = Extends-none b
and_extends b (Constant true) y = Extends-none b
and_extends b (Signed x) (Constant false) = Extends-none b
and_extends b (Signed x) (Constant true) = Extends-none b
and_extends b (Signed x) (Signed y) =
    extends_cond b (eqb x y) _ _ (Extends-none b)
    (extends_cond b (eqb x (negated y)) _ _ (Extends-none b) (extends_cond b (ltb x y) _ _ (gate_extends b (And x y)) (gate_extends b (And y x))))

pub or_extends : (b : Built) (x y : Bit) → Extends b (or_of b x y).0
or_extends b x y = and_extends b (not_of x) (not_of y)

pub xor_extends : (b : Built) (x y : Bit) → Extends b (xor_of b x y).0
xor_extends b (Constant c) y = Extends-none b
xor_extends b (Signed x) (Constant c) = Extends-none b
xor_extends b (Signed x) (Signed y) =
    let v : ℕ = variable_of x in
    let w : ℕ = variable_of y in
    extends_cond b (eqb v w) _ _ (Extends-none b) (extends_cond b (ltb v w) _ _ (gate_extends b (Xor v w)) (gate_extends b (Xor w v)))

choice_extends : (b : Built) (c : ℕ) (t e : Bit) → Extends b (choice_of b c t e).0
choice_extends b c (Constant true) e = or_extends b (Signed c) e
choice_extends b c (Constant false) e = and_extends b (Signed (negated c)) e
choice_extends b c (Signed t) (Constant true) = or_extends b (Signed (negated c)) (Signed t)
choice_extends b c (Signed t) (Constant false) = and_extends b (Signed c) (Signed t)
choice_extends b c (Signed t) (Signed e) =
    extends_cond b (eqb t (negated e)) _ _ (xor_extends b (Signed c) (Signed e))
    (extends_cond b (is_negative c) _ _ (gate_extends b (Ite (variable_of c) e t)) (gate_extends b (Ite (variable_of c) t e)))

pub ite_extends : (b : Built) (c t e : Bit) → Extends b (ite_of b c t e).0
ite_extends b (Constant true) t e = Extends-none b
ite_extends b (Constant false) t e = Extends-none b
ite_extends b (Signed c) t e = extends_cond b (bit_eq t e) _ _ (Extends-none b) (choice_extends b c t e)
