-- Bits, gates and their clauses. A literal is its code: 2v for the variable v, counted from 0, and 2v + 1 for its negation.
use Rattle.std.specs.Prelude.{◌≡◌, ℕ, suc, ◌+◌, ◌*◌, Bool, true, false, not, ◌&&◌, ◌==◌, nat_lt, if◌then◌else◌, ℤ, List, [], ◌∷◌, ◌++◌, map, filter, Option, Some, None}
use mathlib.Core.Bool.{beq, ◌||◌}
use Rattle.std.specs.Map.{lookup}
use Rattle.clause_model.specs.Clauses.{negated, variable_of, is_negative, number_of}
use Rattle.cnf_gates.specs.Cnf.{Cnf}
use Rattle.cnf_gates.specs.declared.bit.Bit.{Bit}
use Rattle.cnf_gates.specs.declared.bit.Bit.TheVariants.{Constant, Signed}
use Rattle.cnf_gates.specs.declared.bit.Gate.{Gate}
use Rattle.cnf_gates.specs.declared.bit.Gate.TheVariants.{And, Xor, Ite}

-- ---- gates

-- whether two keys are equal
abbrev pub gate_eq : Gate → Gate → Bool
gate_eq (And a b) (And c d) = (a == c) && (b == d)
gate_eq (And a b) (Xor x y) = false
gate_eq (And a b) (Ite c t e) = false
gate_eq (Xor x y) (And a b) = false
gate_eq (Xor x y) (Xor z w) = (x == z) && (y == w)
gate_eq (Xor x y) (Ite c t e) = false
gate_eq (Ite c t e) (And a b) = false
gate_eq (Ite c t e) (Xor x y) = false
gate_eq (Ite c t e) (Ite d u f) = (c == d) && (t == u) && (e == f)

-- the clauses that make the variable g the value of the gate
abbrev pub gate_clauses : Gate → ℕ → List (List ℕ)
gate_clauses (And a b) g =
    ((2 * g + 1) ∷ a ∷ [])
    ∷ ((2 * g + 1) ∷ b ∷ [])
    ∷ ((2 * g) ∷ negated a ∷ negated b ∷ [])
    ∷ []
gate_clauses (Xor x y) g =
    ((2 * g + 1) ∷ (2 * x) ∷ (2 * y) ∷ [])
    ∷ ((2 * g + 1) ∷ (2 * x + 1) ∷ (2 * y + 1) ∷ [])
    ∷ ((2 * g) ∷ (2 * x + 1) ∷ (2 * y) ∷ [])
    ∷ ((2 * g) ∷ (2 * x) ∷ (2 * y + 1) ∷ [])
    ∷ []
gate_clauses (Ite c t e) g =
    ((2 * g + 1) ∷ (2 * c + 1) ∷ t ∷ [])
    ∷ ((2 * g + 1) ∷ (2 * c) ∷ e ∷ [])
    ∷ ((2 * g) ∷ (2 * c + 1) ∷ negated t ∷ [])
    ∷ ((2 * g) ∷ (2 * c) ∷ negated e ∷ [])
    ∷ []

-- as numbers of DIMACS
abbrev pub clauses_of : Gate → ℕ → List (List ℤ)
clauses_of gate g = map (map number_of) (gate_clauses gate g)

-- ---- building

-- what was built: how many variables, the clauses in order, and each gate with its variable, in the order of making
pub record Built : Type 0 where
  pub variables : ℕ
  pub clauses : List (List ℤ)
  pub gates : List (Gate × ℕ)

-- the start
abbrev pub nothing_built : Built
nothing_built = record { variables = 0; clauses = []; gates = [] }

-- the builder with one more gate, and the gate's bit
abbrev pub with_gate : Built → Gate → Built × Bit
with_gate b gate = (
  record {
    variables = suc b.variables;
    clauses = b.clauses ++ clauses_of gate b.variables;
    gates = b.gates ++ (gate, b.variables) ∷ [];
  },
  Signed (2 * b.variables),
)

-- the gate that was found, or a new one
abbrev pub found_or : Option ℕ → Built → Gate → Built × Bit
found_or (Some v) b gate = (b, Signed (2 * v))
found_or None b gate = with_gate b gate

-- the bit of a gate
abbrev pub gate_of : Built → Gate → Built × Bit
gate_of b gate = found_or (lookup (gate_eq gate) b.gates) b gate

-- and(a, b)
abbrev pub and_of : Built → Bit → Bit → Built × Bit
and_of b (Constant false) y = (b, Constant false)
and_of b (Constant true) y = (b, y)
and_of b (Signed x) (Constant false) = (b, Constant false)
and_of b (Signed x) (Constant true) = (b, Signed x)
and_of b (Signed x) (Signed y) =
    if x == y then (b, Signed x)
    else if x == negated y then (b, Constant false)
    else if nat_lt x y then gate_of b (And x y)
    else gate_of b (And y x)

-- not(a)
abbrev pub not_of : Bit → Bit
not_of (Constant c) = Constant (not c)
not_of (Signed x) = Signed (negated x)

-- the bit, or its contrary where `negated`
abbrev pub negated_if : Bool → Bit → Bit
negated_if true x = not_of x
negated_if false x = x

-- a step's result with its bit changed by f
abbrev pub with_bit : (Bit → Bit) → Built × Bit → Built × Bit
with_bit f r = (r.0, f r.1)

-- or(a, b) is not and(not a, not b)
abbrev pub or_of : Built → Bit → Bit → Built × Bit
or_of b x y = with_bit not_of (and_of b (not_of x) (not_of y))

-- whether two signs differ
abbrev pub differ : Bool → Bool → Bool
differ a b = not (beq a b)

-- xor(a, b)
abbrev pub xor_of : Built → Bit → Bit → Built × Bit
xor_of b (Constant c) y = (b, negated_if c y)
xor_of b (Signed x) (Constant c) = (b, negated_if c (Signed x))
xor_of b (Signed x) (Signed y) =
    if variable_of x == variable_of y then (b, Constant (differ (is_negative x) (is_negative y)))
    else if nat_lt (variable_of x) (variable_of y) then with_bit (negated_if (differ (is_negative x) (is_negative y))) (gate_of b (Xor (variable_of x) (variable_of y)))
    else with_bit (negated_if (differ (is_negative x) (is_negative y))) (gate_of b (Xor (variable_of y) (variable_of x)))

-- ite(c, t, e) at a literal c and different t and e
abbrev pub choice_of : Built → ℕ → Bit → Bit → Built × Bit
choice_of b c (Constant true) e = or_of b (Signed c) e
choice_of b c (Constant false) e = and_of b (Signed (negated c)) e
choice_of b c (Signed t) (Constant true) = or_of b (Signed (negated c)) (Signed t)
choice_of b c (Signed t) (Constant false) = and_of b (Signed c) (Signed t)
choice_of b c (Signed t) (Signed e) =
    if t == negated e then xor_of b (Signed c) (Signed e)
    else if is_negative c then gate_of b (Ite (variable_of c) e t)
    else gate_of b (Ite (variable_of c) t e)

-- whether two bits are equal
abbrev pub bit_eq : Bit → Bit → Bool
bit_eq (Constant a) (Constant b) = beq a b
bit_eq (Constant a) (Signed y) = false
bit_eq (Signed x) (Constant b) = false
bit_eq (Signed x) (Signed y) = x == y

-- ite(c, t, e)
abbrev pub ite_of : Built → Bit → Bit → Bit → Built × Bit
ite_of b (Constant true) t e = (b, t)
ite_of b (Constant false) t e = (b, e)
ite_of b (Signed c) t e = if bit_eq t e then (b, t) else choice_of b c t e

-- a new variable
abbrev pub input_of : Built → Built × Bit
input_of b = (record b { variables = suc b.variables }, Signed (2 * b.variables))

-- the step would make a variable more than a builder may have
abbrev pub IsPast : Built → Built × Bit → Type 0
IsPast b r = (b.variables ≡ 200000) × (r.0.variables ≡ 200001)

-- ---- clauses over bits

-- whether a literal is among others
abbrev pub among : ℕ → List ℕ → Bool
among l [] = false
among l (x ∷ xs) = (x == l) || among l xs

-- the literals of the bits
abbrev pub literals : List Bit → List ℕ
literals [] = []
literals (Constant c ∷ bits) = literals bits
literals (Signed l ∷ bits) = l ∷ literals bits

-- whether True is among the bits, or a contrary pair
abbrev pub has_true : List Bit → Bool
has_true [] = false
has_true (Constant c ∷ bits) = c || has_true bits
has_true (Signed l ∷ bits) = has_true bits

abbrev pub has_pair : List ℕ → Bool
has_pair [] = false
has_pair (l ∷ ls) = among (negated l) ls || has_pair ls

-- such a clause is always true
abbrev pub always_true : List Bit → Bool
always_true bits = has_true bits || has_pair (literals bits)

-- each literal once, in the order of first occurrence
abbrev pub distinct : List ℕ → List ℕ
distinct [] = []
distinct (l ∷ ls) = l ∷ filter (λ k. not (l == k)) (distinct ls)

-- or_clause(bits): the clause that one of the bits is true, unless it always is
abbrev pub or_clause_of : Built → List Bit → Built
or_clause_of b bits = if always_true bits then b else record b { clauses = b.clauses ++ map number_of (distinct (literals bits)) ∷ [] }

-- the formula of what was built
abbrev pub formula_of : Built → Cnf
formula_of b = record { variables = b.variables; clauses = b.clauses }
