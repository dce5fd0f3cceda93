-- Identities of truth values, proved by cases, for the clauses of gates.
use Rattle.std.proofs.Common.{◌≡◌, Bool, true, false, not, ◌&&◌, ◌||◌, cond, refl}
use mathlib.Core.Bool.{beq}
use Rattle.cnf_gates.specs.Gates.{differ}

pub differ_true : (x : Bool) → not x ≡ differ true x
differ_true true = refl
differ_true false = refl

pub differ_false : (x : Bool) → x ≡ differ false x
differ_false true = refl
differ_false false = refl

pub differ_comm : (x y : Bool) → differ x y ≡ differ y x
differ_comm true true = refl
differ_comm true false = refl
differ_comm false true = refl
differ_comm false false = refl

pub or_by_and : (x y : Bool) → not (not x && not y) ≡ (x || y)
or_by_and true true = refl
or_by_and true false = refl
or_by_and false true = refl
or_by_and false false = refl

pub signs_differ : (a b x : Bool) → differ a b ≡ differ (differ a x) (differ b x)
signs_differ true true true = refl
signs_differ true true false = refl
signs_differ true false true = refl
signs_differ true false false = refl
signs_differ false true true = refl
signs_differ false true false = refl
signs_differ false false true = refl
signs_differ false false false = refl

pub signs_out : (a b x y : Bool) → differ (differ a b) (differ x y) ≡ differ (differ a x) (differ b y)
signs_out true true true true = refl
signs_out true true true false = refl
signs_out true true false true = refl
signs_out true true false false = refl
signs_out true false true true = refl
signs_out true false true false = refl
signs_out true false false true = refl
signs_out true false false false = refl
signs_out false true true true = refl
signs_out false true true false = refl
signs_out false true false true = refl
signs_out false true false false = refl
signs_out false false true true = refl
signs_out false false true false = refl
signs_out false false false true = refl
signs_out false false false false = refl

pub if_true : (c e : Bool) → (c || e) ≡ cond c true e
if_true true true = refl
if_true true false = refl
if_true false true = refl
if_true false false = refl

pub if_false : (c e : Bool) → (not c && e) ≡ cond c false e
if_false true true = refl
if_false true false = refl
if_false false true = refl
if_false false false = refl

pub else_true : (c t : Bool) → (not c || t) ≡ cond c t true
else_true true true = refl
else_true true false = refl
else_true false true = refl
else_true false false = refl

pub else_false : (c t : Bool) → (c && t) ≡ cond c t false
else_false true true = refl
else_false true false = refl
else_false false true = refl
else_false false false = refl

pub if_contrary : (c e : Bool) → differ c e ≡ cond c (not e) e
if_contrary true true = refl
if_contrary true false = refl
if_contrary false true = refl
if_contrary false false = refl

pub if_same : (c t : Bool) → t ≡ cond c t t
if_same true true = refl
if_same true false = refl
if_same false true = refl
if_same false false = refl

pub and_comm : (a b : Bool) → (a && b) ≡ (b && a)
and_comm true true = refl
and_comm true false = refl
and_comm false true = refl
and_comm false false = refl

pub and_same : (a : Bool) → a ≡ (a && a)
and_same true = refl
and_same false = refl

pub and_true : (a : Bool) → a ≡ (a && true)
and_true true = refl
and_true false = refl

pub and_false : (a : Bool) → false ≡ (a && false)
and_false true = refl
and_false false = refl

pub and_contrary : (a : Bool) → false ≡ (not a && a)
and_contrary true = refl
and_contrary false = refl

pub if_turned : (c t e : Bool) → cond c e t ≡ cond (not c) t e
if_turned true t e = refl
if_turned false t e = refl

-- the clauses of a gate, by the values of its variable and of what it takes
pub and_clauses : (g a b : Bool) → ((not g || (a || false)) && ((not g || (b || false)) && ((g || (not a || (not b || false))) && true))) ≡ beq g (a && b)
and_clauses true true true = refl
and_clauses true true false = refl
and_clauses true false true = refl
and_clauses true false false = refl
and_clauses false true true = refl
and_clauses false true false = refl
and_clauses false false true = refl
and_clauses false false false = refl

pub xor_clauses : (g x y : Bool) → ((not g || (x || (y || false))) && ((not g || (not x || (not y || false))) && ((g || (not x || (y || false))) && ((g || (x || (not y || false))) && true)))) ≡ beq g (differ x y)
xor_clauses true true true = refl
xor_clauses true true false = refl
xor_clauses true false true = refl
xor_clauses true false false = refl
xor_clauses false true true = refl
xor_clauses false true false = refl
xor_clauses false false true = refl
xor_clauses false false false = refl

pub ite_clauses : (g c t e : Bool) → ((not g || (not c || (t || false))) && ((not g || (c || (e || false))) && ((g || (not c || (not t || false))) && ((g || (c || (not e || false))) && true)))) ≡ beq g (cond c t e)
ite_clauses true true true true = refl
ite_clauses true true true false = refl
ite_clauses true true false true = refl
ite_clauses true true false false = refl
ite_clauses true false true true = refl
ite_clauses true false true false = refl
ite_clauses true false false true = refl
ite_clauses true false false false = refl
ite_clauses false true true true = refl
ite_clauses false true true false = refl
ite_clauses false true false true = refl
ite_clauses false true false false = refl
ite_clauses false false true true = refl
ite_clauses false false true false = refl
ite_clauses false false false true = refl
ite_clauses false false false false = refl

pub or_assoc : (a b c : Bool) → (a || (b || c)) ≡ ((a || b) || c)
or_assoc true b c = refl
or_assoc false b c = refl

pub or_swap : (a b c : Bool) → (a || (b || c)) ≡ (b || (a || c))
or_swap true true c = refl
or_swap true false c = refl
or_swap false b c = refl

pub and_one : (a b : Bool) → (a && (b && true)) ≡ (a && b)
and_one true true = refl
and_one true false = refl
and_one false b = refl
