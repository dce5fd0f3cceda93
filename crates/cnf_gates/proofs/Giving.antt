-- Each operation of the builder meets its guarantee (`Gives`).
use Rattle.std.proofs.Common.{◌≡◌, ℕ, suc, ◌+◌, ◌<◌, ◌≤◌, List, [], ◌∷◌, ◌++◌, Option, Some, None, Bool, true, false, not, ◌&&◌, ◌||◌, cond, eqb, ltb, refl, sym, ap, ◌∙◌, arith, ⊎_elim}
use Rattle.std.proofs.lemmas.Bool.{and_from, lt-ltb, eqb-true, cond-true, cond-false, cases_Bool}
use Rattle.std.specs.Map.{lookup}
use Rattle.clause_model.specs.Clauses.{negated, variable_of, is_negative, literal_value}
use Rattle.clause_model.proofs.LiteralLaws.{literal_value-positive, literal_value-negated, literal_value-is_negative, literal_value-not_negative}
use Rattle.cnf_gates.specs.declared.bit.Bit.{Bit}
use Rattle.cnf_gates.specs.declared.bit.Bit.TheVariants.{Constant, Signed}
use Rattle.cnf_gates.specs.declared.bit.Gate.{Gate}
use Rattle.cnf_gates.specs.declared.bit.Gate.TheVariants.{And, Xor, Ite}
use Rattle.cnf_gates.specs.Gates.{Built, gate_eq, gate_of, found_or, and_of, differ, xor_of, or_of, not_of, negated_if, with_bit, choice_of, ite_of, bit_eq, input_of}
use Rattle.cnf_gates.specs.Meaning.{bit_value, gate_value, GatesHold}
use Rattle.cnf_gates.specs.Growth.{gate_below, BitBelow, AllBelow, Ready, IsExact, Keeps, Grows, Gives}
use Rattle.cnf_gates.proofs.Tables.{and_comm, and_same, and_false, and_true, and_contrary, or_by_and, differ_comm, signs_differ, signs_out, if_true, if_false, else_true, else_false, if_contrary, if_same, if_turned}
use Rattle.cnf_gates.proofs.Values.{literal_value-differ, gate_eq_refl, lookup-holds, GatesHold-append, bit_value-not_of, bit_value-negated_if, bit_eq-true}
use Rattle.cnf_gates.proofs.Literals.{negated_below, AreClausesOf-more}
use Rattle.cnf_gates.proofs.Order.{InOrder-lookup, InOrder-more, Ready-push, IsExact-push}

-- ---- growing

pub Keeps-then : (a b c : Built) → Keeps a b → Keeps b c → Keeps a c
Keeps-then a b c h k = record { found = λ q v e. k.found q v (h.found q v e) }

pub Grows-none : (n : ℕ) (b : Built) → Grows n b b
Grows-none n b = record { ready = λ _ h. h; exact = λ h. h; more = omega arith; most = omega arith; kept = λ _ h. h; keeps = record { found = λ _ _ e. e } }

pub Grows-then : (n k : ℕ) (a b c : Built) → Grows n a b → Grows k b c → Grows (n + k) a c
Grows-then n k a b c g h = record {
  ready = λ low r. h.ready low (g.ready low r);
  exact = λ e. h.exact (g.exact e);
  more = (let p = g.more in let q = h.more in omega arith);
  most = (let p = g.most in let q = h.most in omega arith);
  kept = λ m holds. g.kept m (h.kept m holds);
  keeps = Keeps-then a b c g.keeps h.keeps;
}

-- a coarser bound
pub Grows-within : (n k : ℕ) (b c : Built) → n ≤ k → Grows n b c → Grows k b c
Grows-within n k b c le g = record { ready = g.ready; exact = g.exact; more = g.more; most = (let p = g.most in omega arith); kept = g.kept; keeps = g.keeps }

pub BitBelow-more : (v w : ℕ) (x : Bit) → v ≤ w → BitBelow v x → BitBelow w x
BitBelow-more v w (Constant c) h k = tt
BitBelow-more v w (Signed l) h k = omega arith

pub AllBelow-more : (v w : ℕ) (xs : List Bit) → v ≤ w → AllBelow v xs → AllBelow w xs
AllBelow-more v w [] h k = tt
AllBelow-more v w (x ∷ xs) h k = (BitBelow-more v w x h k.0, AllBelow-more v w xs h k.1)

-- a bit of a builder stays one after more was built
pub later : (n : ℕ) (b c : Built) (x : Bit) → Grows n b c → BitBelow b.variables x → BitBelow c.variables x
later n b c x g h = BitBelow-more b.variables c.variables x g.more h

pub all_later : (n : ℕ) (b c : Built) (xs : List Bit) → Grows n b c → AllBelow b.variables xs → AllBelow c.variables xs
all_later n b c xs g h = AllBelow-more b.variables c.variables xs g.more h

-- ---- ways to compose steps

-- a step that makes no gate
pub Gives-none : (n : ℕ) (b : Built) (z : Bit) (f : (ℕ → Bool) → Bool) → BitBelow b.variables z → ((m : ℕ → Bool) → bit_value m z ≡ f m) → Gives n b (λ c. (c, z)) f
Gives-none n b z f h e = record { grows = Grows-none n b; below = h; value = λ m _. e m; again = λ c _. refl }

-- a choice between two steps, by a test
pub Gives-cond : (n : ℕ) (b : Built) (t : Bool) (r s : Built → Built × Bit) (f : (ℕ → Bool) → Bool) → (t ≡ true → Gives n b r f) → (t ≡ false → Gives n b s f) → Gives n b (λ c. cond t (r c) (s c)) f
Gives-cond n b true r s f h k = h refl
Gives-cond n b false r s f h k = k refl

-- the same guarantee for an equal function
pub Gives-at : (n : ℕ) (b : Built) (step : Built → Built × Bit) (f g : (ℕ → Bool) → Bool) → ((m : ℕ → Bool) → f m ≡ g m) → Gives n b step f → Gives n b step g
Gives-at n b step f g e h = record { grows = h.grows; below = h.below; value = λ m holds. h.value m holds ∙ e m; again = h.again }

-- a step whose bit is changed
pub Gives-with_bit : (n : ℕ) (b : Built) (h : Bit → Bit) (g : Bool → Bool) (step : Built → Built × Bit) (f : (ℕ → Bool) → Bool)
    → ((m : ℕ → Bool) (z : Bit) → bit_value m (h z) ≡ g (bit_value m z)) → ((v : ℕ) (z : Bit) → BitBelow v z → BitBelow v (h z)) → Gives n b step f → Gives n b (λ c. with_bit h (step c)) (λ m. g (f m))
Gives-with_bit n b h g step f e below s = record {
  grows = s.grows;
  below = below (step b).0.variables (step b).1 s.below;
  value = λ m holds. e m (step b).1 ∙ ap g (s.value m holds);
  again = λ c k. ap (with_bit h) (s.again c k);
}

-- ---- one gate

-- a gate that is found is still found after another is added
lookup-push : (k q : Gate) (v w : ℕ) (es : List (Gate × ℕ)) → lookup (gate_eq k) es ≡ Some v → lookup (gate_eq k) (es ++ (q, w) ∷ []) ≡ Some v
lookup-push k q v w [] h = cc
lookup-push k q v w (e ∷ es) h =
    ⊎_elim
    (λ (t : gate_eq k e.0 ≡ true). cond-true (gate_eq k e.0) (Some e.1) (lookup (gate_eq k) (es ++ (q, w) ∷ [])) t ∙ sym (cond-true (gate_eq k e.0) (Some e.1) (lookup (gate_eq k) es) t) ∙ h)
    (λ (f : gate_eq k e.0 ≡ false).
    cond-false (gate_eq k e.0) (Some e.1) (lookup (gate_eq k) (es ++ (q, w) ∷ [])) f
    ∙ lookup-push k q v w es (sym (cond-false (gate_eq k e.0) (Some e.1) (lookup (gate_eq k) es) f) ∙ h))
    (cases_Bool (gate_eq k e.0))

-- a new gate is found
lookup-new : (k : Gate) (w : ℕ) (es : List (Gate × ℕ)) → lookup (gate_eq k) es ≡ None → lookup (gate_eq k) (es ++ (k, w) ∷ []) ≡ Some w
lookup-new k w [] h = cond-true (gate_eq k k) (Some w) None (gate_eq_refl k)
lookup-new k w (e ∷ es) h =
    ⊎_elim
    (λ (t : gate_eq k e.0 ≡ true). let both : Some e.1 ≡ None = sym (cond-true (gate_eq k e.0) (Some e.1) (lookup (gate_eq k) es) t) ∙ h in cc)
    (λ (f : gate_eq k e.0 ≡ false).
    cond-false (gate_eq k e.0) (Some e.1) (lookup (gate_eq k) (es ++ (k, w) ∷ [])) f
    ∙ lookup-new k w es (sym (cond-false (gate_eq k e.0) (Some e.1) (lookup (gate_eq k) es) f) ∙ h))
    (cases_Bool (gate_eq k e.0))

-- the guarantee of a step, stated for its result r
record Made (n : ℕ) (b : Built) (r : Built × Bit) (step : Built → Built × Bit) (f : (ℕ → Bool) → Bool) : Type 0 where
  grows : Grows n b r.0
  below : BitBelow r.0.variables r.1
  value : (m : ℕ → Bool) → GatesHold m r.0.gates → bit_value m r.1 ≡ f m
  again : (c : Built) → Keeps r.0 c → step c ≡ (c, r.1)

Made-found_or : (low : ℕ) (b : Built) (k : Gate) (o : Option ℕ) → Ready low b → gate_below b.variables k ≡ true → lookup (gate_eq k) b.gates ≡ o → Made 1 b (found_or o b k) (λ c. gate_of c k) (λ m. gate_value m k)
Made-found_or low b k (Some v) h below found = record {
  grows = Grows-none 1 b;
  below = (let within : v < b.variables = InOrder-lookup low b.variables b.gates k v found h.order in omega arith);
  value = λ m holds. literal_value-positive m v ∙ lookup-holds m b.gates k v found holds;
  again = λ c keeps. ap (λ o. found_or o c k) (keeps.found k v found);
}
Made-found_or low b k None h below found = record {
  grows = record {
    ready = λ l r. Ready-push l b k below r;
    exact = λ e. IsExact-push b k e;
    more = omega arith;
    most = omega arith;
    kept = λ m holds. (GatesHold-append m b.gates ((k, b.variables) ∷ []) holds).0;
    keeps = record { found = λ q v e. lookup-push q k v b.variables b.gates e };
  };
  below = omega arith;
  value = λ m holds. literal_value-positive m b.variables ∙ (GatesHold-append m b.gates ((k, b.variables) ∷ []) holds).1.0;
  again = λ c keeps. ap (λ o. found_or o c k) (keeps.found k b.variables (lookup-new k b.variables b.gates found));
}

gate_gives : (low : ℕ) (b : Built) (k : Gate) → Ready low b → gate_below b.variables k ≡ true → Gives 1 b (λ c. gate_of c k) (λ m. gate_value m k)
gate_gives low b k h below =
    let made = Made-found_or low b k (lookup (gate_eq k) b.gates) h below refl in
    record { grows = made.grows; below = made.below; value = made.value; again = made.again }

-- ---- the operations

two_below : (x y v : ℕ) → x < v → y < v → (ltb x v && ltb y v) ≡ true
two_below x y v h k = and_from (ltb x v) (ltb y v) (lt-ltb x v h) (lt-ltb y v k)

three_below : (x y z v : ℕ) → x < v → y < v → z < v → ((ltb x v && ltb y v) && ltb z v) ≡ true
three_below x y z v h k l = and_from (ltb x v && ltb y v) (ltb z v) (two_below x y v h k) (lt-ltb z v l)

pub BitBelow-not_of : (v : ℕ) (x : Bit) → BitBelow v x → BitBelow v (not_of x)
BitBelow-not_of v (Constant c) h = tt
BitBelow-not_of v (Signed l) h = negated_below v l h

pub BitBelow-negated_if : (v : ℕ) (n : Bool) (x : Bit) → BitBelow v x → BitBelow v (negated_if n x)
BitBelow-negated_if v true x h = BitBelow-not_of v x h
BitBelow-negated_if v false x h = h

pub and_gives : (low : ℕ) (b : Built) (x y : Bit) → Ready low b → BitBelow b.variables x → BitBelow b.variables y → Gives 1 b (λ c. and_of c x y) (λ m. bit_value m x && bit_value m y)
and_gives low b (Constant false) y h p q = Gives-none 1 b (Constant false) (λ m. false) tt (λ m. refl)
and_gives low b (Constant true) y h p q = Gives-none 1 b y (λ m. bit_value m y) q (λ m. refl)
and_gives low b (Signed x) (Constant false) h p q = Gives-none 1 b (Constant false) (λ m. literal_value m x && false) tt (λ m. and_false (literal_value m x))
and_gives low b (Signed x) (Constant true) h p q = Gives-none 1 b (Signed x) (λ m. literal_value m x && true) p (λ m. and_true (literal_value m x))
and_gives low b (Signed x) (Signed y) h p q =
    let f : (ℕ → Bool) → Bool = λ m. literal_value m x && literal_value m y in
    Gives-cond 1 b (eqb x y) _ _ f
    (λ (t : eqb x y ≡ true). Gives-none 1 b (Signed x) f p (λ m. and_same (literal_value m x) ∙ ap (λ l. literal_value m x && literal_value m l) (eqb-true x y t)))
    (λ (_ : _). Gives-cond 1 b (eqb x (negated y)) _ _ f
    (λ (t : eqb x (negated y) ≡ true). Gives-none 1 b (Constant false) f tt
    (λ m. and_contrary (literal_value m y) ∙ ap (λ v. v && literal_value m y) (sym (literal_value-negated m y) ∙ ap (literal_value m) (sym (eqb-true x (negated y) t)))))
    (λ (_ : _). Gives-cond 1 b (ltb x y) _ _ f
    (λ (_ : _). gate_gives low b (And x y) h (two_below (variable_of x) (variable_of y) b.variables p q))
    (λ (_ : _). Gives-at 1 b (λ c. gate_of c (And y x)) (λ m. literal_value m y && literal_value m x) f (λ m. and_comm (literal_value m y) (literal_value m x)) (gate_gives low b (And y x) h (two_below (variable_of y) (variable_of x) b.variables q p)))))

pub or_gives : (low : ℕ) (b : Built) (x y : Bit) → Ready low b → BitBelow b.variables x → BitBelow b.variables y → Gives 1 b (λ c. or_of c x y) (λ m. bit_value m x || bit_value m y)
or_gives low b x y h p q =
    Gives-at 1 b (λ c. or_of c x y) (λ m. not (bit_value m (not_of x) && bit_value m (not_of y))) (λ m. bit_value m x || bit_value m y)
    (λ m. rw (bit_value-not_of m x, bit_value-not_of m y) (or_by_and (bit_value m x) (bit_value m y)))
    (Gives-with_bit 1 b not_of not (λ c. and_of c (not_of x) (not_of y)) (λ m. bit_value m (not_of x) && bit_value m (not_of y)) bit_value-not_of BitBelow-not_of
    (and_gives low b (not_of x) (not_of y) h (BitBelow-not_of b.variables x p) (BitBelow-not_of b.variables y q)))

-- the gate of two variables, negated where the signs differ
xor_gate_gives : (low : ℕ) (b : Built) (d : Bool) (x y : ℕ) → Ready low b → x < b.variables → y < b.variables → Gives 1 b (λ c. with_bit (negated_if d) (gate_of c (Xor x y))) (λ m. differ d (differ (m x) (m y)))
xor_gate_gives low b d x y h p q =
    Gives-with_bit 1 b (negated_if d) (differ d) (λ c. gate_of c (Xor x y)) (λ m. differ (m x) (m y)) (λ m. bit_value-negated_if m d) (λ v. BitBelow-negated_if v d) (gate_gives low b (Xor x y) h (two_below x y b.variables p q))

pub xor_gives : (low : ℕ) (b : Built) (x y : Bit) → Ready low b → BitBelow b.variables x → BitBelow b.variables y → Gives 1 b (λ c. xor_of c x y) (λ m. differ (bit_value m x) (bit_value m y))
xor_gives low b (Constant c) y h p q = Gives-none 1 b (negated_if c y) (λ m. differ c (bit_value m y)) (BitBelow-negated_if b.variables c y q) (λ m. bit_value-negated_if m c y)
xor_gives low b (Signed x) (Constant c) h p q = Gives-none 1 b (negated_if c (Signed x)) (λ m. differ (literal_value m x) c) (BitBelow-negated_if b.variables c (Signed x) p) (λ m. bit_value-negated_if m c (Signed x) ∙ differ_comm c (literal_value m x))
xor_gives low b (Signed x) (Signed y) h p q =
    let v : ℕ = variable_of x in
    let w : ℕ = variable_of y in
    let d : Bool = differ (is_negative x) (is_negative y) in
    let f : (ℕ → Bool) → Bool = λ m. differ (literal_value m x) (literal_value m y) in
    let signs : (m : ℕ → Bool) → differ (differ (is_negative x) (m v)) (differ (is_negative y) (m w)) ≡ f m = λ m. sym (ap (λ z. differ z (literal_value m y)) (literal_value-differ m x) ∙ ap (differ (differ (is_negative x) (m v))) (literal_value-differ m y)) in
    Gives-cond 1 b (eqb v w) _ _ f
    (λ (t : eqb v w ≡ true). Gives-none 1 b (Constant d) f tt (λ m. signs_differ (is_negative x) (is_negative y) (m v) ∙ ap (λ u. differ (differ (is_negative x) (m v)) (differ (is_negative y) (m u))) (eqb-true v w t) ∙ signs m))
    (λ (_ : _). Gives-cond 1 b (ltb v w) _ _ f
    (λ (_ : _). Gives-at 1 b _ (λ m. differ d (differ (m v) (m w))) f (λ m. signs_out (is_negative x) (is_negative y) (m v) (m w) ∙ signs m) (xor_gate_gives low b d v w h p q))
    (λ (_ : _). Gives-at 1 b _ (λ m. differ d (differ (m w) (m v))) f (λ m. ap (differ d) (differ_comm (m w) (m v)) ∙ signs_out (is_negative x) (is_negative y) (m v) (m w) ∙ signs m) (xor_gate_gives low b d w v h q p)))

-- the gate of a choice, with the condition made positive
signed_choice_gives : (low : ℕ) (b : Built) (c t e : ℕ) → Ready low b → variable_of c < b.variables → variable_of t < b.variables → variable_of e < b.variables
    → Gives 1 b (λ d. cond (is_negative c) (gate_of d (Ite (variable_of c) e t)) (gate_of d (Ite (variable_of c) t e))) (λ m. cond (literal_value m c) (literal_value m t) (literal_value m e))
signed_choice_gives low b c t e h p q r =
    let v : ℕ = variable_of c in
    let f : (ℕ → Bool) → Bool = λ m. cond (literal_value m c) (literal_value m t) (literal_value m e) in
    Gives-cond 1 b (is_negative c) _ _ f
    (λ (n : is_negative c ≡ true). Gives-at 1 b (λ d. gate_of d (Ite v e t)) (λ m. cond (m v) (literal_value m e) (literal_value m t)) f
    (λ m. if_turned (m v) (literal_value m t) (literal_value m e) ∙ ap (λ z. cond z (literal_value m t) (literal_value m e)) (sym (literal_value-is_negative m c n)))
    (gate_gives low b (Ite v e t) h (three_below v (variable_of e) (variable_of t) b.variables p r q)))
    (λ (n : is_negative c ≡ false). Gives-at 1 b (λ d. gate_of d (Ite v t e)) (λ m. cond (m v) (literal_value m t) (literal_value m e)) f
    (λ m. ap (λ z. cond z (literal_value m t) (literal_value m e)) (sym (literal_value-not_negative m c n)))
    (gate_gives low b (Ite v t e) h (three_below v (variable_of t) (variable_of e) b.variables p q r)))

choice_gives : (low : ℕ) (b : Built) (c : ℕ) (t e : Bit) → Ready low b → variable_of c < b.variables → BitBelow b.variables t → BitBelow b.variables e
    → Gives 1 b (λ d. choice_of d c t e) (λ m. cond (literal_value m c) (bit_value m t) (bit_value m e))
choice_gives low b c (Constant true) e h p q r =
    Gives-at 1 b (λ d. or_of d (Signed c) e) (λ m. literal_value m c || bit_value m e) _ (λ m. if_true (literal_value m c) (bit_value m e)) (or_gives low b (Signed c) e h p r)
choice_gives low b c (Constant false) e h p q r =
    Gives-at 1 b (λ d. and_of d (Signed (negated c)) e) (λ m. literal_value m (negated c) && bit_value m e) _
    (λ m. ap (λ v. v && bit_value m e) (literal_value-negated m c) ∙ if_false (literal_value m c) (bit_value m e)) (and_gives low b (Signed (negated c)) e h (negated_below b.variables c p) r)
choice_gives low b c (Signed t) (Constant true) h p q r =
    Gives-at 1 b (λ d. or_of d (Signed (negated c)) (Signed t)) (λ m. literal_value m (negated c) || literal_value m t) _
    (λ m. ap (λ v. v || literal_value m t) (literal_value-negated m c) ∙ else_true (literal_value m c) (literal_value m t)) (or_gives low b (Signed (negated c)) (Signed t) h (negated_below b.variables c p) q)
choice_gives low b c (Signed t) (Constant false) h p q r =
    Gives-at 1 b (λ d. and_of d (Signed c) (Signed t)) (λ m. literal_value m c && literal_value m t) _ (λ m. else_false (literal_value m c) (literal_value m t)) (and_gives low b (Signed c) (Signed t) h p q)
choice_gives low b c (Signed t) (Signed e) h p q r =
    let f : (ℕ → Bool) → Bool = λ m. cond (literal_value m c) (literal_value m t) (literal_value m e) in
    Gives-cond 1 b (eqb t (negated e)) _ _ f
    (λ (k : eqb t (negated e) ≡ true). Gives-at 1 b (λ d. xor_of d (Signed c) (Signed e)) (λ m. differ (literal_value m c) (literal_value m e)) f
    (λ m. if_contrary (literal_value m c) (literal_value m e) ∙ ap (λ v. cond (literal_value m c) v (literal_value m e)) (sym (literal_value-negated m e) ∙ ap (literal_value m) (sym (eqb-true t (negated e) k))))
    (xor_gives low b (Signed c) (Signed e) h p r))
    (λ (_ : _). signed_choice_gives low b c t e h p q r)

pub ite_gives : (low : ℕ) (b : Built) (c t e : Bit) → Ready low b → BitBelow b.variables c → BitBelow b.variables t → BitBelow b.variables e
    → Gives 1 b (λ d. ite_of d c t e) (λ m. cond (bit_value m c) (bit_value m t) (bit_value m e))
ite_gives low b (Constant true) t e h p q r = Gives-none 1 b t (λ m. bit_value m t) q (λ m. refl)
ite_gives low b (Constant false) t e h p q r = Gives-none 1 b e (λ m. bit_value m e) r (λ m. refl)
ite_gives low b (Signed c) t e h p q r =
    let f : (ℕ → Bool) → Bool = λ m. cond (literal_value m c) (bit_value m t) (bit_value m e) in
    Gives-cond 1 b (bit_eq t e) _ _ f
    (λ (k : bit_eq t e ≡ true). Gives-none 1 b t f q (λ m. if_same (literal_value m c) (bit_value m t) ∙ ap (λ z. cond (literal_value m c) (bit_value m t) (bit_value m z)) (bit_eq-true t e k)))
    (λ (_ : _). choice_gives low b c t e h p q r)

-- ---- inputs

-- a builder that has made n inputs and nothing else
pub Ready-inputs : (n : ℕ) → Ready n (record { variables = n; clauses = []; gates = [] })
Ready-inputs n = record { order = omega arith; within = tt; sound = λ m _. tt }

pub IsExact-inputs : (n : ℕ) → IsExact (record { variables = n; clauses = []; gates = [] })
IsExact-inputs n = record { exact = λ m _. refl }

-- an input may be made at any time
pub input_grows : (b : Built) → Grows 1 b (input_of b).0
input_grows b = record {
  ready = λ low h. record { order = InOrder-more low b.variables (suc b.variables) b.gates (omega arith) h.order; within = AreClausesOf-more b.variables (suc b.variables) b.clauses (omega arith) h.within; sound = h.sound };
  exact = λ e. record { exact = e.exact };
  more = omega arith;
  most = omega arith;
  kept = λ m holds. holds;
  keeps = record { found = λ _ _ e. e };
}
