-- Loops over a formula's clauses: its number of variables, loading, and the values of a model.
use Rattle.std.proofs.Common.{◌≡◌, ◌≢◌, ℕ, ◌+◌, ◌-◌, ◌*◌, ◌/◌, ◌%◌, ◌<◌, ◌≤◌, List, [], ◌∷◌, ◌++◌, length, get_or, take, map, refl, sym, ◌∙◌, ap, inl, inr, arith, Option, Some, None, subst, zero, suc, true, false, Bool, pos, negsuc, ℤ, nat_eq, true≢false}
use Rattle.std.specs.Prelude.{All, Any, Contains, FitsSigned, slice_get, replicate, max, not, IsTrue, ◌↔◌}
use Rattle.std.proofs.lemmas.Bool.{cases_eq, cases_lt, and_from as both, or_left, or_right}
use Rattle.std.proofs.lemmas.Int.{ints}
use Rattle.std.specs.Int.{w32}
use Rattle.std.proofs.lemmas.Bool.Decides.{nat_tests}
use Rattle.std.proofs.lemmas.List.{take_more, map_push, length-take, length-replicate, length-map, get_or-map, get_or_push, get_or_append_left}
use Rattle.std.proofs.lemmas.List.Elements.{All-nil, All-cons, All-head, All-tail, All-push, All-weaker, All-contains}
use Rattle.std.proofs.lemmas.Option.{get_or_from_slice_get, slice_get_within}
use Rattle.clause_model.specs.Clauses.{negated, code_of, codes_of, literal_value, IsConsistent}
use Rattle.clause_arena.specs.Contents.{Content, HasLiteral}
use Rattle.cnf_gates.specs.Cnf.{Cnf, IsLiteral}
use Rattle.cnf_gates.specs.Meaning.{number_value, clause_value, all_true, assigned}
use Rattle.cdcl_core.specs.Implied.{clauses_of}
use Rattle.cdcl_core.specs.Held.{Covers}
use Rattle.cdcl_core.specs.declared.solver.Solver.{Solver}
use Rattle.cdcl_core.specs.Searched.{IsBase, HasBase}
use Rattle.cdcl_core.specs.Solved.{AreBelow, HasEmpty, HasValues}
use Rattle.cdcl_core.proofs.Lists.{All-left, All-right}
use Rattle.cdcl_core.proofs.Covered.{covers_more}
use Rattle.clause_model.proofs.LiteralLaws.{negated-positive as even_negated}
use Rattle.unit_propagation.proofs.Attached.{none_in}

-- the clause that has a number, from 1
pub clause_is : {X : Type 0} (xs : List X) (i : ℕ) (x : X) → slice_get xs (i + 1 - 1) ≡ Some x → (i < length xs) × (x ≡ get_or xs i x)
clause_is xs i x e =
    let n : i + 1 - 1 ≡ i = omega arith in
    let f : slice_get xs i ≡ Some x = subst (λ (k : ℕ). slice_get xs k ≡ Some x) n e in
    (slice_get_within xs i x f, sym (get_or_from_slice_get xs i x x f))

pub All-next : {X : Type 0} (P : X → Type 0) (xs : List X) (i : ℕ) (x : X) → slice_get xs (i + 1 - 1) ≡ Some x → All P (take i xs) → P x → All P (take (i + 1) xs)
All-next P xs i x e h p =
    let w = clause_is xs i x e in
    let t : take (i + 1) xs ≡ take i xs ++ x ∷ [] = take_more xs i x w.0 ∙ ap (λ y. take i xs ++ y ∷ []) (sym w.1) in
    subst (All P) (sym t) (All-push P (take i xs) x h p)

pub Any-here : {X : Type 0} (P : X → Type 0) (xs : List X) (i : ℕ) (x : X) → slice_get xs (i + 1 - 1) ≡ Some x → P x → Any P xs
Any-here P xs i x e p = let w = clause_is xs i x e in (i, x, w.0, sym w.1, p)

pub All-at : {X : Type 0} (P : X → Type 0) (xs : List X) (i : ℕ) (x : X) → slice_get xs (i + 1 - 1) ≡ Some x → All P xs → P x
All-at P xs i x e h = let w = clause_is xs i x e in subst P (sym w.1) (h i x w.0)

pub codes_next : (xs : List (List ℤ)) (i : ℕ) (x : List ℤ) → slice_get xs (i + 1 - 1) ≡ Some x → codes_of (take (i + 1) xs) ≡ codes_of (take i xs) ++ map code_of x ∷ []
codes_next xs i x e =
    let w = clause_is xs i x e in
    ap codes_of (take_more xs i x w.0 ∙ ap (λ (y : List ℤ). take i xs ++ y ∷ []) (sym w.1)) ∙ map_push (map code_of) (take i xs) x

pub codes_at : (P : List ℕ → Type 0) (xs : List (List ℤ)) (i : ℕ) (x : List ℤ) → slice_get xs (i + 1 - 1) ≡ Some x → All P (codes_of xs) → P (map code_of x)
codes_at P xs i x e h =
    let w = clause_is xs i x e in
    let b : i < length (codes_of xs) = omega (arith, w.0, length-map xs (map code_of)) in
    subst P (get_or-map (map code_of) xs i x [] w.0 ∙ ap (map code_of) (sym w.1)) (h i [] b)

-- the codes of a formula's literals
pub code_below : (z : ℤ) → IsLiteral z → code_of z < 400000
code_below (pos n) h = omega (arith, ints)
code_below (negsuc v) h = omega (arith, ints)

-- the least number of variables for the literals so far
pub record Reaches (from reach : ℕ) (literals : List ℕ) : Type 0 where
  pub few : reach ≤ 200000
  pub more : from ≤ reach
  pub below : All (λ l. l < 2 * reach) literals
  pub least : (n : ℕ) → from ≤ n → All (λ l. l < 2 * n) literals → reach ≤ n

pub reaches_none : (from : ℕ) → from ≤ 200000 → Reaches from from []
reaches_none from b = record { few = b; more = omega arith; below = All-nil (λ l. l < 2 * from); least = λ n c h. c }

pub reaches_more : (from reach end reach' : ℕ) (literals : List ℕ) (l : ℕ) → Reaches from reach literals → l < 400000 → end ≡ l / 2 + 1 → reach' ≡ max reach end → Reaches from reach' (literals ++ l ∷ [])
reaches_more from reach end reach' literals l h b e f = record {
  few = omega (arith, h.few, b, e, f);
  more = omega (arith, h.more, f);
  below = All-push (λ x. x < 2 * reach') literals l (All-weaker (λ x. x < 2 * reach) (λ x. x < 2 * reach') (λ x c. omega (arith, c, f)) literals h.below) (omega (arith, e, f));
  least = λ n c g.
      let p : reach ≤ n = h.least n c (left n literals g) in
      let q : l < 2 * n = last n literals g in
      omega (arith, p, q, e, f);
}
  where
    left : (n : ℕ) (xs : List ℕ) → All (λ x. x < 2 * n) (xs ++ l ∷ []) → All (λ x. x < 2 * n) xs
    left n [] g = All-nil (λ x. x < 2 * n)
    left n (x ∷ xs) g = All-cons (λ y. y < 2 * n) x xs (All-head (λ y. y < 2 * n) x (xs ++ l ∷ []) g) (left n xs (All-tail (λ y. y < 2 * n) x (xs ++ l ∷ []) g))

    last : (n : ℕ) (xs : List ℕ) → All (λ x. x < 2 * n) (xs ++ l ∷ []) → l < 2 * n
    last n [] g = All-head (λ y. y < 2 * n) l [] g
    last n (x ∷ xs) g = last n xs (All-tail (λ y. y < 2 * n) x (xs ++ l ∷ []) g)

-- an arena without clauses
pub base_begun : (variables : ℕ) (content : Content) (refs : List ℕ) (reasons : List (Option ℕ)) (trail : List ℕ) → content ≡ record { clauses = []; chains = replicate (2 * variables) [] } → refs ≡ [] → reasons ≡ [] → trail ≡ [] → IsBase [] (2 * variables) content refs reasons trail None
base_begun variables content refs reasons trail e f g h = rw (e, f, g, h) record {
  clauses_are = refl;
  size_is = length-replicate (2 * variables) [];
  numbered_by = refl;
  attached = λ at slot l w. absurd (empty (2 * variables) l (at, slot) w.1);
  known = record {
    literals = λ at l c d. absurd (none_in at c);
    contrary = λ l b. let n : length (replicate {A = List (ℕ × ℕ)} (2 * variables) []) ≡ 2 * variables = length-replicate (2 * variables) [] in omega (arith, n, contrary_below l variables (omega (arith, n, b)));
  };
  literals = All-nil (λ l. l < length (replicate {A = List (ℕ × ℕ)} (2 * variables) []));
  justified = record { aligned = refl; because = λ k r z. absurd cc; given = λ k z. absurd cc };
  covered = λ _ at c. absurd (none_in at c);
  spare = λ _ at c. absurd (none_in at c);
  falsified = λ at z. absurd cc;
}
  where
    contrary_below : (l n : ℕ) → l < 2 * n → negated l < 2 * n
    contrary_below l n b = grind (arith, nat_tests)

    empty : (n l : ℕ) (w : ℕ × ℕ) → Contains (get_or (replicate {A = List (ℕ × ℕ)} n []) l []) w → ⊥
    empty n l w c = none (get_or (replicate n []) l []) (is n l) c
      where
        is : (n l : ℕ) → get_or (replicate {A = List (ℕ × ℕ)} n []) l [] ≡ []
        is zero l = refl
        is (suc n) zero = refl
        is (suc n) (suc l) = is n l

        none : (xs : List (ℕ × ℕ)) → xs ≡ [] → Contains xs w → ⊥
        none xs e c = let m : length xs ≡ 0 = ap length e in absurd (omega (arith, m, c.1))

pub not_empty : (xs : List ℤ) (ys : List ℕ) → xs ≢ [] → ys ≡ map code_of xs → 0 < length ys
not_empty [] ys n e = absurd (n refl)
not_empty (x ∷ xs) ys n e = omega (arith, ap length e)

-- the values of a model
pub values_more : (trail : List ℕ) (values values' : List Bool) (v l : ℕ) (b : Bool) → length values ≡ v → values' ≡ values ++ b ∷ [] → l ≡ 2 * v → (IsTrue b ↔ Contains trail l) → ((u : ℕ) → u < v → IsTrue (assigned values u) ↔ Contains trail (2 * u)) → (u : ℕ) → u < v + 1 → IsTrue (assigned values' u) ↔ Contains trail (2 * u)
values_more trail values values' v l b n e f h g u c = elim (cases_lt u v) [
  | inl k ↦
      let m : u < length values = omega (arith, n, k) in
      let q : assigned values' u ≡ assigned values u = ap (λ (xs : List Bool). get_or xs u false) e ∙ get_or_append_left values (b ∷ []) false u m in
      rw q (g u k)
  | inr k ↦
      let is : u ≡ v = omega (arith, c, k) in
      let q : assigned values' u ≡ b = ap (λ (xs : List Bool). get_or xs u false) e ∙ get_or_push values b false u (n ∙ sym is) in
      let p : 2 * u ≡ l = omega (arith, is, f) in
      rw (q, p) h
]

not_true : (b : Bool) → (b ≡ true → ⊥) → not b ≡ true
not_true true n = absurd (n refl)
not_true false n = refl

pub agrees : (values : List Bool) (variables : ℕ) (trail : List ℕ) → IsConsistent trail → ((v : ℕ) → v < variables → IsTrue (assigned values v) ↔ Contains trail (2 * v)) → (l : ℕ) → l < 2 * variables → Contains trail l → literal_value (assigned values) l ≡ true
agrees values variables trail consistent h l b c = elim (cases_eq (l % 2) 0) [
  | inl e ↦
      let z : nat_eq (l % 2) 0 ≡ true = grind (arith, nat_tests) in
      let is : l ≡ 2 * (l / 2) = omega (arith, e) in
      rw z ((h (l / 2) (omega (arith, b))).1 (subst (Contains trail) is c))
  | inr n ↦
      let z : nat_eq (l % 2) 0 ≡ false = grind (arith, nat_tests) in
      let is : l ≡ 2 * (l / 2) + 1 = omega (arith, n) in
      rw z (not_true (assigned values (l / 2)) (λ t. consistent (2 * (l / 2)) ((h (l / 2) (omega (arith, b))).0 t) (subst (Contains trail) (is ∙ sym (even_negated (l / 2))) c)))
]

number_true : (m : ℕ → Bool) (z : ℤ) → z ≢ pos 0 → literal_value m (code_of z) ≡ true → number_value m z ≡ true
number_true m (pos zero) n e = absurd (n refl)
number_true m (pos (suc v)) n e = sym (even v) ∙ e
  where
    even : (v : ℕ) → literal_value m (2 * (suc v - 1)) ≡ m v
    even v = grind (arith, nat_tests)
number_true m (negsuc v) n e = sym (odd v) ∙ e
  where
    odd : (v : ℕ) → literal_value m (2 * v + 1) ≡ not (m v)
    odd v = grind (arith, nat_tests)

clause_true : (m : ℕ → Bool) (zs : List ℤ) → All IsLiteral zs → Any (λ l. literal_value m l ≡ true) (map code_of zs) → clause_value m zs ≡ true
clause_true m [] h t = absurd (omega (arith, t.2))
clause_true m (z ∷ zs) h (zero, x, b, e, t) = or_left (number_value m z) (clause_value m zs) (number_true m z (All-head IsLiteral z zs h).0 (subst (λ (y : ℕ). literal_value m y ≡ true) (sym e) t))
clause_true m (z ∷ zs) h (suc k, x, b, e, t) = or_right (number_value m z) (clause_value m zs) (clause_true m zs (All-tail IsLiteral z zs h) (k, x, omega arith, e, t))

pub model_true : (values : List Bool) (variables : ℕ) (trail : List ℕ) → IsConsistent trail → ((v : ℕ) → v < variables → IsTrue (assigned values v) ↔ Contains trail (2 * v)) → (clauses : List (List ℤ)) → All (λ c. All IsLiteral c) clauses → AreBelow variables (codes_of clauses) → All (λ c. Any (Contains trail) c) (codes_of clauses) → all_true (assigned values) clauses ≡ true
model_true values variables trail consistent h [] l b t = refl
model_true values variables trail consistent h (c ∷ cs) l b t =
    let m : ℕ → Bool = assigned values in
    let first : Any (Contains trail) (map code_of c) = All-head (λ x. Any (Contains trail) x) (map code_of c) (codes_of cs) t in
    let low : All (λ x. x < 2 * variables) (map code_of c) = All-head (λ x. All (λ y. y < 2 * variables) x) (map code_of c) (codes_of cs) b in
    let here : first.1 < 2 * variables = All-contains (λ x. x < 2 * variables) (map code_of c) first.1 low (first.0, first.2, first.3) in
    both (clause_value m c) (all_true m cs)
    (clause_true m c (All-head (λ x. All IsLiteral x) c cs l) (first.0, first.1, first.2, first.3, agrees values variables trail consistent h first.1 here first.4))
    (model_true values variables trail consistent h cs (All-tail (λ x. All IsLiteral x) c cs l) (All-tail (λ x. All (λ y. y < 2 * variables) x) (map code_of c) (codes_of cs) b) (All-tail (λ x. Any (Contains trail) x) (map code_of c) (codes_of cs) t))

-- as many values as the number of variables that the formula reaches
pub values_for : (model : List Bool) (variables : ℕ) (formula : Cnf) → length model ≡ variables → formula.variables ≤ variables → AreBelow variables (codes_of formula.clauses) → HasValues model formula
values_for model variables formula e reached below = subst (λ (n : ℕ). (formula.variables ≤ n) × AreBelow n (codes_of formula.clauses)) (sym e) (reached, below)

pub filled_formula : (formula : Cnf) → All (λ clause. clause ≢ []) formula.clauses → HasEmpty formula → ⊥
filled_formula formula h e = All-contains (λ clause. clause ≢ []) formula.clauses e.1 h (e.0, e.2, e.3) e.4

-- one more clause within the number of variables
module _ (clauses : List (List ℤ)) (i : ℕ) (x : List ℤ) (e : slice_get clauses (i + 1 - 1) ≡ Some x) (reach reach' : ℕ) where
  pub below_next : reach ≤ reach' → AreBelow reach (codes_of (take i clauses)) → All (λ l. l < 2 * reach') (map code_of x) → AreBelow reach' (codes_of (take (i + 1) clauses))
  below_next m h b =
      let P : List ℕ → Type 0 = λ clause. All (λ l. l < 2 * reach') clause in
      subst (λ (cs : List (List ℕ)). All P cs) (sym (codes_next clauses i x e))
      (All-push P (codes_of (take i clauses)) (map code_of x) (All-weaker (λ clause. All (λ l. l < 2 * reach) clause) P (λ clause c. All-weaker (λ l. l < 2 * reach) (λ l. l < 2 * reach') (λ l k. omega (arith, k, m)) clause c) (codes_of (take i clauses)) h) b)

  pub least_next : (n : ℕ) → ((AreBelow n (codes_of (take i clauses))) → reach ≤ n) → (reach ≤ n → All (λ l. l < 2 * n) (map code_of x) → reach' ≤ n) → AreBelow n (codes_of (take (i + 1) clauses)) → reach' ≤ n
  least_next n f g b =
      let P : List ℕ → Type 0 = λ clause. All (λ l. l < 2 * n) clause in
      let all : All P (codes_of (take i clauses) ++ map code_of x ∷ []) = subst (λ (cs : List (List ℕ)). All P cs) (codes_next clauses i x e) b in
      g (f (All-left P (codes_of (take i clauses)) (map code_of x ∷ []) all)) (All-head P (map code_of x) [] (All-right P (codes_of (take i clauses)) (map code_of x ∷ []) all))

pub reached : (numbers : List ℤ) (i from reach end reach' l : ℕ) → i < length numbers → All IsLiteral numbers → l ≡ code_of (get_or numbers i (pos 0)) → end ≡ l / 2 → reach' ≡ max reach (end + 1) → Reaches from reach (map code_of (take i numbers)) → Reaches from reach' (map code_of (take (i + 1) numbers))
reached numbers i from reach end reach' l b lits e f g h =
    let z : ℤ = get_or numbers i (pos 0) in
    let t : map code_of (take (i + 1) numbers) ≡ map code_of (take i numbers) ++ code_of z ∷ [] = ap (map code_of) (take_more numbers i (pos 0) b) ∙ map_push code_of (take i numbers) z in
    subst (λ (ls : List ℕ). Reaches from reach' ls) (sym t) (reaches_more from reach (end + 1) reach' (map code_of (take i numbers)) (code_of z) h (code_below z (lits i (pos 0) b)) (ap (λ (x : ℕ). x + 1) (f ∙ ap (λ (x : ℕ). x / 2) e)) g)

pub loaded : (clauses : List (List ℤ)) (i : ℕ) (x : List ℤ) (literals shown : List ℕ) (before after : Solver) → slice_get clauses (i + 1 - 1) ≡ Some x → shown ≡ literals → literals ≡ map code_of x
    → HasBase (codes_of (take i clauses)) before before.conflict → HasBase (clauses_of before.arena ++ shown ∷ []) after after.conflict → HasBase (codes_of (take (i + 1) clauses)) after after.conflict
loaded clauses i x literals shown before after e f g b d = subst (λ (cs : List (List ℕ)). HasBase cs after after.conflict) (ap (λ (cs : List (List ℕ)). cs ++ shown ∷ []) b.clauses_are ∙ (ap (λ (ls : List ℕ). codes_of (take i clauses) ++ ls ∷ []) (f ∙ g) ∙ sym (codes_next clauses i x e))) d

-- its id is the next one
pub loaded_covers : (clauses : List (List ℤ)) (i : ℕ) (x : List ℤ) (id : ℕ) (ids ids' trail trail' : List ℕ) → slice_get clauses (i + 1 - 1) ≡ Some x → id ≡ i + 1 → ids' ≡ ids ++ id ∷ [] → All (Contains trail') trail
    → Covers (codes_of (take i clauses)) (codes_of (take i clauses)) ids trail → Covers (codes_of (take (i + 1) clauses)) (codes_of (take (i + 1) clauses)) ids' trail'
loaded_covers clauses i x id ids ids' trail trail' e f g w v =
    let b : i < length clauses = (clause_is clauses i x e).0 in
    let n : length (codes_of (take i clauses)) ≡ i = omega (arith, b, length-map (take i clauses) (map code_of), length-take {A = List ℤ}) in
    rw (codes_next clauses i x e, g) (covers_more (codes_of (take i clauses)) (codes_of (take i clauses)) ids trail v trail' w (map code_of x) id (omega (arith, f, n)))

pub loads_known : (clauses : List (List ℤ)) (i : ℕ) (x : List ℤ) (literals shown : List ℕ) (size : ℕ) (content : Content) → slice_get clauses (i + 1 - 1) ≡ Some x → shown ≡ literals → literals ≡ map code_of x → length content.chains ≡ size → All (λ clause. All (λ l. l < size) clause) (codes_of clauses) → All (HasLiteral content) shown
loads_known clauses i x literals shown size content e f g n h = subst (All (HasLiteral content)) (sym (f ∙ g)) (All-weaker (λ l. l < size) (HasLiteral content) (λ l b. omega (arith, b, n)) (map code_of x) (codes_at (λ clause. All (λ l. l < size) clause) clauses i x e h))

pub loads_some : (clauses : List (List ℤ)) (i : ℕ) (x : List ℤ) (literals shown : List ℕ) → slice_get clauses (i + 1 - 1) ≡ Some x → shown ≡ literals → literals ≡ map code_of x → All (λ clause. clause ≢ []) clauses → 0 < length shown
loads_some clauses i x literals shown e f g h = not_empty x shown (All-at (λ clause. clause ≢ []) clauses i x e h) (f ∙ g)

pub empty_is : (xs : List ℤ) → true ≡ nat_eq (length xs) 0 → xs ≡ []
empty_is [] e = refl
empty_is (x ∷ xs) e = let z : nat_eq (length (x ∷ xs)) 0 ≡ false = grind (arith, nat_tests) in absurd (true≢false (e ∙ z))

pub empty_not : (xs : List ℤ) → false ≡ nat_eq (length xs) 0 → xs ≢ []
empty_not xs e f = let n : length xs ≡ 0 = ap length f in let z : nat_eq (length xs) 0 ≡ true = grind (arith, nat_tests) in absurd (true≢false (sym z ∙ sym e))

-- a literal fits in 32 bits
pub fits_literal : (z : ℤ) → IsLiteral z → FitsSigned w32 z
fits_literal (pos n) h = omega (arith, ints)
fits_literal (negsuc n) h = omega (arith, ints)
