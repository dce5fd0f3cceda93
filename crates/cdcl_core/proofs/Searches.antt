-- The loop of decisions: its invariant, that it ends within the number of variables, and what a model or a conflict yields.
use Rattle.std.proofs.Common.{◌≡◌, ◌≢◌, ℕ, ◌+◌, ◌*◌, ◌<◌, ◌≤◌, List, [], ◌∷◌, ◌++◌, length, length-append, get_or, take, map, refl, sym, ◌∙◌, ap, inl, inr, arith, Option, Some, None, subst}
use Rattle.std.specs.Prelude.{All, AllPairs, Any, Contains}
use Rattle.std.proofs.lemmas.Bool.{cases_eq}
use Rattle.std.proofs.lemmas.Bool.Decides.{nat_tests}
use Rattle.std.proofs.lemmas.List.{length-map, get_or-map, take_all, take_at, take-take}
use Rattle.std.proofs.lemmas.List.Elements.{All-nil, All-cons, All-map, All-push, All-weaker, All-contains, All-contains_itself, Contains-push, Contains-append_left, Contains-append_right, Contains-get_or}
use Rattle.clause_model.specs.Clauses.{negated, variable_of, IsFalse, IsUnset, IsOpen, IsConsistent, IsClosed}
use Rattle.clause_model.proofs.LiteralLaws.{negated-negated, variables_differ}
use Rattle.clause_model.proofs.Marks.{Consistent-push, Distinct-push}
use Rattle.clause_arena.specs.Contents.{Clause, Content, HasClause, HasLiteral, IsWhole, literals_of, literals_in, references_of}
use Rattle.unit_propagation.specs.Watching.{IsLater, IsOtherTrue, Rule, RuleUpTo}
use Rattle.unit_propagation.proofs.Heads.{length_below}
use Rattle.cdcl_core.specs.declared.search.Ending.{Ending}
use Rattle.cdcl_core.specs.declared.search.Ending.TheVariants.{Model, Refuted, Taught}
use Rattle.cdcl_core.specs.Implied.{clauses_of, IsConflict, IsJustified, IsCovered, BeginsAtRoot, Level, level_of}
use Rattle.cdcl_core.specs.Assumed.{IsAssumed}
use Rattle.cdcl_core.specs.Analysed.{AtConflict}
use Rattle.cdcl_core.specs.declared.solver.Solver.{Solver}
use Rattle.cdcl_core.specs.Searched.{IsBase, HasBase, IsModelOf, IsSearched, EndsOver, GoesOn}
use Rattle.cdcl_core.proofs.Roots.{found_at, root_assumed, root_later, root_closed, justified_assumed, justified_later, justified_more}
use Rattle.cdcl_core.proofs.Refuted.{root_forces}
use Rattle.cdcl_core.proofs.Assumptions.{part_in}
use Rattle.cdcl_core.proofs.Covered.{covers_grown}

-- a trail has at most as many literals as there are variables
pub count_variables : (variables : ℕ) (trail : List ℕ) → IsConsistent trail → AllPairs (λ l m. l ≢ m) trail → All (λ l. l < 2 * variables) trail → length trail ≤ variables
count_variables variables trail c d h =
    let b : length (map variable_of trail) ≤ variables = length_below variables (map variable_of trail) apart (All-map (λ v. v < variables) variable_of trail (All-weaker (λ l. l < 2 * variables) (λ l. variable_of l < variables) (λ l k. omega (arith, k)) trail h)) in
    omega (arith, b, length-map trail variable_of)
  where
    apart : AllPairs (λ v w. v ≢ w) (map variable_of trail)
    apart i j e lt b =
        let bj : j < length trail = omega (arith, b, length-map trail variable_of) in
        let bi : i < length trail = omega arith in
        let l : ℕ = get_or trail i 0 in
        let m : ℕ = get_or trail j 0 in
        let p : get_or (map variable_of trail) i e ≡ variable_of l = get_or-map variable_of trail i 0 e bi in
        let q : get_or (map variable_of trail) j e ≡ variable_of m = get_or-map variable_of trail j 0 e bj in
        let n : variable_of l ≢ variable_of m = variables_differ l m (d i j 0 lt bj) (λ f. c m (Contains-get_or trail j 0 bj) (subst (Contains trail) f (Contains-get_or trail i 0 bi))) in
        λ same. n (sym p ∙ (same ∙ q))

-- with an unset literal it has fewer
pub room_for : (variables : ℕ) (trail : List ℕ) (l : ℕ) → IsConsistent trail → AllPairs (λ l m. l ≢ m) trail → All (λ l. l < 2 * variables) trail → IsUnset trail l → l < 2 * variables → length trail < variables
room_for variables trail l c d h u b =
    let n : length (trail ++ l ∷ []) ≤ variables = count_variables variables (trail ++ l ∷ []) (Consistent-push trail l u c) (Distinct-push trail l u.0 d) (All-push (λ x. x < 2 * variables) trail l h b) in
    omega (arith, n, length-append trail (l ∷ []))

-- a variable is set where its negative literal isn't unset
pub unset_with : (trail : List ℕ) (v x l : ℕ) → l ≡ 2 * v + 1 → 2 * v ≤ x → x < 2 * (v + 1) → IsUnset trail x → IsUnset trail l
unset_with trail v x l e a b u = elim (cases_eq x l) [
  | inl f ↦ subst (IsUnset trail) f u
  | inr n ↦
      let g : x ≡ 2 * v = omega (arith, a, b, e) in
      let p : negated x ≡ l = even v x l e g in
      let q : negated l ≡ x = ap negated (sym p) ∙ negated-negated x in
      ((λ c. u.1 (subst (Contains trail) (sym p) c)), (λ c. u.0 (subst (Contains trail) q c)))
]
  where
    even : (v x l : ℕ) → l ≡ 2 * v + 1 → x ≡ 2 * v → negated x ≡ l
    even v x l e g = rw (e, g) (grind (arith, nat_tests))

-- what holds at each decision
pub record Deciding (level : Level) (content : Content) (reasons : List (Option ℕ)) (trail : List ℕ) : Type 0 where
  pub root : BeginsAtRoot level content reasons trail
  pub rule : Rule content trail
  pub denied : List ℕ
  pub justified : IsJustified content denied reasons trail

pub deciding_begun : (clauses : List (List ℕ)) (size : ℕ) (content : Content) (refs : List ℕ) (reasons : List (Option ℕ)) (trail : List ℕ) (low : ℕ) → IsBase clauses size content refs reasons trail None → Rule content trail → low ≡ length trail → Deciding (level_of content trail low) content reasons trail
deciding_begun clauses size content refs reasons trail low b rule e =
    let t : take low trail ≡ trail = take_all low trail (omega (arith, e)) in
    let r : take low reasons ≡ reasons = take_all low reasons (omega (arith, e, b.justified.aligned)) in
    record {
      root = record {
        clauses = refl;
        references = refl;
        size = refl;
        within = omega (arith, e);
        base = refl;
        attached = b.attached;
        known = b.known;
        literals = b.literals;
        aligned = b.justified.aligned;
        covered = subst (IsCovered content) (sym t) (b.covered refl);
        rule = subst (Rule content) (sym t) rule;
        justified = rw (t, r) b.justified;
        spare = rw (t, r) (b.spare refl);
      };
      rule = rule;
      denied = [];
      justified = b.justified;
    }

-- where no literal is unset, each clause is true
pub model_of : (level : Level) (content : Content) (reasons : List (Option ℕ)) (trail : List ℕ) → Deciding level content reasons trail → IsWhole content → IsConsistent trail → ((l : ℕ) → l < length content.chains → IsUnset trail l → ⊥) → IsModelOf level.clauses trail
model_of level content reasons trail d whole consistent none = record {
  consistent = consistent;
  holds = subst (λ (cs : List (List ℕ)). All (λ clause. Any (Contains trail) clause) cs) d.root.clauses (All-map (λ clause. Any (Contains trail) clause) (λ (c : Clause). c.literals) content.clauses (λ k e b.
      let c : Clause = get_or content.clauses k e in
      let f : literals_of content c.at ≡ c.literals = ap literals_in (found_at content.clauses k e whole.apart b) in
      let n : k < length (clauses_of content) = omega (arith, b, length-map content.clauses (λ (x : Clause). x.literals)) in
      let m : k < length (references_of content) = omega (arith, b, length-map content.clauses (λ (x : Clause). x.at)) in
      let h : HasClause content c.at = (k, m, get_or-map (λ (x : Clause). x.at) content.clauses k e c.at b) in
      let all : All (IsOpen trail) (clauses_of content) = subst (λ (cs : List (List ℕ)). All (IsOpen trail) cs) (sym d.root.clauses) (root_closed level content reasons trail d.root whole d.rule) in
      let o : IsOpen trail c.literals = subst (IsOpen trail) (get_or-map (λ (x : Clause). x.literals) content.clauses k e [] b) (all k [] n) in
      elim o [
        | inl t ↦ t
        | inr w ↦ absurd (none w.0 (d.root.known.literals c.at w.0 h (subst (λ (ls : List ℕ). Contains ls w.0) (sym f) w.2.first)) w.2.first_unset)
      ]));
}

-- a decision and its propagation
module _ (level : Level) (content : Content) (reasons : List (Option ℕ)) (trail : List ℕ) (d : Deciding level content reasons trail) (l : ℕ) (known : HasLiteral content l) (reasons1 : List (Option ℕ)) (trail1 : List ℕ) (er : reasons1 ≡ reasons ++ None ∷ []) (et : trail1 ≡ trail ++ l ∷ []) where
  assumed : IsAssumed (negated l ∷ []) reasons trail reasons1 trail1
  assumed = record {
    added = l ∷ [];
    trail = et;
    unexplained = er;
    within = All-cons (λ t. Contains (negated l ∷ []) (negated t)) l [] (0, omega arith, refl) (All-nil (λ t. Contains (negated l ∷ []) (negated t)));
    falsified = All-cons (IsFalse trail1) (negated l) [] (subst (Contains trail1) (sym (negated-negated l)) (rw et (Contains-push trail l))) (All-nil (IsFalse trail1));
  }

  pub decided_root : BeginsAtRoot level content reasons1 trail1
  decided_root = root_assumed level content reasons trail d.root (negated l ∷ []) reasons1 trail1 assumed (rw et (All-push (HasLiteral content) trail l d.root.literals known))

  pub decided_rule : (start : ℕ) → start ≡ length trail → RuleUpTo content (take start trail1) trail1
  decided_rule start e at slot m w c =
      let t : take start trail1 ≡ trail = ap (λ (xs : List ℕ). take start xs) et ∙ take_at trail (l ∷ []) start (sym e) in
      let o : IsOtherTrue content trail at slot = d.rule at slot m w (subst (λ (xs : List ℕ). Contains xs (negated m)) t c) in
      (o.0, (o.1.0, subst (λ (xs : List ℕ). Contains xs o.0) (sym et) (Contains-append_left trail (l ∷ []) o.0 o.1.1)))

  denied : List ℕ
  denied = d.denied ++ negated l ∷ []

  decided_justified : IsJustified content denied reasons1 trail1
  unfolding denied
  decided_justified = justified_assumed content denied (negated l ∷ []) reasons reasons1 trail trail1
      (justified_more content d.denied denied reasons trail (All-weaker (Contains d.denied) (Contains denied) (λ x p. Contains-append_left d.denied (negated l ∷ []) x p) d.denied (All-contains_itself d.denied)) d.justified)
      assumed (All-weaker (Contains (negated l ∷ [])) (Contains denied) (λ x p. Contains-append_right d.denied (negated l ∷ []) x p) (negated l ∷ []) (All-contains_itself (negated l ∷ [])))

  module _ (content' : Content) (reasons' : List (Option ℕ)) (trail' : List ℕ) (f : IsLater content trail1 reasons1 content' trail' reasons') where
    pub later_root : BeginsAtRoot level content' reasons' trail'
    later_root = root_later level content reasons1 trail1 decided_root content' reasons' trail' f

    pub deciding_later : Rule content' trail' → Deciding level content' reasons' trail'
    deciding_later r = record {
      root = later_root;
      rule = r;
      denied = denied;
      justified = justified_later content content' denied reasons1 reasons' trail1 trail' decided_justified f;
    }

    longer : length trail1 ≡ length trail + 1
    longer = ap length et ∙ length-append trail (l ∷ [])

    pub at_conflict : (start at : ℕ) → start ≡ length trail → IsWhole content → IsConflict content' trail' at → AtConflict content' reasons' trail' level.low start at
    at_conflict start at e whole w = record {
      aligned = f.aligned;
      because = (justified_later content content' denied reasons1 reasons' trail1 trail' decided_justified f).because;
      later = λ k a b z.
          let n : length trail1 ≤ k = omega (arith, longer, e, a) in
          let m : k < length trail' = omega (arith, b, f.aligned) in
          let y = f.because k n m in
          let q : Some (Some y.0) ≡ Some None = sym y.1 ∙ z in
          absurd cc;
      closed =
          let t : take start trail' ≡ trail = sym (take-take start (length trail1) trail' (omega (arith, longer, e))) ∙ (ap (λ (xs : List ℕ). take start xs) (f.prefix ∙ et) ∙ take_at trail (l ∷ []) start (sym e)) in
          rw t (subst (λ (cs : List (List ℕ)). IsClosed cs trail) (sym later_root.clauses) (root_closed level content reasons trail d.root whole d.rule));
      falsified = w;
      order = omega (arith, d.root.within, e);
      forced = λ a p o. rw (later_root.base) (root_forces level content' reasons' trail' later_root a p (subst (λ (cs : List (List ℕ)). IsClosed cs a) later_root.clauses o));
    }

-- what still holds of the same clauses when more is true before any decision
module _ (before after : Solver) (e : clauses_of after.arena ≡ clauses_of before.arena) (w : All (Contains after.trail) before.trail) where
  pub ends_onto : (id : ℕ) (a : List ℕ) (ending : Ending) → IsSearched before after → EndsOver (clauses_of after.arena) after.ids.items after.trail id a ending → EndsOver (clauses_of before.arena) before.ids.items before.trail id a ending
  ends_onto id a ending f r clauses v n = r clauses (rw (e, f) (covers_grown clauses (clauses_of before.arena) before.ids.items before.trail v after.trail w)) n

  pub goes_onto : (last : Solver) (ending : Ending) → GoesOn after last ending → GoesOn before last ending
  goes_onto last Model r = r
  goes_onto last (Refuted line) r = r
  goes_onto last (Taught line) r = (subst (λ (h : List (List ℕ)). HasBase h last None) e r.0, r.1, All-weaker (Contains after.trail) (Contains last.trail) (λ x c. All-contains (Contains last.trail) after.trail x r.2 c) before.trail w, r.3)

-- the trail begins with what was true before any decision
module _ (content : Content) (a : List ℕ) (low : ℕ) (e : low ≡ length a) where
  base_is : take low a ≡ a
  base_is = take_all low a (omega (arith, e))

  pub root_grows : (content' : Content) (reasons : List (Option ℕ)) (trail : List ℕ) → BeginsAtRoot (level_of content a low) content' reasons trail → All (Contains trail) a
  root_grows content' reasons trail g = subst (All (Contains trail)) (g.base ∙ base_is) (part_in low trail)

  pub back_grows : (content' : Content) (reasons : List (Option ℕ)) (trail tb : List ℕ) → BeginsAtRoot (level_of content a low) content' reasons trail → tb ≡ take low trail → All (Contains tb) a
  back_grows content' reasons trail tb g f = subst (λ (xs : List ℕ). All (Contains xs) a) (sym (f ∙ (g.base ∙ base_is))) (All-contains_itself a)

  pub base_forced : (content' : Content) (reasons : List (Option ℕ)) (trail : List ℕ) → BeginsAtRoot (level_of content a low) content' reasons trail → (b : List ℕ) → IsConsistent b → IsClosed (clauses_of content) b → All (Contains b) a
  base_forced content' reasons trail g b p o = subst (All (Contains b)) base_is (root_forces (level_of content a low) content' reasons trail g b p o)

pub bounded_by : (level : Level) (content : Content) (reasons : List (Option ℕ)) (trail : List ℕ) (bound : ℕ) → BeginsAtRoot level content reasons trail → level.size ≡ bound → All (λ l. l < bound) trail
bounded_by level content reasons trail bound g e = All-weaker (HasLiteral content) (λ l. l < bound) (λ l b. omega (arith, b, e, g.size)) trail g.literals

pub known_below : (level : Level) (content : Content) (reasons : List (Option ℕ)) (trail : List ℕ) (bound l : ℕ) → BeginsAtRoot level content reasons trail → level.size ≡ bound → l < bound → HasLiteral content l
known_below level content reasons trail bound l g e b = omega (arith, b, e, g.size)

pub below_bound : (level : Level) (content : Content) (reasons : List (Option ℕ)) (trail : List ℕ) (bound l : ℕ) → BeginsAtRoot level content reasons trail → level.size ≡ bound → HasLiteral content l → l < bound
below_bound level content reasons trail bound l g e b = omega (arith, b, e, g.size)
