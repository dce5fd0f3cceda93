-- Certifying a clause: its literals are assumed false, and the conflict that follows yields the log's line.
use Rattle.std.proofs.Common.{◌≡◌, ◌≢◌, ℕ, ◌+◌, ◌-◌, ◌<◌, ◌≤◌, ◌⊎◌, List, [], ◌∷◌, ◌++◌, length, length-append, get_or, take, drop, map, refl, sym, ◌∙◌, ap, inl, inr, arith, Option, Some, None, subst, zero, suc}
use Rattle.std.specs.Prelude.{All, AllPairs, Contains, slice_get, replicate}
use Rattle.std.proofs.lemmas.Bool.{cases_eq, cases_lt}
use Rattle.std.proofs.lemmas.List.{length-take, take_at, take-append-drop, get_or_default, get_or-append-add}
use Rattle.std.proofs.lemmas.Option.{slice_get_within}
use Rattle.std.proofs.lemmas.List.Elements.{All-map, All-contains, All-weaker, All-contains_itself, Contains-append_right}
use Rattle.clause_model.specs.Clauses.{negated, IsFalse, IsConsistent}
use Rattle.clause_model.proofs.Asserted.{AllFalse-grown}
use Rattle.clause_model.proofs.LiteralLaws.{negated-negated}
use Rattle.clause_model.proofs.Sound.{Contains-negated}
use Rattle.clause_arena.specs.Contents.{Clause, Content, HasLiteral, IsWhole}
use Rattle.unit_propagation.specs.Watching.{IsLater, Rule}
use Rattle.cdcl_core.specs.Implied.{clauses_of, Level, level_of, IsConflict, BeginsAtRoot, IsJustified, IsRefutable}
use Rattle.cdcl_core.specs.Held.{AreNumbered}
use Rattle.cdcl_core.specs.Assumed.{CanFalsify, IsAssumed}
use Rattle.cdcl_core.specs.Hinted.{HasReasons}
use Rattle.cdcl_core.specs.Solved.{RefutesTidily, TidyPropagation}
use Rattle.cdcl_core.proofs.Lists.{entry_append, entry_replicate, entry_take, grown_from_keeps}
use Rattle.cdcl_core.proofs.Roots.{root_assumed, root_later, root_closed, justified_later, justified_assumed}
use Rattle.cdcl_core.proofs.Assumptions.{assumed_bounded}
use Rattle.cdcl_core.proofs.Falsified.{back_root, back_justified, back_falsifiable}

-- the middle one of three lists
middle : (xs ys zs : List ℕ) → take (length ys) (drop (length xs) ((xs ++ ys) ++ zs)) ≡ ys
middle [] ys zs = take_at ys zs (length ys) refl
middle (x ∷ xs) ys zs = middle xs ys zs

pub negated_twice : (xs : List ℕ) → map negated (map negated xs) ≡ xs
negated_twice [] = refl
negated_twice (x ∷ xs) = ap (λ (y : ℕ). y ∷ map negated (map negated xs)) (negated-negated x) ∙ ap (λ (ys : List ℕ). x ∷ ys) (negated_twice xs)

Contains-map : (xs : List ℕ) → All (λ t. Contains (map negated xs) (negated t)) xs
Contains-map xs = All-weaker (Contains xs) (λ t. Contains (map negated xs) (negated t)) (λ t c. has t c) xs (All-contains_itself xs)
  where
    has : (t : ℕ) → Contains xs t → Contains (map negated xs) (negated t)
    has t c = go xs t c
      where
        go : (ys : List ℕ) (t : ℕ) → Contains ys t → Contains (map negated ys) (negated t)
        go [] t d = absurd (omega (arith, d.1))
        go (y ∷ ys) t (zero, b, e) = (0, omega arith, ap negated e)
        go (y ∷ ys) t (suc k, b, e) = let w = go ys t (k, omega arith, e) in (suc w.0, omega (arith, w.1), w.2)

either : (xs ys : List ℕ) (x : ℕ) → Contains (xs ++ ys) x → Contains xs x ⊎ Contains ys x
either [] ys x q = inr q
either (y ∷ xs) ys x (zero, b, f) = inl (0, omega arith, f)
either (y ∷ xs) ys x (suc k, b, f) = elim (either xs ys x (k, omega arith, f)) [ inl q ↦ inl (suc q.0, omega (arith, q.1), q.2) | inr q ↦ inr q ]

pub tidy_here : (live : ℕ → Option (List ℕ)) (givens literals hints : List ℕ) → literals ≡ map negated givens → RefutesTidily live givens hints → TidyPropagation live literals hints
tidy_here live givens literals hints g r =
    let n : map negated literals ≡ givens = ap (map negated) g ∙ negated_twice givens in
    subst (λ (a : List ℕ). RefutesTidily live a hints) (sym n) r

pub numbered_there : (live : ℕ → Option (List ℕ)) (content content' : Content) (ids : List ℕ) → content'.clauses ≡ content.clauses → AreNumbered live (clauses_of content) ids → AreNumbered live (clauses_of content') ids
numbered_there live content content' ids e a = subst (λ (cs : List Clause). AreNumbered live (map (λ (c : Clause). c.literals) cs) ids) (sym e) a

module _ (content : Content) (low : ℕ) (reasons : List (Option ℕ)) (trail : List ℕ) (g : BeginsAtRoot (level_of content trail low) content reasons trail) (clause : List ℕ) (f : CanFalsify (length content.chains) (take low trail) clause)
    (rb : List (Option ℕ)) (tb : List ℕ) (eb : tb ≡ take low trail) (er : rb ≡ take low reasons) (r1 : List (Option ℕ)) (t1 : List ℕ) (h : IsAssumed clause rb tb r1 t1) where
  abbrev level : Level
  level = level_of content trail low

  pub denied_root : BeginsAtRoot level content r1 t1
  denied_root = root_assumed level content rb tb (back_root level content reasons rb trail tb g eb er) clause r1 t1 h (assumed_bounded (length content.chains) tb clause (back_falsifiable (length content.chains) low trail tb clause eb f) rb r1 t1 h)

  -- what was assumed, stated for the literals that were added
  exactly : IsAssumed (map negated h.added) rb tb r1 t1
  exactly = record {
    added = h.added;
    trail = h.trail;
    unexplained = h.unexplained;
    within = Contains-map h.added;
    falsified = All-map (IsFalse t1) negated h.added (All-weaker (Contains h.added) (λ t. IsFalse t1 (negated t)) (λ t c. subst (Contains t1) (sym (negated-negated t)) (rw h.trail (Contains-append_right tb h.added t c))) h.added (All-contains_itself h.added));
  }

  low_is : length tb ≡ low
  low_is = let w : low ≤ length trail = g.within in omega (arith, ap length eb ∙ refl, length-take {A = ℕ})

  aligned_back : length rb ≡ length tb
  aligned_back = (back_root level content reasons rb trail tb g eb er).aligned

  module _ (content' : Content) (r' : List (Option ℕ)) (t' : List ℕ) (l : IsLater content t1 r1 content' t' r') where
    pub derived_root : BeginsAtRoot level content' r' t'
    derived_root = root_later level content r1 t1 denied_root content' r' t' l

    high_is : length t1 ≡ low + length h.added
    high_is = omega (arith, ap length h.trail, length-append tb h.added, low_is)

    whole_trail : t' ≡ (tb ++ h.added) ++ drop (length t1) t'
    whole_trail = sym (take-append-drop (length t1) t') ∙ ap (λ (xs : List ℕ). xs ++ drop (length t1) t') (l.prefix ∙ h.trail)

    -- the given literals are the part of the trail between the two lengths
    pub givens_are : (shown : List ℕ) (high : ℕ) → shown ≡ t' → high ≡ length t1 → take (high - low) (drop low shown) ≡ h.added
    givens_are shown high e i =
        let n : high - low ≡ length h.added = omega (arith, high_is) in
        ap (λ (k : ℕ). take k (drop low shown)) n ∙ (ap (λ (xs : List ℕ). take (length h.added) (drop low xs)) (e ∙ whole_trail) ∙ (ap (λ (k : ℕ). take (length h.added) (drop k ((tb ++ h.added) ++ drop (length t1) t'))) (sym low_is) ∙ middle tb h.added (drop (length t1) t')))

    j : IsJustified content' (map negated h.added) r' t'
    j = justified_later content content' (map negated h.added) r1 r' t1 t'
        (justified_assumed content (map negated h.added) (map negated h.added) rb r1 tb t1 (back_justified level content reasons rb trail tb (map negated h.added) g eb er) exactly (All-contains_itself (map negated h.added))) l

    at_added : (q : ℕ) → q < length h.added → get_or t' (length tb + q) 0 ≡ get_or h.added q 0
    at_added q b =
        let part : List ℕ = drop (length t1) t' in
        ap (λ (xs : List ℕ). get_or xs (length tb + q) 0) (whole_trail ∙ assoc tb h.added part) ∙ (get_or-append-add tb (h.added ++ part) q 0 ∙ left h.added part q b)
      where
        assoc : (xs ys zs : List ℕ) → (xs ++ ys) ++ zs ≡ xs ++ (ys ++ zs)
        assoc [] ys zs = refl
        assoc (x ∷ xs) ys zs = ap (λ (ws : List ℕ). x ∷ ws) (assoc xs ys zs)

        left : (xs ys : List ℕ) (q : ℕ) → q < length xs → get_or (xs ++ ys) q 0 ≡ get_or xs q 0
        left [] ys q c = absurd (omega arith)
        left (x ∷ xs) ys zero c = refl
        left (x ∷ xs) ys (suc q) c = left xs ys q (omega arith)

    pub givens_distinct : AllPairs (λ x y. x ≢ y) t' → AllPairs (λ x y. x ≢ y) h.added
    givens_distinct d i k e lt b =
        let c : i < length h.added = omega arith in
        let m : length t' ≡ length ((tb ++ h.added) ++ drop (length t1) t') = ap length whole_trail in
        let n : length tb + k < length t' = omega (arith, m, length-append (tb ++ h.added) (drop (length t1) t'), length-append tb h.added) in
        λ same. d (length tb + i) (length tb + k) 0 (omega arith) n (at_added i c ∙ (get_or_default h.added i 0 e c ∙ (same ∙ (get_or_default h.added k e 0 b ∙ sym (at_added k b)))))

    added_in : All (Contains t') h.added
    added_in = All-weaker (Contains h.added) (Contains t') (λ t c. All-contains (Contains t') t1 t (grown_from_keeps t1 t' l.prefix) (rw h.trail (Contains-append_right tb h.added t c))) h.added (All-contains_itself h.added)

    pub givens_bounded : (size : ℕ) → length content.chains ≤ size → All (λ x. x < size) h.added
    givens_bounded size b = All-weaker (Contains t') (λ x. x < size) (λ x c. let k : HasLiteral content' x = All-contains (HasLiteral content') t' x (derived_root.literals) c in omega (arith, k, l.size)) h.added added_in

    pub givens_known : (givens literals : List ℕ) → givens ≡ h.added → literals ≡ map negated givens → All (HasLiteral content) literals
    givens_known givens literals e i = rw (i, e) (All-map (HasLiteral content) negated h.added (All-weaker (Contains t') (λ t. HasLiteral content (negated t)) (λ t c.
        let k : HasLiteral content' t = All-contains (HasLiteral content') t' t derived_root.literals c in
        let b : HasLiteral content t = omega (arith, k, l.size) in
        g.known.contrary t b) h.added added_in))

    pub givens_reasons : (conflict : ℕ) → IsConflict content' t' conflict → AllPairs (λ x y. x ≢ y) t' → HasReasons content' r' t' h.added conflict
    givens_reasons conflict w d = record {
      aligned = l.aligned;
      because = j.because;
      given = λ k e. subst (Contains h.added) (negated-negated (get_or t' k 0)) (Contains-negated h.added (negated (get_or t' k 0)) (j.given k e));
      proper = λ k r e c.
          let m : length t' ≡ length ((tb ++ h.added) ++ drop (length t1) t') = ap length whole_trail in
          let n : length tb + c.0 < length t' = omega (arith, c.1, m, length-append (tb ++ h.added) (drop (length t1) t'), length-append tb h.added) in
          let kb : k < length t' = omega (arith, l.aligned, slice_get_within r' k (Some r) e) in
          let same : get_or t' (length tb + c.0) 0 ≡ get_or t' k 0 = at_added c.0 c.1 ∙ (get_or_default h.added c.0 0 (get_or t' k 0) c.1 ∙ c.2) in
          let is : length tb + c.0 ≡ k = elim (cases_lt (length tb + c.0) k) [
            | inl x ↦ absurd (d (length tb + c.0) k 0 x kb same)
            | inr x ↦ elim (cases_eq k (length tb + c.0)) [
              | inl y ↦ sym y
              | inr y ↦ absurd (d k (length tb + c.0) 0 (omega arith) n (sym same))
            ]
          ] in
          let before : k < length t1 = omega (arith, is, c.1, high_is, low_is) in
          let old : slice_get r1 k ≡ Some (Some r) = subst (λ (xs : List (Option ℕ)). slice_get xs k ≡ Some (Some r)) l.reasons_kept (entry_take r' k (length t1) (Some r) before e) in
          elim (entry_append rb (replicate (length h.added) None) (Some r) k (subst (λ (xs : List (Option ℕ)). slice_get xs k ≡ Some (Some r)) h.unexplained old)) [
            | inl x ↦ absurd (omega (arith, x.0, is, aligned_back))
            | inr x ↦ let y : None ≡ Some r = (entry_replicate (length h.added) None (Some r) (k - length rb) x.1).1 in absurd cc
          ];
      part = added_in;
      falsified = w;
    }

    pub never_settled : IsRefutable (clauses_of content) clause → IsConsistent t' → IsWhole content' → Rule content' t' → ⊥
    never_settled r p w u = r t' p (root_closed level content' r' t' derived_root w u) (AllFalse-grown t1 t' clause (grown_from_keeps t1 t' l.prefix) h.falsified)

  pub part_of_clause : (givens literals : List ℕ) → givens ≡ h.added → literals ≡ map negated givens → All (Contains clause) literals
  part_of_clause givens literals e i = rw (i, e) (All-map (Contains clause) negated h.added h.within)

  pub whole_clause : (givens literals : List ℕ) → givens ≡ h.added → literals ≡ map negated givens → All (λ x. IsFalse (take low trail) x → ⊥) clause → All (Contains literals) clause
  whole_clause givens literals e i fresh k d b =
      let x : ℕ = get_or clause k d in
      let no : IsFalse (take low trail) x → ⊥ = fresh k d b in
      let p : Contains (tb ++ h.added) (negated x) = subst (λ (xs : List ℕ). Contains xs (negated x)) h.trail (h.falsified k d b) in
      elim (either tb h.added (negated x) p) [
        | inl q ↦ absurd (no (subst (λ (xs : List ℕ). Contains xs (negated x)) eb q))
        | inr q ↦ rw (i, e) (subst (Contains (map negated h.added)) (negated-negated x) (All-contains (λ t. Contains (map negated h.added) (negated t)) h.added (negated x) (Contains-map h.added) q))
      ]
