-- Dropped clauses stay spare: each has a true literal and is no reason, also after more literals became true.
use Rattle.std.proofs.Common.{◌≡◌, ◌≢◌, ℕ, ◌<◌, ◌≤◌, ◌⊎◌, List, [], ◌∷◌, ◌++◌, length, length-append, get_or, take, map, refl, sym, ◌∙◌, ap, inl, inr, arith, Option, Some, None, subst, Bool, true, false, nat_eq}
use Rattle.std.specs.Prelude.{All, AllPairs, Any, Contains, slice_get, cond}
use Rattle.std.proofs.lemmas.Bool.{cases_eq, cases_lt}
use Rattle.std.proofs.lemmas.Bool.Decides.{nat_tests}
use Rattle.std.proofs.lemmas.List.{map_push, get_or_push, get_or_append_left, get_or_default, take-take}
use Rattle.std.proofs.lemmas.List.Elements.{All-contains, Contains-push_cases, Contains-append_left}
use Rattle.std.proofs.lemmas.Option.{slice_get_within}
use Rattle.clause_model.specs.Clauses.{negated, IsFalse, IsUnit, IsConsistent}
use Rattle.clause_arena.specs.Contents.{Clause, Content, HasClause, IsWhole, literals_of, literals_in, clause_among, dropped_in, is_dropped_of, references_of, dropped, with_dropped}
use Rattle.unit_propagation.specs.Watching.{IsWatched, IsReason, IsAdded, IsLater}
use Rattle.unit_propagation.proofs.Steps.{Contains-part, Contains-cases}
use Rattle.cdcl_core.specs.Implied.{clauses_of, IsSpare, AreSpare}
use Rattle.cdcl_core.specs.Searched.{IsBase}
use Rattle.cdcl_core.proofs.Lists.{entry_cases, entry_take}
use Rattle.cdcl_core.proofs.Roots.{found_at, spare_same}
use Rattle.clause_arena.proofs.Copies.{among_earlier as among_more}
use Rattle.unit_propagation.proofs.Attached.{none_in}

pub any_in : (a b clause : List ℕ) → ((x : ℕ) → Contains a x → Contains b x) → Any (Contains a) clause → Any (Contains b) clause
any_in a b clause w t = (t.0, t.1, t.2, t.3, w t.1 t.4)

last_among : (cs : List Clause) (d : Clause) → AllPairs (λ r s. r < s) (map (λ (c : Clause). c.at) (cs ++ d ∷ [])) → clause_among (cs ++ d ∷ []) d.at ≡ Some d
last_among cs d h =
    let g : get_or (cs ++ d ∷ []) (length cs) d ≡ d = get_or_push cs d d (length cs) refl in
    subst (λ (x : Clause). clause_among (cs ++ d ∷ []) x.at ≡ Some x) g (found_at (cs ++ d ∷ []) (length cs) d h (omega (arith, length-append cs (d ∷ []))))

-- the last reference is greater than the others
before_last : (xs : List ℕ) (at r : ℕ) → AllPairs (λ r s. r < s) (xs ++ at ∷ []) → Contains xs r → r < at
before_last xs at r h c =
    let b : c.0 < length xs = c.1 in
    let q : get_or (xs ++ at ∷ []) c.0 0 < get_or (xs ++ at ∷ []) (length xs) 0 = h c.0 (length xs) 0 b (omega (arith, length-append xs (at ∷ []))) in
    let x : get_or (xs ++ at ∷ []) c.0 0 ≡ r = get_or_append_left xs (at ∷ []) 0 c.0 b ∙ (get_or_default xs c.0 0 r b ∙ c.2) in
    let y : get_or (xs ++ at ∷ []) (length xs) 0 ≡ at = get_or_push xs at 0 (length xs) refl in
    omega (arith, q, x, y)

module _ (content content' : Content) (at : ℕ) (literals : List ℕ) (d : IsAdded content at literals content') (whole : IsWhole content') (reasons : List (Option ℕ)) (trail : List ℕ) (s : AreSpare content reasons trail) where
  abbrev new : Clause
  new = record { at = at; literals = literals; is_dropped = false }

  references : references_of content' ≡ references_of content ++ at ∷ []
  references = ap (λ (cs : List Clause). map (λ (c : Clause). c.at) cs) d.clauses ∙ map_push (λ (c : Clause). c.at) content.clauses new

  new_live : is_dropped_of content' at ≡ false
  new_live =
      let up : AllPairs (λ r s. r < s) (map (λ (c : Clause). c.at) (content.clauses ++ new ∷ [])) = subst (λ (cs : List Clause). AllPairs (λ r s. r < s) (map (λ (c : Clause). c.at) cs)) d.clauses whole.apart in
      ap (λ (cs : List Clause). dropped_in (clause_among cs at)) d.clauses ∙ ap dropped_in (last_among content.clauses new up)

  old_spare : (r : ℕ) → HasClause content r → is_dropped_of content' r ≡ true → IsSpare content' reasons trail r
  old_spare r o f =
      let same : is_dropped_of content' r ≡ is_dropped_of content r = ap (λ (cs : List Clause). dropped_in (clause_among cs r)) d.clauses ∙ ap dropped_in (among_more content.clauses new r o) in
      let w : IsSpare content reasons trail r = s r o (sym same ∙ f) in
      (w.0, subst (λ (ls : List ℕ). Any (Contains trail) ls) (sym (d.old_literals r o).1) w.1)

  not_new : (r : ℕ) → at ≡ r → is_dropped_of content' r ≡ true → ⊥
  not_new r e f = let z : false ≡ true = sym new_live ∙ (ap (λ (x : ℕ). is_dropped_of content' x) e ∙ f) in absurd cc

  pub spare_added : AreSpare content' reasons trail
  spare_added r c f = elim (Contains-push_cases (references_of content) at r (subst (λ (xs : List ℕ). Contains xs r) references c)) [
    | inl o ↦ old_spare r o f
    | inr e ↦ absurd (not_new r e f)
  ]

  -- also where the new clause makes a literal true
  pub spare_unit : (l : ℕ) (reasons' : List (Option ℕ)) (trail' : List ℕ) → reasons' ≡ reasons ++ Some at ∷ [] → trail' ≡ trail ++ l ∷ [] → AreSpare content' reasons' trail'
  spare_unit l reasons' trail' g i r c f = elim (Contains-push_cases (references_of content) at r (subst (λ (xs : List ℕ). Contains xs r) references c)) [
    | inl o ↦
        let w : IsSpare content' reasons trail r = old_spare r o f in
        let lt : r < at = before_last (references_of content) at r (subst (AllPairs (λ r s. r < s)) references whole.apart) o in (
          λ k q. elim (entry_cases reasons (Some at) (Some r) k (subst (λ (xs : List (Option ℕ)). slice_get xs k ≡ Some (Some r)) g q)) [
            | inl x ↦ w.0 k x.1
            | inr x ↦
                let y : Some at ≡ Some r = x.1 in
                let z : at ≡ r = cc in
                absurd (omega (arith, lt, z))
          ],
          rw i (any_in trail (trail ++ l ∷ []) (literals_of content' r) (λ x p. Contains-append_left trail (l ∷ []) x p) w.1),
        )
    | inr e ↦ absurd (not_new r e f)
  ]

-- a clause with a true literal doesn't become a reason
pub spare_later : (content content' : Content) (reasons reasons' : List (Option ℕ)) (trail trail' : List ℕ) → IsLater content trail reasons content' trail' reasons' → IsConsistent trail' → AreSpare content reasons trail → AreSpare content' reasons' trail'
spare_later content content' reasons reasons' trail trail' l consistent s r c f =
    let w : IsSpare content' reasons trail r = spare_same content content' reasons trail l.clauses s r c f in
    let t = w.1 in
    let m : ℕ = t.1 in
    let early : (k : ℕ) → length trail ≤ k → (x : ℕ) → Contains trail x → Contains (take k trail') x = λ k b x p.
    Contains-part (length trail) (take k trail') x (subst (λ (xs : List ℕ). Contains xs x) (sym l.prefix ∙ sym (take-take (length trail) k trail' b)) p) in (
      λ k q. elim (cases_lt k (length trail)) [
        | inl b ↦ w.0 k (subst (λ (xs : List (Option ℕ)). slice_get xs k ≡ Some (Some r)) l.reasons_kept (entry_take reasons' k (length trail) (Some r) b q))
        | inr b ↦
            let n : k < length reasons' = slice_get_within reasons' k (Some r) q in
            let y = l.because k b (omega (arith, n, l.aligned)) in
            let z : Some (Some y.0) ≡ Some (Some r) = sym y.1 ∙ q in
            let is : y.0 ≡ r = cc in
            let reason : IsReason content' trail' k r = subst (IsReason content' trail' k) is y.2 in
            elim (All-contains (λ x. (x ≡ get_or trail' k 0) ⊎ IsFalse (take k trail') x) (literals_of content' r) m reason.unit.others (t.0, t.2, t.3)) [
              | inl e ↦ reason.unit.unset.0 (subst (Contains (take k trail')) e (early k b m t.4))
              | inr e ↦ consistent m (Contains-part k trail' m (early k b m t.4)) (Contains-part k trail' (negated m) e)
            ]
      ],
      any_in trail trail' (literals_of content' r) (λ x p. Contains-part (length trail) trail' x (subst (λ (xs : List ℕ). Contains xs x) (sym l.prefix) p)) t,
    )

-- a mark changes neither references nor literals
abbrev marked : Bool → Clause → Clause
marked b c = cond b (record { at = c.at; literals = c.literals; is_dropped = true }) c

marked_at : (b : Bool) (c : Clause) → (marked b c).at ≡ c.at
marked_at true c = refl
marked_at false c = refl

marked_literals : (b : Bool) (c : Clause) → (marked b c).literals ≡ c.literals
marked_literals true c = refl
marked_literals false c = refl

dropped_references : (cs : List Clause) (at : ℕ) → map (λ (c : Clause). c.at) (map (dropped at) cs) ≡ map (λ (c : Clause). c.at) cs
dropped_references [] at = refl
dropped_references (c ∷ cs) at = ap (λ (x : ℕ). x ∷ map (λ (d : Clause). d.at) (map (dropped at) cs)) (marked_at (nat_eq c.at at) c) ∙ ap (λ (xs : List ℕ). c.at ∷ xs) (dropped_references cs at)

dropped_clauses : (cs : List Clause) (at : ℕ) → map (λ (c : Clause). c.literals) (map (dropped at) cs) ≡ map (λ (c : Clause). c.literals) cs
dropped_clauses [] at = refl
dropped_clauses (c ∷ cs) at = ap (λ (x : List ℕ). x ∷ map (λ (d : Clause). d.literals) (map (dropped at) cs)) (marked_literals (nat_eq c.at at) c) ∙ ap (λ (xs : List (List ℕ)). c.literals ∷ xs) (dropped_clauses cs at)

first_literals : (b d : Bool) (c : Clause) (rest rest' : Option Clause) → literals_in rest ≡ literals_in rest' → literals_in (cond d (Some (marked b c)) rest) ≡ literals_in (cond d (Some c) rest')
first_literals true true c rest rest' e = refl
first_literals true false c rest rest' e = e
first_literals false true c rest rest' e = refl
first_literals false false c rest rest' e = e

dropped_literals : (cs : List Clause) (at r : ℕ) → literals_in (clause_among (map (dropped at) cs) r) ≡ literals_in (clause_among cs r)
dropped_literals [] at r = refl
dropped_literals (c ∷ cs) at r =
    ap (λ (x : ℕ). literals_in (cond (nat_eq x r) (Some (marked (nat_eq c.at at) c)) (clause_among (map (dropped at) cs) r))) (marked_at (nat_eq c.at at) c)
    ∙ first_literals (nat_eq c.at at) (nat_eq c.at r) c (clause_among (map (dropped at) cs) r) (clause_among cs r) (dropped_literals cs at r)

-- the mark found is the clause's own
first_other : (d : Bool) (c : Clause) (rest rest' : Option Clause) → dropped_in rest ≡ dropped_in rest' → dropped_in (cond d (Some c) rest) ≡ dropped_in (cond d (Some c) rest')
first_other true c rest rest' e = refl
first_other false c rest rest' e = e

dropped_other : (cs : List Clause) (at r : ℕ) → r ≢ at → dropped_in (clause_among (map (dropped at) cs) r) ≡ dropped_in (clause_among cs r)
dropped_other [] at r n = refl
dropped_other (c ∷ cs) at r n = elim (cases_eq c.at at) [
  | inl e ↦
      let z : nat_eq c.at at ≡ true = grind (arith, nat_tests) in
      let m : c.at ≢ r = λ q. n (sym q ∙ e) in
      let y : nat_eq c.at r ≡ false = grind (arith, nat_tests) in
      rw (z, y) (dropped_other cs at r n)
  | inr e ↦
      let z : nat_eq c.at at ≡ false = grind (arith, nat_tests) in
      rw z (first_other (nat_eq c.at r) c (clause_among (map (dropped at) cs) r) (clause_among cs r) (dropped_other cs at r n))
]

dropped_here : (cs : List Clause) (at : ℕ) → Contains (map (λ (c : Clause). c.at) cs) at → dropped_in (clause_among (map (dropped at) cs) at) ≡ true
dropped_here [] at h = absurd (none_in at h)
dropped_here (c ∷ cs) at h = elim (cases_eq c.at at) [
  | inl e ↦ let z : nat_eq c.at at ≡ true = grind (arith, nat_tests) in rw (z, z) refl
  | inr n ↦
      let z : nat_eq c.at at ≡ false = grind (arith, nat_tests) in
      rw (z, z) (elim (Contains-cases c.at (map (λ (x : Clause). x.at) cs) at h) [ inl e ↦ absurd (n e) | inr g ↦ dropped_here cs at g ])
]

-- a spare clause is dropped
module _ (clauses : List (List ℕ)) (size : ℕ) (content : Content) (refs : List ℕ) (reasons : List (Option ℕ)) (trail : List ℕ) (b : IsBase clauses size content refs reasons trail None)
    (at : ℕ) (within : HasClause content at) (spare : IsSpare content reasons trail at) (later : Content) (e : later ≡ with_dropped content at) where
  pub literals_same : (r : ℕ) → literals_of later r ≡ literals_of content r
  literals_same r = ap (λ (c : Content). literals_of c r) e ∙ dropped_literals content.clauses at r

  references_same : references_of later ≡ references_of content
  references_same = ap references_of e ∙ dropped_references content.clauses at

  was : (r : ℕ) → HasClause later r → HasClause content r
  was r c = subst (λ (xs : List ℕ). Contains xs r) references_same c

  is : (r : ℕ) → HasClause content r → HasClause later r
  is r c = subst (λ (xs : List ℕ). Contains xs r) (sym references_same) c

  chains_same : later.chains ≡ content.chains
  chains_same = ap (λ (c : Content). c.chains) e

  pub flag_here : is_dropped_of later at ≡ true
  flag_here = ap (λ (c : Content). is_dropped_of c at) e ∙ dropped_here content.clauses at within

  pub flag_other : (r : ℕ) → r ≢ at → is_dropped_of later r ≡ is_dropped_of content r
  flag_other r n = ap (λ (c : Content). is_dropped_of c r) e ∙ dropped_other content.clauses at r n

  watched_same : (r : ℕ) → IsWatched content r → IsWatched later r
  watched_same r d = rw e record {
    first = d.first;
    second = d.second;
    watches_first = d.watches_first;
    watches_second = d.watches_second;
    different = d.different;
    first_in = subst (λ (xs : List ℕ). Contains xs d.first) (sym (dropped_literals content.clauses at r)) d.first_in;
    second_in = subst (λ (xs : List ℕ). Contains xs d.second) (sym (dropped_literals content.clauses at r)) d.second_in;
  }

  pub base_dropped : IsBase clauses size later refs reasons trail None
  base_dropped = record {
    clauses_are = ap clauses_of e ∙ (dropped_clauses content.clauses at ∙ b.clauses_are);
    size_is = ap length chains_same ∙ b.size_is;
    numbered_by = b.numbered_by ∙ sym references_same;
    attached = λ r slot l w. watched_same r (b.attached r slot l (subst (λ (cs : List (List (ℕ × ℕ))). (l < length cs) × Contains (get_or cs l []) (r, slot)) chains_same w));
    known = record {
      literals = λ r l c i. subst (λ (cs : List (List (ℕ × ℕ))). l < length cs) (sym chains_same) (b.known.literals r l (was r c) (subst (λ (ls : List ℕ). Contains ls l) (literals_same r) i));
      contrary = λ l c. subst (λ (cs : List (List (ℕ × ℕ))). negated l < length cs) (sym chains_same) (b.known.contrary l (subst (λ (cs : List (List (ℕ × ℕ))). l < length cs) chains_same c));
    };
    literals = subst (λ (cs : List (List (ℕ × ℕ))). All (λ l. l < length cs) trail) (sym chains_same) b.literals;
    justified = record {
      aligned = b.justified.aligned;
      because = λ k r q. let o : IsReason content trail k r = b.justified.because k r q in record { clause = is r o.clause; unit = subst (λ (ls : List ℕ). IsUnit (take k trail) ls (get_or trail k 0)) (sym (literals_same r)) o.unit };
      given = b.justified.given;
    };
    covered = λ _ r c. elim (b.covered refl r (was r c)) [
      | inl d ↦ inl (watched_same r d)
      | inr t ↦ inr (subst (λ (ls : List ℕ). Any (Contains trail) ls) (sym (literals_same r)) t)
    ];
    spare = λ _ r c f.
        let w : IsSpare content reasons trail r = elim (cases_eq r at) [
          | inl q ↦ subst (IsSpare content reasons trail) (sym q) spare
          | inr n ↦ b.spare refl r (was r c) (sym (flag_other r n) ∙ f)
        ] in
        (w.0, subst (λ (ls : List ℕ). Any (Contains trail) ls) (sym (literals_same r)) w.1);
    falsified = λ r z. absurd cc;
  }
