-- The loop that collects hints, from a false clause back to the given literals.
use Rattle.std.proofs.Common.{◌≡◌, ◌≢◌, ℕ, ◌+◌, ◌<◌, ◌≤◌, ◌⊎◌, List, [], ◌∷◌, ◌++◌, length, get_or, take, map, refl, sym, ◌∙◌, ap, inl, inr, arith, Option, Some, None, subst, false, zero, suc, pos, ℤ}
use Rattle.std.specs.Prelude.{All, AllPairs, Contains, slice_get, insert}
use Rattle.std.proofs.lemmas.Bool.{cases_eq}
use Rattle.std.proofs.lemmas.Bool.Decides.{nat_tests}
use Rattle.std.proofs.lemmas.List.{take_more, get_or_default, length-map, get_or-map}
use Rattle.std.proofs.lemmas.Option.{slice_get_within, get_or_from_slice_get}
use Rattle.std.proofs.lemmas.List.Elements.{All-push, All-cons, All-nil, All-contains, All-weaker, All-map, All-contains_itself, Contains-append_left, Contains-append_right, Contains-push, Contains-get_or}
use Rattle.clause_model.specs.Clauses.{negated, HasDistinctVariables, IsFalse, IsUnit, IsConsistent}
use Rattle.clause_model.proofs.LiteralLaws.{variables_differ, variable_of-negated}
use Rattle.clause_model.proofs.Scans.{Contains-take}
use Rattle.clause_arena.specs.Contents.{Clause, Content, IsWhole, literals_of, literals_in, references_of}
use Rattle.unit_propagation.specs.Watching.{IsReason}
use Rattle.cdcl_core.specs.Implied.{clauses_of}
use Rattle.cdcl_core.specs.Held.{AreNumbered}
use Rattle.cdcl_core.specs.Analysed.{Sees}
use Rattle.cdcl_core.specs.Hinted.{HasReasons}
use Rattle.cdcl_core.specs.Solved.{IsUsed, RefutesTidily}
use Rattle.cdcl_core.proofs.Roots.{found_at}
use Rattle.cdcl_core.proofs.Lists.{place_in}
use Rattle.unit_propagation.proofs.Attached.{none_in}

-- the clause at a place is that under the reference there
pub held_at : (content : Content) → IsWhole content → (k r : ℕ) → slice_get (references_of content) k ≡ Some r → (k < length (clauses_of content)) × (get_or (clauses_of content) k [] ≡ literals_of content r)
held_at content whole k r g =
    let cs : List Clause = content.clauses in
    let none : Clause = record { at = 0; literals = []; is_dropped = false } in
    let m : k < length (references_of content) = slice_get_within (references_of content) k r g in
    let b : k < length cs = omega (arith, length-map cs (λ (c : Clause). c.at)) in
    let is : (get_or cs k none).at ≡ r = sym (get_or-map (λ (c : Clause). c.at) cs k none r b) ∙ get_or_from_slice_get (references_of content) k r r g in
    let l : literals_of content r ≡ (get_or cs k none).literals = ap (λ (x : ℕ). literals_of content x) (sym is) ∙ ap literals_in (found_at cs k none whole.apart b) in
    (omega (arith, b, length-map cs (λ (c : Clause). c.literals)), get_or-map (λ (c : Clause). c.literals) cs k none [] b ∙ sym l)

pub named_at : (live : ℕ → Option (List ℕ)) (content : Content) → IsWhole content → (refs ids : List ℕ) (k r : ℕ) → AreNumbered live (clauses_of content) ids → refs ≡ references_of content → slice_get refs k ≡ Some r → live (get_or ids k 0) ≡ Some (literals_of content r)
named_at live content whole refs ids k r a e f =
    let w = held_at content whole k r (subst (λ (xs : List ℕ). slice_get xs k ≡ Some r) e f) in
    a k w.0 ∙ ap (λ (x : List ℕ). Some x) w.1

-- the literal stands in the trail from `at` on
abbrev pub Pending : List ℕ → ℕ → ℕ → Type 0
Pending trail at t = (q : ℕ) × (at ≤ q) × (q < length trail) × (get_or trail q 0 ≡ t)

-- each seen literal is true under a, or stands in the trail from `at` on
abbrev pub Supplied : List ℕ → ℕ → List ℕ → List ℕ → Type 0
Supplied trail at seen a = All (λ t. Contains a t ⊎ Pending trail at t) seen

-- no literal of the hint's clause is true
abbrev pub IsFresh : (ℕ → Option (List ℕ)) → List ℕ → ℕ → Type 0
IsFresh live a h = (clause : List ℕ) × (live h ≡ Some clause) × ((m : ℕ) → Contains clause m → Contains a m → ⊥)

-- the hints refute from what was given and any part of the trail before `at` that supply what is seen
pub record Certified (live : ℕ → Option (List ℕ)) (trail givens : List ℕ) (at : ℕ) (seen hints : List ℕ) : Type 0 where
  pub within : at ≤ length trail
  pub part : All (Contains trail) seen
  pub refutes : (a : List ℕ) → All (Contains (take at trail ++ givens)) a → All (Contains a) givens → Supplied trail at seen a → RefutesTidily live a hints
  pub used : All (λ t. IsUsed live (negated t) hints) seen
  pub fresh : All (IsFresh live (take at trail)) hints

-- a literal has only one place in the trail
only_place : (trail : List ℕ) → AllPairs (λ l m. l ≢ m) trail → (n q t : ℕ) → n ≤ q → q < length trail → get_or trail q 0 ≡ t → Contains (take n trail) t → ⊥
only_place trail d n q t b c e f =
    let p = place_in trail n t f in
    let j : p.0 < q = omega (arith, p.1) in
    d p.0 q 0 j c (p.3 ∙ sym e)

module _ (live : ℕ → Option (List ℕ)) (content : Content) (reasons : List (Option ℕ)) (trail givens : List ℕ) (conflict : ℕ) (h : HasReasons content reasons trail givens conflict) (consistent : IsConsistent trail) (distinct : AllPairs (λ l m. l ≢ m) trail) where
  -- at the start the contraries of the false clause's literals are seen
  pub Certified-begun : (seen : List ℕ) (number : ℕ) → Sees trail (literals_of content conflict) [] seen → live number ≡ Some (literals_of content conflict) → Certified live trail givens (length trail) seen (number ∷ [])
  Certified-begun seen number s e =
      let clause : List ℕ = literals_of content conflict in
      record {
        within = omega arith;
        part = s.part;
        refutes = λ a g i f. (
          clause,
          e,
          none_in number,
          inl (
            λ k d b. elim (All-contains (λ t. Contains a t ⊎ Pending trail (length trail) t) seen (negated (get_or clause k d)) f (s.all k d b (h.falsified.1 k d b))) [
              | inl x ↦ x
              | inr p ↦ absurd (omega (arith, p.1, p.2))
            ],
            refl,
          ),
        );
        used = All-weaker (λ t. Contains [] t ⊎ Contains clause (negated t)) (λ t. IsUsed live (negated t) (number ∷ [])) (λ t c. elim c [
          | inl x ↦ absurd (none_in t x)
          | inr x ↦ inl (clause, e, x)
        ]) seen s.only;
        fresh = All-cons (IsFresh live (take (length trail) trail)) number [] (
          clause,
          e,
          λ m p q. consistent m (Contains-take m (length trail) trail q) (All-contains (IsFalse trail) clause m h.falsified.1 p),
        ) (All-nil (IsFresh live (take (length trail) trail)));
      }

  module _ (at n : ℕ) (seen hints : List ℕ) (e : n + 1 ≡ at) (r : Certified live trail givens at seen hints) where
    below : n < length trail
    below = omega (arith, r.within)

    cut : take at trail ≡ take n trail ++ get_or trail n 0 ∷ []
    cut = rw (← e) (take_more trail n 0 below)

    front : (x : ℕ) → Contains (take n trail) x → Contains (take at trail) x
    front x p = rw cut (Contains-append_left (take n trail) (get_or trail n 0 ∷ []) x p)

    end : Contains (take at trail) (get_or trail n 0)
    end = rw cut (Contains-push (take n trail) (get_or trail n 0))

    either : (xs : List ℕ) (x : ℕ) → Contains (xs ++ givens) x → Contains xs x ⊎ Contains givens x
    either xs x p = go xs p
      where
        go : (ys : List ℕ) → Contains (ys ++ givens) x → Contains ys x ⊎ Contains givens x
        go [] q = inr q
        go (y ∷ ys) (zero, b, f) = inl (0, omega arith, f)
        go (y ∷ ys) (suc k, b, f) = elim (go ys (k, omega arith, f)) [ inl q ↦ inl (suc q.0, omega (arith, q.1), q.2) | inr q ↦ inr q ]

    wider : (x : ℕ) → Contains (take n trail ++ givens) x → Contains (take at trail ++ givens) x
    wider x p = elim (either (take n trail) x p) [
      | inl q ↦ Contains-append_left (take at trail) givens x (front x q)
      | inr q ↦ Contains-append_right (take at trail) givens x q
    ]

    fresher : (x : ℕ) → IsFresh live (take at trail) x → IsFresh live (take n trail) x
    fresher x y = (y.0, y.1, λ m p q. y.2 m p (front m q))

    pub Certified-skip : (Contains seen (get_or trail n 0) → ⊥) → Certified live trail givens n seen hints
    Certified-skip absent = record {
      within = omega (arith, r.within);
      part = r.part;
      refutes = λ a g i s. r.refutes a (All-weaker (Contains (take n trail ++ givens)) (Contains (take at trail ++ givens)) wider a g) i (λ k d b. elim (s k d b) [
        | inl f ↦ inl f
        | inr p ↦ elim (cases_eq p.0 n) [
          | inl q ↦ absurd (absent (subst (Contains seen) (sym (ap (λ (x : ℕ). get_or trail x 0) (sym q) ∙ p.3)) (Contains-get_or seen k d b)))
          | inr d' ↦ inr (p.0, omega (arith, p.1), p.2, p.3)
        ]
      ]);
      used = r.used;
      fresh = All-weaker (IsFresh live (take at trail)) (IsFresh live (take n trail)) fresher hints r.fresh;
    }

    pub Certified-given : slice_get reasons n ≡ Some None → Certified live trail givens n seen hints
    Certified-given none = record {
      within = omega (arith, r.within);
      part = r.part;
      refutes = λ a g i s. r.refutes a (All-weaker (Contains (take n trail ++ givens)) (Contains (take at trail ++ givens)) wider a g) i (λ k d b. elim (s k d b) [
        | inl f ↦ inl f
        | inr p ↦ elim (cases_eq p.0 n) [
          | inl q ↦ inl (subst (Contains a) (ap (λ (x : ℕ). get_or trail x 0) (sym q) ∙ p.3) (All-contains (Contains a) givens (get_or trail n 0) i (h.given n none)))
          | inr d' ↦ inr (p.0, omega (arith, p.1), p.2, p.3)
        ]
      ]);
      used = r.used;
      fresh = All-weaker (IsFresh live (take at trail)) (IsFresh live (take n trail)) fresher hints r.fresh;
    }

    pub Certified-next : (reason number : ℕ) (seen' : List ℕ) → slice_get reasons n ≡ Some (Some reason) → live number ≡ Some (literals_of content reason) → Contains seen (get_or trail n 0) → Sees trail (literals_of content reason) seen seen' → Certified live trail givens n seen' (number ∷ hints)
    Certified-next reason number seen' some f v i =
        let clause : List ℕ = literals_of content reason in
        let t : ℕ = get_or trail n 0 in
        let w : IsReason content trail n reason = h.because n reason some in
        record {
          within = omega (arith, r.within);
          part = i.part;
          refutes = λ a g j s.
              let in_front : (x : ℕ) → Contains a x → Contains (take n trail) x ⊎ Contains givens x = λ x p. either (take n trail) x (All-contains (Contains (take n trail ++ givens)) a x g p) in
              let unit : IsUnit a clause t = record {
                member = w.unit.member;
                unset = (
                  λ p. elim (in_front t p) [ inl q ↦ w.unit.unset.0 q | inr q ↦ h.proper n reason some q ],
                  λ p. elim (in_front (negated t) p) [
                    | inl q ↦ w.unit.unset.1 q
                    | inr q ↦ consistent t (Contains-get_or trail n 0 below) (All-contains (Contains trail) givens (negated t) h.part q)
                  ],
                );
                others = λ k d b. elim (w.unit.others k d b) [
                  | inl q ↦ inl q
                  | inr q ↦
                      let l : ℕ = get_or clause k d in
                      let has : Contains seen' (negated l) = i.all k d b (Contains-take (negated l) n trail q) in
                      elim (All-contains (λ x. Contains a x ⊎ Pending trail n x) seen' (negated l) s has) [
                        | inl x ↦ inr x
                        | inr p ↦ absurd (only_place trail distinct n p.0 (negated l) p.1 p.2 p.3 q)
                      ]
                ];
              } in (
                clause,
                f,
                once,
                inr (
                  t,
                  unit,
                  All-contains (λ x. IsUsed live (negated x) hints) seen t r.used v,
                  r.refutes (a ++ t ∷ [])
                      (All-push (Contains (take at trail ++ givens)) a t (All-weaker (Contains (take n trail ++ givens)) (Contains (take at trail ++ givens)) wider a g) (Contains-append_left (take at trail) givens t end))
                      (All-weaker (Contains a) (Contains (a ++ t ∷ [])) (λ x p. Contains-append_left a (t ∷ []) x p) givens j)
                      (λ k d b. elim (All-contains (λ x. Contains a x ⊎ Pending trail n x) seen' (get_or seen k d) s (i.grows k d b)) [
                        | inl x ↦ inl (Contains-append_left a (t ∷ []) (get_or seen k d) x)
                        | inr p ↦ elim (cases_eq p.0 n) [
                          | inl q ↦ inl (subst (Contains (a ++ t ∷ [])) (ap (λ (x : ℕ). get_or trail x 0) (sym q) ∙ p.3) (Contains-push a t))
                          | inr d' ↦ inr (p.0, omega (arith, p.1), p.2, p.3)
                        ]
                      ]),
                ),
              );
          used = All-weaker (λ x. Contains seen x ⊎ Contains clause (negated x)) (λ x. IsUsed live (negated x) (number ∷ hints)) (λ x c. elim c [
            | inl p ↦ inr (All-contains (λ y. IsUsed live (negated y) hints) seen x r.used p)
            | inr p ↦ inl (clause, f, p)
          ]) seen' i.only;
          fresh = All-cons (IsFresh live (take n trail)) number hints (
            clause,
            f,
            λ m p q. elim (All-contains (λ l. (l ≡ t) ⊎ IsFalse (take n trail) l) clause m w.unit.others p) [
              | inl z ↦ w.unit.unset.0 (subst (Contains (take n trail)) z q)
              | inr z ↦ consistent m (Contains-take m n trail q) (Contains-take (negated m) n trail z)
            ],
          ) (All-weaker (IsFresh live (take at trail)) (IsFresh live (take n trail)) fresher hints r.fresh);
        }
      where
        once : Contains hints number → ⊥
        once p =
            let y : IsFresh live (take at trail) number = All-contains (IsFresh live (take at trail)) hints number r.fresh p in
            let z : Some y.0 ≡ Some (literals_of content reason) = sym y.1 ∙ f in
            let x : y.0 ≡ literals_of content reason = cc in
            y.2 (get_or trail n 0) (subst (λ (c : List ℕ). Contains c (get_or trail n 0)) (sym x) (h.because n reason some).unit.member) end

  pub Certified-ends : (at : ℕ) (seen hints : List ℕ) → at ≤ 0 → Certified live trail givens at seen hints → RefutesTidily live givens hints
  Certified-ends at seen hints b r =
      let z : at ≡ 0 = omega arith in
      r.refutes givens (All-weaker (Contains givens) (Contains (take at trail ++ givens)) (λ x p. Contains-append_right (take at trail) givens x p) givens (All-contains_itself givens)) (All-contains_itself givens)
      (All-weaker (Contains trail) (λ t. Contains givens t ⊎ Pending trail at t) (λ t p. inr (p.0, omega arith, p.1, get_or_default trail p.0 0 t p.1 ∙ p.2)) seen r.part)

-- the same for hints as signed numbers
pub record Noted (live : ℕ → Option (List ℕ)) (trail givens : List ℕ) (at : ℕ) (seen : List ℕ) (hints : List ℤ) : Type 0 where
  pub numbers : List ℕ
  pub same : hints ≡ map pos numbers
  pub certified : Certified live trail givens at seen numbers

-- for any live clauses among which the arena's are, under their ids
pub record Noting (held : List (List ℕ)) (ids trail givens : List ℕ) (at : ℕ) (seen : List ℕ) (hints : List ℤ) : Type 0 where
  pub within : at ≤ length trail
  pub part : All (Contains trail) seen
  pub noted : (live : ℕ → Option (List ℕ)) → AreNumbered live held ids → Noted live trail givens at seen hints

pub insert_front : {X : Type 0} (x : X) (xs : List X) → insert xs 0 x ≡ x ∷ xs
insert_front x [] = refl
insert_front x (y ∷ ys) = refl

-- literals of a trail have distinct variables, and their contraries too
pub negations_distinct : (literals : List ℕ) → IsConsistent literals → AllPairs (λ l m. l ≢ m) literals → HasDistinctVariables (map negated literals)
negations_distinct literals c d i j e lt b =
    let bj : j < length literals = omega (arith, length-map literals negated) in
    let bi : i < length literals = omega arith in
    let p : get_or (map negated literals) i e ≡ negated (get_or literals i 0) = get_or-map negated literals i 0 e bi in
    let q : get_or (map negated literals) j e ≡ negated (get_or literals j 0) = get_or-map negated literals j 0 e bj in
    let l : ℕ = get_or literals i 0 in
    let m : ℕ = get_or literals j 0 in
    rw (p, q, variable_of-negated l, variable_of-negated m) (variables_differ l m (d i j 0 lt bj) (λ f. c m (Contains-get_or literals j 0 bj) (subst (Contains literals) f (Contains-get_or literals i 0 bi))))

pub negations_bounded : (literals : List ℕ) → All (λ l. l < 400000) literals → All (λ l. l < 400000) (map negated literals)
negations_bounded literals h = All-map (λ l. l < 400000) negated literals (All-weaker (λ l. l < 400000) (λ l. negated l < 400000) (λ l b. bounded l b) literals h)
  where
    bounded : (l : ℕ) → l < 400000 → negated l < 400000
    bounded l b = grind (arith, nat_tests)
