-- The loop of conflict analysis, back from a conflict to the first unique implication point.
use Rattle.std.proofs.Common.{◌≡◌, ◌≢◌, ℕ, ◌+◌, ◌-◌, ◌<◌, ◌≤◌, ◌⊎◌, List, [], ◌∷◌, ◌++◌, length, get_or, take, drop, refl, sym, ◌∙◌, ap, inl, inr, arith, Option, Some, None, subst}
use Rattle.std.specs.Prelude.{All, AllPairs, Any, Contains, slice_get}
use Rattle.std.proofs.lemmas.Bool.{cases_eq, cases_lt}
use Rattle.std.proofs.lemmas.List.{take_more, get_or_default, take_all}
use Rattle.std.proofs.lemmas.List.Elements.{All-nil, All-cons, All-head, All-tail, All-push, All-contains, All-weaker, All-contains_itself, Contains-get_or, Contains-append_left, Contains-append_right, Contains-push}
use Rattle.clause_model.specs.Clauses.{negated, IsFalse, AllFalse, IsUnit, IsOpen, IsConsistent, IsClosed}
use Rattle.clause_model.proofs.LiteralLaws.{negated-negated}
use Rattle.clause_model.proofs.Runs.{Consistent-open}
use Rattle.clause_model.proofs.Scans.{Contains-take}
use Rattle.clause_arena.specs.Contents.{Content, literals_of}
use Rattle.unit_propagation.specs.Watching.{IsReason}
use Rattle.cdcl_core.specs.Implied.{clauses_of}
use Rattle.cdcl_core.specs.Analysed.{AtConflict, LearnsFrom, Sees}
use Rattle.cdcl_core.proofs.Lists.{take_cases, place_in, placed, part_has, place_in_part}
use Rattle.cdcl_core.proofs.Roots.{open_at}

-- what a clause makes seen, one literal after the other
pub sees_none : (trail seen : List ℕ) → All (Contains trail) seen → Sees trail [] seen seen
sees_none trail seen p = record {
  part = p;
  grows = All-contains_itself seen;
  all = All-nil (λ l. IsFalse trail l → Contains seen (negated l));
  only = All-weaker (Contains seen) (λ t. Contains seen t ⊎ Contains [] (negated t)) (λ t c. inl c) seen (All-contains_itself seen);
}

pub sees_more : (trail clause before seen seen' : List ℕ) (i l m n : ℕ) → i < length clause → l ≡ get_or clause i l → m ≡ l → n ≡ negated m → Sees trail (take i clause) before seen
    → All (Contains trail) seen' → All (Contains seen') seen → (Contains trail n → Contains seen' n) → All (λ t. Contains seen t ⊎ (t ≡ n)) seen' → Sees trail (take (i + 1) clause) before seen'
sees_more trail clause before seen seen' i l m n b e z q h part grows sees only =
    let f : n ≡ negated l = q ∙ ap negated z in
    let g : take (i + 1) clause ≡ take i clause ++ l ∷ [] = rw (take_more clause i l, ← e) refl in
    record {
      part = part;
      grows = All-weaker (Contains seen) (Contains seen') (λ x c. All-contains (Contains seen') seen x grows c) before h.grows;
      all = rw g (All-push (λ x. IsFalse trail x → Contains seen' (negated x)) (take i clause) l
          (All-weaker (λ x. IsFalse trail x → Contains seen (negated x)) (λ x. IsFalse trail x → Contains seen' (negated x)) (λ x c d. All-contains (Contains seen') seen (negated x) grows (c d)) (take i clause) h.all)
          (subst (λ (x : ℕ). Contains trail x → Contains seen' x) f sees));
      only = All-weaker (λ t. Contains seen t ⊎ (t ≡ n)) (λ t. Contains before t ⊎ Contains (take (i + 1) clause) (negated t)) (λ t c. elim c [
        | inl d ↦ elim (All-contains (λ x. Contains before x ⊎ Contains (take i clause) (negated x)) seen t h.only d) [
          | inl x ↦ inl x
          | inr x ↦ inr (rw g (Contains-append_left (take i clause) (l ∷ []) (negated t) x))
        ]
        | inr d ↦ inr (rw g (subst (Contains (take i clause ++ l ∷ [])) (sym (ap negated (d ∙ f) ∙ negated-negated l)) (Contains-push (take i clause) l)))
      ]) seen' only;
    }

-- the contraries of the seen literals before `at` are refutable
pub record Resolved (clauses : List (List ℕ)) (trail : List ℕ) (start at : ℕ) (seen : List ℕ) : Type 0 where
  pub within : at ≤ length trail
  pub part : All (Contains trail) seen
  pub refutes : (a : List ℕ) → IsConsistent a → IsClosed clauses a → All (λ t. Contains (take at trail) t → Contains a t) seen → ⊥
  pub some : (q : ℕ) × (start ≤ q) × (q < at) × Contains seen (get_or trail q 0)

Consistent-take : (n : ℕ) (trail : List ℕ) → IsConsistent trail → IsConsistent (take n trail)
Consistent-take n trail h l p q = h l (Contains-take l n trail p) (Contains-take (negated l) n trail q)

-- where each literal of a unit clause that was false before is false under a, its unit is true
unit_under : (a earlier clause : List ℕ) (u : ℕ) → IsConsistent a → IsOpen a clause → All (λ l. IsFalse earlier l → IsFalse a l) clause → IsUnit earlier clause u → Contains a u
unit_under a earlier clause u h o g n =
    let others : All (λ m. (m ≡ u) ⊎ IsFalse a m) clause = (λ k d b. elim (n.others k d b) [ inl e ↦ inl e | inr f ↦ inr (g k d b f) ]) in
    elim o [
      | inl t ↦ let l : ℕ = t.1 in elim (All-contains (λ m. (m ≡ u) ⊎ IsFalse a m) clause l others (t.0, t.2, t.3)) [
        | inl e ↦ subst (Contains a) e t.4
        | inr f ↦ absurd (h l t.4 f)
      ]
      | inr w ↦ elim (All-contains (λ m. (m ≡ u) ⊎ IsFalse a m) clause w.0 others w.2.first) [
        | inl e ↦ elim (All-contains (λ m. (m ≡ u) ⊎ IsFalse a m) clause w.1 others w.2.second) [
          | inl f ↦ absurd (w.2.different (e ∙ sym f))
          | inr f ↦ absurd (w.2.second_unset.1 f)
        ]
        | inr f ↦ absurd (w.2.first_unset.1 f)
      ]
    ]

-- a false literal of the clause became so from n on, or all were false before
late_or_lower : (trail : List ℕ) (n : ℕ) (clause : List ℕ) → AllFalse trail clause → ((q : ℕ) × (n ≤ q) × (q < length trail) × Contains clause (negated (get_or trail q 0))) ⊎ AllFalse (take n trail) clause
late_or_lower trail n [] h = inr (All-nil (IsFalse (take n trail)))
late_or_lower trail n (l ∷ ls) h =
    let f : IsFalse trail l = All-head (IsFalse trail) l ls h in
    let e : get_or trail f.0 0 ≡ negated l = get_or_default trail f.0 0 (negated l) f.1 ∙ f.2 in
    elim (cases_lt f.0 n) [
      | inl b ↦ elim (late_or_lower trail n ls (All-tail (IsFalse trail) l ls h)) [
        | inl w ↦ inl (w.0, w.1, w.2, Contains-append_right (l ∷ []) ls (negated (get_or trail w.0 0)) w.3)
        | inr g ↦ inr (All-cons (IsFalse (take n trail)) l ls (subst (Contains (take n trail)) e (placed trail n f.0 b f.1)) g)
      ]
      | inr b ↦ inl (f.0, b, f.1, rw (ap negated e ∙ negated-negated l) (0, omega arith, refl))
    ]

module _ (content : Content) (reasons : List (Option ℕ)) (trail : List ℕ) (low start conflict : ℕ) (h : AtConflict content reasons trail low start conflict) (consistent : IsConsistent trail) where
  abbrev clauses : List (List ℕ)
  clauses = clauses_of content

  pub Resolved-begun : (seen : List ℕ) → Sees trail (literals_of content conflict) [] seen → Resolved clauses trail start (length trail) seen
  Resolved-begun seen s =
      let clause : List ℕ = literals_of content conflict in
      let all : All (λ l. Contains seen (negated l)) clause = (λ k d b. s.all k d b (h.falsified.1 k d b)) in
      record {
        within = omega arith;
        part = s.part;
        refutes = λ a p o f.
            let b : length trail ≤ length trail = omega arith in
            let g : All (λ t. Contains trail t → Contains a t) seen = subst (λ (xs : List ℕ). All (λ t. Contains xs t → Contains a t) seen) (take_all (length trail) trail b) f in
            Consistent-open a clause (open_at content clauses a conflict refl h.falsified.0 o)
            (All-weaker (λ l. Contains seen (negated l)) (IsFalse a) (λ l c. All-contains (λ t. Contains trail t → Contains a t) seen (negated l) g c (All-contains (Contains trail) seen (negated l) s.part c)) clause all) p;
        some = elim (late_or_lower trail start clause h.falsified.1) [
          | inl w ↦ (w.0, w.1, w.2, subst (Contains seen) (negated-negated (get_or trail w.0 0)) (All-contains (λ l. Contains seen (negated l)) clause (negated (get_or trail w.0 0)) all w.3))
          | inr f ↦ absurd (Consistent-open (take start trail) clause (open_at content clauses (take start trail) conflict refl h.falsified.0 h.closed) f (Consistent-take start trail consistent))
        ];
      }

  module _ (at n : ℕ) (seen : List ℕ) (e : n + 1 ≡ at) (r : Resolved clauses trail start at seen) where
    below : n < length trail
    below = omega (arith, r.within)

    pub Resolved-skip : (Contains seen (get_or trail n 0) → ⊥) → Resolved clauses trail start n seen
    Resolved-skip absent = record {
      within = omega (arith, r.within);
      part = r.part;
      refutes = λ a p o f. r.refutes a p o (λ k d b g. elim (take_cases (get_or seen k d) n at trail e below g) [
        | inl z ↦ f k d b z
        | inr q ↦ absurd (absent (rw q (Contains-get_or seen k d b)))
      ]);
      some = (r.some.0, r.some.1, elim (cases_eq r.some.0 n) [ inl q ↦ absurd (absent (subst (λ (x : ℕ). Contains seen (get_or trail x 0)) q r.some.3)) | inr d ↦ omega (arith, r.some.2) ], r.some.3);
    }

    pub Resolved-next : (reason : ℕ) (seen' : List ℕ) → IsReason content trail n reason → Sees trail (literals_of content reason) seen seen' → ((q : ℕ) × (start ≤ q) × (q < n) × Contains seen (get_or trail q 0)) → Resolved clauses trail start n seen'
    Resolved-next reason seen' w i s = record {
      within = omega (arith, r.within);
      part = i.part;
      refutes = λ a p o f.
          let clause : List ℕ = literals_of content reason in
          let g : All (λ l. IsFalse (take n trail) l → IsFalse a l) clause = (λ k d b x. All-contains (λ t. Contains (take n trail) t → Contains a t) seen' (negated (get_or clause k d)) f (i.all k d b (Contains-take (negated (get_or clause k d)) n trail x)) x) in
          let t : Contains a (get_or trail n 0) = unit_under a (take n trail) clause (get_or trail n 0) p (open_at content clauses a reason refl w.clause o) g w.unit in
          r.refutes a p o (λ k d b z. elim (take_cases (get_or seen k d) n at trail e below z) [
            | inl y ↦ All-contains (λ t. Contains (take n trail) t → Contains a t) seen' (get_or seen k d) f (i.grows k d b) y
            | inr q ↦ subst (Contains a) q t
          ]);
      some = (s.0, s.1, s.2, All-contains (Contains seen') seen (get_or trail s.0 0) i.grows s.3);
    }

    -- where no other literal of this level is seen, the contrary of the one at n is the asserting literal
    pub Resolved-learns : (u : ℕ) (others : List ℕ) → u ≡ negated (get_or trail n 0) → start ≤ n → AllPairs (λ l m. l ≢ m) trail → ((q : ℕ) → start ≤ q → q < n → Contains seen (get_or trail q 0) → ⊥)
        → All (λ t. Contains seen t → Contains others (negated t)) (take (start - low) (drop low trail)) → AllFalse (take (start - low) (drop low trail)) others → LearnsFrom clauses trail low start u others
    Resolved-learns u others i b distinct alone all f =
        let m : start ≤ length trail = omega (arith, below) in
        let part : List ℕ = take (start - low) (drop low trail) in
        record {
          refutable = λ a p o z. r.refutes a p o (λ k d c g. elim (take_cases (get_or seen k d) n at trail e below g) [
            | inl y ↦
                let x : ℕ = get_or seen k d in
                let pl = place_in trail n x y in
                let is : get_or trail pl.0 0 ≡ x = pl.3 in
                let sees : Contains seen (get_or trail pl.0 0) = subst (Contains seen) (sym is) (Contains-get_or seen k d c) in
                elim (cases_lt pl.0 start) [
                  | inl s ↦ elim (cases_lt pl.0 low) [
                    | inl v ↦ All-contains (Contains a) (take low trail) x (h.forced a p o) (subst (Contains (take low trail)) is (placed trail low pl.0 v pl.2))
                    | inr v ↦
                        let has : Contains others (negated (get_or trail pl.0 0)) = All-contains (λ t. Contains seen t → Contains others (negated t)) part (get_or trail pl.0 0) all (part_has trail low start pl.0 v s m) sees in
                        subst (Contains a) (negated-negated (get_or trail pl.0 0) ∙ is) (All-contains (IsFalse a) others (negated (get_or trail pl.0 0)) (All-tail (IsFalse a) u others z) has)
                  ]
                  | inr s ↦ absurd (alone pl.0 s pl.1 sees)
                ]
            | inr q ↦ subst (Contains a) (ap negated i ∙ negated-negated (get_or trail n 0) ∙ q) (All-head (IsFalse a) u others z)
          ]);
          unset = (
            λ p. consistent (get_or trail n 0) (Contains-get_or trail n 0 below) (subst (Contains trail) i (Contains-take u start trail p)),
            λ p. not_before start b (subst (Contains (take start trail)) (ap negated i ∙ negated-negated (get_or trail n 0)) p),
          );
          lower = All-weaker (IsFalse part) (IsFalse (take start trail)) (λ l c. let pl = place_in_part trail low start (negated l) m c in subst (Contains (take start trail)) pl.3 (placed trail start pl.0 pl.2 (omega (arith, pl.2)))) others f;
          falsified = subst (Contains trail) (sym (ap negated i ∙ negated-negated (get_or trail n 0))) (Contains-get_or trail n 0 below);
          fresh = All-cons (λ l. IsFalse (take low trail) l → ⊥) u others (λ p. not_before low (omega (arith, b, h.order)) (subst (Contains (take low trail)) (ap negated i ∙ negated-negated (get_or trail n 0)) p))
              (All-weaker (IsFalse part) (λ l. IsFalse (take low trail) l → ⊥) (λ l c p.
              let pl = place_in_part trail low start (negated l) m c in
              let pr = place_in trail low (negated l) p in
              let lt : pr.0 < pl.0 = omega (arith, pr.1, pl.1) in
              distinct pr.0 pl.0 0 lt (omega (arith, pl.2)) (pr.3 ∙ sym pl.3)) others f);
        }
      where
        not_before : (s : ℕ) → s ≤ n → Contains (take s trail) (get_or trail n 0) → ⊥
        not_before s c x =
            let pl = place_in trail s (get_or trail n 0) x in
            let lt : pl.0 < n = omega (arith, pl.1) in
            distinct pl.0 n 0 lt below pl.3

    -- a seen literal of this level that isn't the only one has a reason
    pub has_reason : (q : ℕ) → start ≤ q → q < n → slice_get reasons n ≡ Some None → ⊥
    has_reason q b c s = h.later n (omega arith) (omega (arith, h.aligned, below)) s

-- no seen literal in the part of the trail from `start` to n
pub none_seen : (trail seen : List ℕ) (start n : ℕ) → n ≤ length trail → (Any (Contains seen) (take (n - start) (drop start trail)) → ⊥) → (q : ℕ) → start ≤ q → q < n → Contains seen (get_or trail q 0) → ⊥
none_seen trail seen start n b h q c d p = let w = part_has trail start n q c d b in h (w.0, get_or trail q 0, w.1, w.2, p)

pub some_seen : (trail seen : List ℕ) (start n : ℕ) → n ≤ length trail → Any (Contains seen) (take (n - start) (drop start trail)) → (q : ℕ) × (start ≤ q) × (q < n) × Contains seen (get_or trail q 0)
some_seen trail seen start n b h =
    let w = place_in_part trail start n h.1 b (h.0, h.2, h.3) in
    (w.0, w.1, w.2, subst (Contains seen) (sym w.3) h.4)

-- the contraries of the seen literals so far
pub record Turned (seen part whole found : List ℕ) : Type 0 where
  pub all : All (λ t. Contains seen t → Contains found (negated t)) part
  pub only : AllFalse whole found

pub turned_none : (seen whole found : List ℕ) → found ≡ [] → Turned seen [] whole found
turned_none seen whole found e = record { all = All-nil (λ t. Contains seen t → Contains found (negated t)); only = rw e (All-nil (IsFalse whole)) }

pub turned_skip : (seen whole found : List ℕ) (i l : ℕ) → i < length whole → l ≡ get_or whole i l → (Contains seen l → ⊥) → Turned seen (take i whole) whole found → Turned seen (take (i + 1) whole) whole found
turned_skip seen whole found i l b e absent h = record {
  all = rw (take_more whole i l, ← e) (All-push (λ t. Contains seen t → Contains found (negated t)) (take i whole) l h.all (λ p. absurd (absent p)));
  only = h.only;
}

pub turned_more : (seen whole found found' : List ℕ) (i l n : ℕ) → i < length whole → l ≡ get_or whole i l → n ≡ negated l → found' ≡ found ++ n ∷ [] → Turned seen (take i whole) whole found → Turned seen (take (i + 1) whole) whole found'
turned_more seen whole found found' i l n b e q f h = rw f record {
  all = rw (take_more whole i l, ← e) (All-push (λ t. Contains seen t → Contains (found ++ n ∷ []) (negated t)) (take i whole) l
      (All-weaker (λ t. Contains seen t → Contains found (negated t)) (λ t. Contains seen t → Contains (found ++ n ∷ []) (negated t)) (λ t g p. Contains-append_left found (n ∷ []) (negated t) (g p)) (take i whole) h.all)
      (λ _. subst (Contains (found ++ n ∷ [])) q (Contains-push found n)));
  only = All-push (IsFalse whole) found n h.only (subst (Contains whole) (sym (ap negated q ∙ negated-negated l)) (i, b, sym e));
}

-- a clause that is read anew, with nothing seen before
pub sees_clause : (trail clause literals before seen : List ℕ) → before ≡ [] → literals ≡ clause → Sees trail literals before seen → Sees trail clause [] seen
sees_clause trail clause literals before seen e f s = subst (λ (xs : List ℕ). Sees trail xs [] seen) f (subst (λ (xs : List ℕ). Sees trail literals xs seen) e s)

pub read_at : (shown trail : List ℕ) (n l : ℕ) → n < length trail → shown ≡ trail → l ≡ get_or shown n l → l ≡ get_or trail n 0
read_at shown trail n l b e f = f ∙ (ap (λ (xs : List ℕ). get_or xs n l) e ∙ get_or_default trail n l 0 b)
