-- The search by literals' lists finds each contained clause, and looks at no more than all clauses.
use Rattle.std.proofs.Common.{◌≡◌, ◌≢◌, ℕ, ◌+◌, ◌<◌, ◌≤◌, ◌⊎◌, inl, inr, List, [], ◌∷◌, ◌++◌, length, get_or, take, set, sym, ◌∙◌, ap, subst, arith, refl, suc, Bool, true, false}
use Rattle.std.specs.Prelude.{All, AllPairs, Any, Contains, Vec, sum_by, IsTrue, ◌↔◌}
use Rattle.std.specs.Global.{Global}
use Rattle.std.proofs.lemmas.Bool.{cases_eq, cases_lt, true≢false}
use Rattle.std.proofs.lemmas.List.{get_or_past, set_past, get_or-set_other, get_or-set_same, take_all, take_more, get_or-map, map-set, length-map}
use Rattle.std.proofs.lemmas.List.Elements.{All-nil, All-contains, All-weaker, All-push, All-more, Contains-get_or, Contains-append_left, Contains-push, Contains-push_cases}
use Rattle.std.proofs.lemmas.List.Sums.{sum_by-cons, sum_by-set, sum_by_push, sum_by_more, sum_by-take-le}
use Rattle.clause_model.specs.Clauses.{IsNew}
use Rattle.lrat_check.specs.Lists.{ClauseLists, Holds, Keeps, listed, under}

-- the sums of lists at different places are at most the sum of all
module _ {X : Type 0} (f : X → ℕ) (d : X) (none : f d ≡ 0) where
  without_place : (xs : List X) (l : ℕ) → sum_by f (set xs l d) + f (get_or xs l d) ≡ sum_by f xs
  without_place xs l = elim (cases_lt l (length xs)) [
    | inl b ↦ let s : sum_by f (set xs l d) + f (get_or xs l d) ≡ sum_by f xs + f d = sum_by-set f xs l d d b in omega (arith, s, none)
    | inr b ↦ rw (set_past xs l d b, get_or_past xs l d b, none) (omega arith)
  ]

  others_same : (xs : List X) (l : ℕ) (ls : List ℕ) → All (λ m. m ≢ l) ls → sum_by (λ m. f (get_or (set xs l d) m d)) ls ≡ sum_by (λ m. f (get_or xs m d)) ls
  others_same xs l [] h = refl
  others_same xs l (m ∷ ms) h =
      let here : f (get_or (set xs l d) m d) ≡ f (get_or xs m d) = ap f (get_or-set_other xs l m d d (h 0 0 (omega arith))) in
      let rest : sum_by (λ n. f (get_or (set xs l d) n d)) ms ≡ sum_by (λ n. f (get_or xs n d)) ms = others_same xs l ms (λ k e b. h (suc k) e (omega arith)) in
      let before : sum_by (λ n. f (get_or (set xs l d) n d)) (m ∷ ms) ≡ f (get_or (set xs l d) m d) + sum_by (λ n. f (get_or (set xs l d) n d)) ms = sum_by-cons (λ n. f (get_or (set xs l d) n d)) m ms in
      let after : sum_by (λ n. f (get_or xs n d)) (m ∷ ms) ≡ f (get_or xs m d) + sum_by (λ n. f (get_or xs n d)) ms = sum_by-cons (λ n. f (get_or xs n d)) m ms in
      omega (arith, here, rest, before, after)

  pub places_within : (xs : List X) (ls : List ℕ) → AllPairs (λ l m. l ≢ m) ls → sum_by (λ l. f (get_or xs l d)) ls ≤ sum_by f xs
  places_within xs [] h = omega arith
  places_within xs (l ∷ ls) h =
      let apart : All (λ m. m ≢ l) ls = λ k e b same. h 0 (suc k) e (omega arith) (omega arith) (sym same) in
      let rest : sum_by (λ m. f (get_or (set xs l d) m d)) ls ≤ sum_by f (set xs l d) = places_within (set xs l d) ls (λ i j e a b. h (suc i) (suc j) e (omega arith) (omega arith)) in
      let same : sum_by (λ m. f (get_or (set xs l d) m d)) ls ≡ sum_by (λ m. f (get_or xs m d)) ls = others_same xs l ls apart in
      let all : sum_by (λ m. f (get_or xs m d)) (l ∷ ls) ≡ f (get_or xs l d) + sum_by (λ m. f (get_or xs m d)) ls = sum_by-cons (λ m. f (get_or xs m d)) l ls in
      let whole : sum_by f (set xs l d) + f (get_or xs l d) ≡ sum_by f xs = without_place xs l in
      omega (arith, rest, same, all, whole)

-- the lengths looked at in the lists of different literals are at most all
pub looked_within : (lists : List (List (List ℕ))) (members : List ℕ) (i : ℕ) → AllPairs (λ l m. l ≢ m) members → sum_by (λ l. sum_by length (under lists l)) (take i members) ≤ sum_by (sum_by length) lists
looked_within lists members i h =
    let all : sum_by (λ l. sum_by length (under lists l)) members ≤ sum_by (sum_by length) lists = places_within (sum_by length) [] refl lists members h in
    let part : sum_by (λ l. sum_by length (under lists l)) (take i members) ≤ sum_by (λ l. sum_by length (under lists l)) members = sum_by-take-le (λ l. sum_by length (under lists l)) members i in
    omega (arith, all, part)

-- the loop through the lists of the literals
module _ (lists : List (List (List ℕ))) (members literals : List ℕ) (i l : ℕ) (b : i < length literals) (e : l ≡ get_or literals i l) where
  pub list_fails : literals ≡ members → (IsNew (under lists l) members → ⊥) → All (λ m. IsNew (under lists m) members) members → ⊥
  list_fails q n h = n (subst (λ (m : ℕ). IsNew (under lists m) members) (sym e) (subst (All (λ m. IsNew (under lists m) members)) (sym q) h i l b))

  pub list_more : All (λ m. IsNew (under lists m) members) (take i literals) → IsNew (under lists l) members → All (λ m. IsNew (under lists m) members) (take (i + 1) literals)
  list_more h n = All-more (λ m. IsNew (under lists m) members) literals i l b h (subst (λ (m : ℕ). IsNew (under lists m) members) e n)

  pub looked_more : (before after start : ℕ) → before ≤ start + sum_by (λ m. sum_by length (under lists m)) (take i literals) → after ≤ before + sum_by length (under lists l) → after ≤ start + sum_by (λ m. sum_by length (under lists m)) (take (i + 1) literals)
  looked_more before after start h k =
      let s : sum_by (λ m. sum_by length (under lists m)) (take (i + 1) literals) ≡ sum_by (λ m. sum_by length (under lists m)) (take i literals) + sum_by length (under lists (get_or literals i l)) = sum_by_more (λ m. sum_by length (under lists m)) literals i l b in
      let t : sum_by length (under lists l) ≡ sum_by length (under lists (get_or literals i l)) = ap (λ m. sum_by length (under lists m)) e in
      omega (arith, h, k, s, t)

pub all_looked : (lists : List (List (List ℕ))) (members literals : List ℕ) (i : ℕ) → length literals ≤ i → literals ≡ members → All (λ m. IsNew (under lists m) members) (take i literals) → All (λ m. IsNew (under lists m) members) members
all_looked lists members literals i b q h = subst (All (λ m. IsNew (under lists m) members)) (take_all i literals b ∙ q) h

-- a clause that is contained in the members is in the list of one of them
pub new_all_lists : (kept : ClauseLists) (clauses : List (List ℕ)) (members : List ℕ) → Holds kept clauses → kept.has_empty ≡ false → All (λ l. IsNew (under kept.lists l) members) members → IsNew clauses members
new_all_lists kept clauses members h e n i d b part =
    elim (h.found i d b) [
      | inl z ↦ true≢false (sym (h.empty.1 (subst (Contains clauses) z (Contains-get_or clauses i d b))) ∙ e)
      | inr a ↦
          let member : Contains members a.1 = All-contains (Contains members) (get_or clauses i d) a.1 part (a.0, a.2, a.3) in
          All-contains (λ c. All (Contains members) c → ⊥) (under kept.lists a.1) (get_or clauses i d) (All-contains (λ l. IsNew (under kept.lists l) members) members a.1 n member) a.4 part
    ]

pub new_no_empty : (kept : ClauseLists) (clauses : List (List ℕ)) (members : List ℕ) → Holds kept clauses → IsNew clauses members → kept.has_empty ≡ true → ⊥
new_no_empty kept clauses members h n e = All-contains (λ c. All (Contains members) c → ⊥) clauses [] n (h.empty.0 e) (All-nil (Contains members))

pub new_each_list : (kept : ClauseLists) (clauses : List (List ℕ)) (members : List ℕ) → Holds kept clauses → IsNew clauses members → All (λ l. IsNew (under kept.lists l) members) members
new_each_list kept clauses members h n i d b =
    All-weaker (Contains clauses) (λ c. All (Contains members) c → ⊥) (λ c has. All-contains (λ x. All (Contains members) x → ⊥) clauses c n has) (under kept.lists (get_or members i d)) (h.only (get_or members i d))

-- the answer by the members' lists, where there is no empty clause
pub told_by_lists : (kept : ClauseLists) (clauses : List (List ℕ)) (members : List ℕ) (r : Bool) → kept.has_empty ≡ false → IsTrue r ↔ All (λ l. IsNew (under kept.lists l) members) members → Holds kept clauses → IsTrue r ↔ IsNew clauses members
told_by_lists kept clauses members r e a h = (λ t. new_all_lists kept clauses members h e (a.0 t), λ n. a.1 (new_each_list kept clauses members h n))

pub told_by_empty : (kept : ClauseLists) (clauses : List (List ℕ)) (members : List ℕ) (r : Bool) → kept.has_empty ≡ true → r ≡ false → Holds kept clauses → IsTrue r ↔ IsNew clauses members
told_by_empty kept clauses members r e f h = (λ t. absurd (true≢false (sym t ∙ f)), λ n. absurd (new_no_empty kept clauses members h n e))

-- an empty clause is added
pub holds_empty : (kept later : ClauseLists) (clauses : List (List ℕ)) (clause : List ℕ) → clause ≡ [] → later.lists ≡ kept.lists → later.has_empty ≡ true → Holds kept clauses → Holds later (clauses ++ clause ∷ [])
holds_empty kept later clauses clause z e t h = rw z (record {
  empty = (λ _. Contains-push clauses [], λ _. t);
  found = rw e (All-push (λ c. (c ≡ []) ⊎ Any (λ l. Contains (under kept.lists l) c) c) clauses [] h.found (inl refl));
  only = λ l. rw e (All-weaker (Contains clauses) (Contains (clauses ++ [] ∷ [])) (λ c. Contains-append_left clauses ([] ∷ []) c) (under kept.lists l) (h.only l));
  lengths = rw (e, sum_by_push length clauses []) (omega (arith, h.lengths));
})

module _ (earlier later : List (List (List ℕ))) (l : ℕ) (clause : List ℕ) (k : Keeps earlier later l clause) where
  still_under : (m : ℕ) (c : List ℕ) → Contains (under earlier m) c → Contains (under later m) c
  still_under m c has = elim (cases_eq m l) [
    | inl e ↦ subst (λ (j : ℕ). Contains (under earlier j) c → Contains (under later j) c) (sym e) (λ p. subst (λ (cs : List (List ℕ)). Contains cs c) (sym k.here) (Contains-append_left (under earlier l) (clause ∷ []) c p)) has
    | inr n ↦ subst (λ (cs : List (List ℕ)). Contains cs c) (sym (k.others m n)) has
  ]

  now_under : (m : ℕ) (c : List ℕ) → Contains (under later m) c → Contains (under earlier m) c ⊎ (clause ≡ c)
  now_under m c has = elim (cases_eq m l) [
    | inl e ↦ subst (λ (j : ℕ). Contains (under later j) c → Contains (under earlier j) c ⊎ (clause ≡ c)) (sym e) (λ p. Contains-push_cases (under earlier l) clause c (subst (λ (cs : List (List ℕ)). Contains cs c) k.here p)) has
    | inr n ↦ inl (subst (λ (cs : List (List ℕ)). Contains cs c) (k.others m n) has)
  ]

  stays_found : (c : List ℕ) → (c ≡ []) ⊎ Any (λ m. Contains (under earlier m) c) c → (c ≡ []) ⊎ Any (λ m. Contains (under later m) c) c
  stays_found c (inl z) = inl z
  stays_found c (inr a) = inr (a.0, a.1, a.2, a.3, still_under a.1 c a.4)

-- a clause is added to the list of one of its literals
pub holds_more : (kept later : ClauseLists) (clauses : List (List ℕ)) (clause : List ℕ) (l : ℕ) → later.has_empty ≡ kept.has_empty → Keeps kept.lists later.lists l clause → Contains clause l → Holds kept clauses → Holds later (clauses ++ clause ∷ [])
holds_more kept later clauses clause l e k has h = record {
  empty = (
    λ t. Contains-append_left clauses (clause ∷ []) [] (h.empty.0 (sym e ∙ t)),
    λ c. elim (Contains-push_cases clauses clause [] c) [
      | inl p ↦ e ∙ h.empty.1 p
      | inr z ↦ let none : Contains [] l = subst (λ (xs : List ℕ). Contains xs l) z has in absurd (omega (arith, none.1))
    ],
  );
  found = All-push (λ c. (c ≡ []) ⊎ Any (λ m. Contains (under later.lists m) c) c) clauses clause
      (All-weaker (λ c. (c ≡ []) ⊎ Any (λ m. Contains (under kept.lists m) c) c) (λ c. (c ≡ []) ⊎ Any (λ m. Contains (under later.lists m) c) c) (stays_found kept.lists later.lists l clause k) clauses h.found)
      (inr (has.0, l, has.1, has.2, subst (λ (cs : List (List ℕ)). Contains cs clause) (sym k.here) (Contains-push (under kept.lists l) clause)));
  only = λ m i d b. elim (now_under kept.lists later.lists l clause k m (get_or (under later.lists m) i d) (Contains-get_or (under later.lists m) i d b)) [
    | inl p ↦ Contains-append_left clauses (clause ∷ []) (get_or (under later.lists m) i d) (All-contains (Contains clauses) (under kept.lists m) (get_or (under later.lists m) i d) (h.only m) p)
    | inr z ↦ subst (Contains (clauses ++ clause ∷ [])) z (Contains-push clauses clause)
  ];
  lengths = rw (sum_by_push length clauses clause) (omega (arith, h.lengths, k.lengths));
}

-- a clause pushed to the list at a place
keeps_pushed : (earlier grown later : List (List (List ℕ))) (l : ℕ) (clause : List ℕ) → l < length grown → ((m : ℕ) → under grown m ≡ under earlier m) → sum_by (sum_by length) grown ≡ sum_by (sum_by length) earlier → later ≡ set grown l (under grown l ++ clause ∷ []) → Keeps earlier later l clause
keeps_pushed earlier grown later l clause b same e q = record {
  here = ap (λ (ls : List (List (List ℕ))). under ls l) q ∙ get_or-set_same grown l (under grown l ++ clause ∷ []) [] b ∙ ap (λ (cs : List (List ℕ)). cs ++ clause ∷ []) (same l);
  others = λ m n. ap (λ (ls : List (List (List ℕ))). under ls m) q ∙ get_or-set_other grown l m (under grown l ++ clause ∷ []) [] n ∙ same m;
  lengths =
      let s : sum_by (sum_by length) (set grown l (under grown l ++ clause ∷ [])) + sum_by length (under grown l) ≡ sum_by (sum_by length) grown + sum_by length (under grown l ++ clause ∷ []) = sum_by-set (sum_by length) grown l (under grown l ++ clause ∷ []) [] b in
      let t : sum_by length (under grown l ++ clause ∷ []) ≡ sum_by length (under grown l) + length clause = sum_by_push length (under grown l) clause in
      rw q (omega (arith, s, t, e));
}

pub keeps_in_list : (earlier : List (List (List ℕ))) (grown : List (Vec (List ℕ) Global)) (list later : Vec (List ℕ) Global) (i l : ℕ) (clause : List ℕ) → i < length grown → i ≡ l → list ≡ get_or grown i list → later.items ≡ list.items ++ clause ∷ [] → ((m : ℕ) → under (listed grown) m ≡ under earlier m) → sum_by (sum_by length) (listed grown) ≡ sum_by (sum_by length) earlier → Keeps earlier (listed (set grown i later)) l clause
keeps_in_list earlier grown list later i l clause b at is items same e =
    let items_of : Vec (List ℕ) Global → List (List ℕ) = λ v. v.items in
    let here : list.items ≡ under (listed grown) i = ap items_of is ∙ sym (get_or-map items_of grown i list [] b) in
    let put : listed (set grown i later) ≡ set (listed grown) i (under (listed grown) i ++ clause ∷ []) = map-set items_of grown i later ∙ ap (set (listed grown) i) (items ∙ ap (λ (cs : List (List ℕ)). cs ++ clause ∷ []) here) in
    subst (λ (m : ℕ). Keeps earlier (listed (set grown i later)) m clause) at (keeps_pushed earlier (listed grown) (listed (set grown i later)) i clause (rw length-map b) same e put)

-- one more clause of the formula
pub holds_next : (kept later : ClauseLists) (codes : List (List ℕ)) (clause : List ℕ) (i : ℕ) → i < length codes → get_or codes i clause ≡ clause → Holds kept (take i codes) → ((clauses : List (List ℕ)) → Holds kept clauses → Holds later (clauses ++ clause ∷ [])) → Holds later (take (i + 1) codes)
holds_next kept later codes clause i b e h next =
    let more : take (i + 1) codes ≡ take i codes ++ clause ∷ [] = take_more codes i clause b ∙ ap (λ (c : List ℕ). take i codes ++ c ∷ []) e in
    subst (Holds later) (sym more) (next (take i codes) h)
