-- The loops that test and delete ids: each must be live, and none may come twice.
use Rattle.std.proofs.Common.{◌≡◌, ◌≢◌, ℕ, ◌+◌, ◌<◌, ◌⊎◌, List, [], ◌∷◌, ◌++◌, length, get_or, take, drop, refl, sym, ◌∙◌, ap, inl, inr, arith, Option, None, subst, true, false, nat_eq, true≢false}
use Rattle.std.specs.Prelude.{Contains, IsSome}
use Rattle.std.proofs.lemmas.Bool.{cases_eq}
use Rattle.std.proofs.lemmas.Bool.Decides.{nat_tests}
use Rattle.std.proofs.lemmas.List.{take_more, drop_more, get_or_default}
use Rattle.std.proofs.lemmas.List.Elements.{Contains-push, Contains-push_cases, Contains-append_left, Contains-append_right, Contains-append_cases}
use Rattle.std.specs.HashSet.{HashSet, contains, Updates}
use Rattle.std.specs.declared.hash.FoldHasher.{FoldHasher}
use Rattle.std.specs.declared.hash.BuildHasherDefault.{BuildHasherDefault}
use Rattle.lrat_check.specs.Text.{without, Deletes, DeadAt, IsAfter}

-- after the ids so far, `now` is live
pub record Deleting (live : ℕ → Option (List ℕ)) (ids : List ℕ) (now : ℕ → Option (List ℕ)) (before rest : List ℕ) (i : ℕ) : Type 0 where
  pub deletes : (later : ℕ → Option (List ℕ)) → Deletes now rest later → Deletes live ids later
  pub dies : (place : ℕ) → DeadAt now rest (i + 1) place → DeadAt live ids 1 place
  pub gone : (q : ℕ) → Contains before q → now q ≡ None
  pub there : (q : ℕ) → (Contains before q → ⊥) → now q ≡ live q

pub contained_or_not : (x : ℕ) (xs : List ℕ) → Contains xs x ⊎ (Contains xs x → ⊥)
contained_or_not x [] = inr (λ p. omega (arith, p.1))
contained_or_not x (y ∷ ys) = elim (cases_eq y x) [
  | inl e ↦ inl (0, omega arith, e)
  | inr d ↦ elim (contained_or_not x ys) [
    | inl p ↦ inl (Contains-append_right (y ∷ []) ys x p)
    | inr n ↦ inr (λ p. elim (Contains-append_cases (y ∷ []) ys x p) [ inl q ↦ d (let k : q.0 ≡ 0 = omega (arith, q.1) in sym (ap (λ (i : ℕ). get_or (y ∷ []) i x) k) ∙ q.2) | inr q ↦ n q ])
  ]
]

module _ (live : ℕ → Option (List ℕ)) (ids : List ℕ) (now : ℕ → Option (List ℕ)) (i : ℕ) (b : i < length ids) (h : Deleting live ids now (take i ids) (drop i ids) i) where
  pub dead_now : now (get_or ids i 0) ≡ None → DeadAt live ids 1 (i + 1)
  dead_now e = h.dies (i + 1) (rw (drop_more ids i 0) (inl (e, refl)))

  pub never_live : live (get_or ids i 0) ≡ None → DeadAt live ids 1 (i + 1)
  never_live e = dead_now (elim (contained_or_not (get_or ids i 0) (take i ids)) [ inl p ↦ h.gone (get_or ids i 0) p | inr n ↦ h.there (get_or ids i 0) n ∙ e ])

  pub Deleting-next : IsSome (live (get_or ids i 0)) → (Contains (take i ids) (get_or ids i 0) → ⊥) → Deleting live ids (without now (get_or ids i 0)) (take (i + 1) ids) (drop (i + 1) ids) (i + 1)
  Deleting-next s n =
      let id : ℕ = get_or ids i 0 in
      let t : IsSome (now id) = subst (λ (o : Option (List ℕ)). IsSome o) (sym (h.there id n)) s in
      let f : take (i + 1) ids ≡ take i ids ++ id ∷ [] = take_more ids i 0 b in
      record {
        deletes = λ later d. h.deletes later (rw (drop_more ids i 0) (t, d));
        dies = λ place d. h.dies place (rw (drop_more ids i 0) (inr (t, d)));
        gone = λ q p. elim (cases_eq q id) [
          | inl e ↦ let z : nat_eq q id ≡ true = grind (arith, nat_tests) in rw z refl
          | inr d ↦
              let z : nat_eq q id ≡ false = grind (arith, nat_tests) in
              rw z (elim (Contains-push_cases (take i ids) id q (subst (λ (xs : List ℕ). Contains xs q) f p)) [ inl x ↦ h.gone q x | inr e ↦ absurd (d (sym e)) ])
        ];
        there = λ q m.
            let d : q ≢ id = (λ e. m (rw (f, e) (Contains-push (take i ids) id))) in
            let z : nat_eq q id ≡ false = grind (arith, nat_tests) in
            rw z (h.there q (λ p. m (rw f (Contains-append_left (take i ids) (id ∷ []) q p))));
      }

pub Deleting-begun : (live : ℕ → Option (List ℕ)) (ids : List ℕ) → Deleting live ids live [] ids 0
Deleting-begun live ids = record { deletes = λ later d. d; dies = λ place d. d; gone = λ q p. absurd (omega (arith, p.1)); there = λ q n. refl }

pub all_deleted : (live : ℕ → Option (List ℕ)) (ids : List ℕ) (now : ℕ → Option (List ℕ)) (i : ℕ) → Deleting live ids now ids [] i → (later : ℕ → Option (List ℕ)) → IsAfter live ids later → Deletes live ids later
all_deleted live ids now i h later a = h.deletes later (λ q. elim (contained_or_not q ids) [
  | inl p ↦ (a q).0 p ∙ sym (h.gone q p)
  | inr n ↦ (a q).1 n ∙ sym (h.there q n)
])

abbrev pub SeenSet : Type 0
SeenSet = HashSet ℕ (BuildHasherDefault FoldHasher)

-- the set holds the ids so far
pub record HasSeen (seen : SeenSet) (ids : List ℕ) : Type 0 where
  pub seen' : (q : ℕ) → contains nat_eq seen q ≡ true → Contains ids q
  pub unseen : (q : ℕ) → contains nat_eq seen q ≡ false → Contains ids q → ⊥

pub HasSeen-begun : (seen : SeenSet) → seen.keys ≡ [] → HasSeen seen []
HasSeen-begun seen e = record {
  seen' = λ q h. let f : contains nat_eq seen q ≡ false = rw e refl in absurd (true≢false (sym h ∙ f));
  unseen = λ q h p. omega (arith, p.1);
}

pub HasSeen-next : (old new : SeenSet) (ids : List ℕ) (i id : ℕ) → i < length ids → get_or ids i 0 ≡ id → Updates nat_eq old new id true → HasSeen old (take i ids) → HasSeen new (take (i + 1) ids)
HasSeen-next old new ids i id b e u h =
    let f : take (i + 1) ids ≡ take i ids ++ id ∷ [] = take_more ids i 0 b ∙ ap (λ (x : ℕ). take i ids ++ x ∷ []) e in
    rw f record {
      seen' = λ q p. elim (cases_eq q id) [
        | inl y ↦ rw y (Contains-push (take i ids) id)
        | inr d ↦ let z : nat_eq id q ≡ false = grind (arith, nat_tests) in Contains-append_left (take i ids) (id ∷ []) q (h.seen' q (sym (u.2 q z) ∙ p))
      ];
      unseen = λ q p m. elim (cases_eq q id) [
        | inl y ↦ true≢false (sym u.1 ∙ ap (contains nat_eq new) (sym y) ∙ p)
        | inr d ↦
            let z : nat_eq id q ≡ false = grind (arith, nat_tests) in
            elim (Contains-push_cases (take i ids) id q m) [ inl x ↦ h.unseen q (sym (u.2 q z) ∙ p) x | inr y ↦ d (sym y) ]
      ];
    }

-- an id, as a number
pub id_at : (ids : List ℕ) (i id n : ℕ) → i < length ids → id ≡ get_or ids i id → n ≡ id → get_or ids i 0 ≡ n
id_at ids i id n b is e = get_or_default ids i 0 id b ∙ sym is ∙ sym e

-- what deletion leaves after one more id
pub IsAfter-next : (live now later : ℕ → Option (List ℕ)) (ids : List ℕ) (i id : ℕ) → i < length ids → get_or ids i 0 ≡ id → ((q : ℕ) → later q ≡ without now id q) → IsAfter live (take i ids) now → IsAfter live (take (i + 1) ids) later
IsAfter-next live now later ids i id b e r h =
    let f : take (i + 1) ids ≡ take i ids ++ id ∷ [] = take_more ids i 0 b ∙ ap (λ (x : ℕ). take i ids ++ x ∷ []) e in
    rw f (λ q. elim (cases_eq q id) [
      | inl y ↦ let z : nat_eq q id ≡ true = grind (arith, nat_tests) in (λ m. r q ∙ rw z refl, λ m. absurd (m (rw y (Contains-push (take i ids) id))))
      | inr d ↦
          let z : nat_eq q id ≡ false = grind (arith, nat_tests) in (
            λ m. r q ∙ rw z (elim (Contains-push_cases (take i ids) id q m) [ inl x ↦ (h q).0 x | inr y ↦ absurd (d (sym y)) ]),
            λ m. r q ∙ rw z ((h q).1 (λ x. m (Contains-append_left (take i ids) (id ∷ []) q x))),
          )
    ])
