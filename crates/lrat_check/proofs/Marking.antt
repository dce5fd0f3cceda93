-- Marks of the additions that are used, and the places of their ids.
use Rattle.std.proofs.Common.{◌≡◌, ℕ, ◌+◌, ◌-◌, ◌<◌, ◌≤◌, List, [], ◌∷◌, ◌++◌, length, get_or, map, take, drop, set, replicate, sym, ◌∙◌, inl, inr, arith, subst, Bool, true, false, true≢false, Result, Ok, Err}
use Rattle.std.specs.Prelude.{AllPairs, MatchResult}
use Rattle.std.proofs.lemmas.Bool.{cases_eq, cases_lt, cases_order}
use Rattle.std.proofs.lemmas.List.{length-set, get_or-set_same, get_or-set_other, length-map, get_or-map, length-replicate, get_or-replicate, drop_all, take_all, append-nil}
use Rattle.std.proofs.lemmas.List.Elements.{Contains-push, Contains-push_cases, Contains-append_left}
use Rattle.std.proofs.lemmas.List.Sorted.{searched}
use Rattle.std.specs.Ordering.{nat_cmp}
use Rattle.std.specs.List.Sorted.{IsBinarySearchResult}
use Rattle.lrat_check.specs.Text.{Content, deletion, id_of}
use Rattle.lrat_check.specs.Shown.{IsBefore, MarksNamed}

-- ascending ids occur once
places_apart : (ids : List ℕ) (i j : ℕ) → AllPairs (λ id later. id < later) ids → i < length ids → j < length ids → get_or ids i 0 ≡ get_or ids j 0 → i ≡ j
places_apart ids i j p b c e = elim (cases_order i j) [
  | inl s ↦ s
  | inr (inl l) ↦ let x : get_or ids i 0 < get_or ids j 0 = p i j 0 l c in absurd (omega arith)
  | inr (inr l) ↦ let x : get_or ids j 0 < get_or ids i 0 = p j i 0 l b in absurd (omega arith)
]

module _ (ids names : List ℕ) (q : ℕ) (old new : List Bool) (h : MarksNamed ids names old new) where
  pub MarksNamed-found : (i : ℕ) → AllPairs (λ id later. id < later) ids → i < length ids → i < length new → get_or ids i 0 ≡ q → MarksNamed ids (names ++ q ∷ []) old (set new i true)
  MarksNamed-found i p b c e = record {
    same = length-set new i true ∙ h.same;
    marked = λ k. (
      λ t. elim (cases_eq k i) [
        | inl s ↦ inr (rw s b, rw (s, e) (Contains-push names q))
        | inr d ↦ elim ((h.marked k).0 (sym (get_or-set_other new i k true false d) ∙ t)) [ inl x ↦ inl x | inr x ↦ inr (x.0, Contains-append_left names (q ∷ []) (get_or ids k 0) x.1) ]
      ],
      λ s. elim (cases_eq k i) [
        | inl z ↦ rw z (get_or-set_same new i true false c)
        | inr d ↦ get_or-set_other new i k true false d ∙ (h.marked k).1 (elim s [
          | inl t ↦ inl t
          | inr x ↦ elim (Contains-push_cases names q (get_or ids k 0) x.1) [ inl y ↦ inr (x.0, y) | inr y ↦ absurd (d (places_apart ids k i p x.0 b (sym y ∙ sym e))) ]
        ])
      ],
    );
  }

  pub MarksNamed-missed : ((k : ℕ) → k < length ids → get_or ids k 0 ≡ q → ⊥) → MarksNamed ids (names ++ q ∷ []) old new
  MarksNamed-missed n = record {
    same = h.same;
    marked = λ k. (
      λ t. elim ((h.marked k).0 t) [ inl x ↦ inl x | inr x ↦ inr (x.0, Contains-append_left names (q ∷ []) (get_or ids k 0) x.1) ],
      λ s. (h.marked k).1 (elim s [
        | inl t ↦ inl t
        | inr x ↦ elim (Contains-push_cases names q (get_or ids k 0) x.1) [ inl y ↦ inr (x.0, y) | inr y ↦ absurd (n k x.0 (sym y)) ]
      ]),
    );
  }

pub ids_in_order : (cut : List Content) → AllPairs IsBefore cut → AllPairs (λ id later. id < later) (map id_of cut)
ids_in_order cut p = λ i j d l b.
    let c : j < length cut = omega (arith, length-map cut id_of) in
    let k : i < length cut = omega arith in
    let x : get_or (map id_of cut) i d ≡ id_of (get_or cut i (deletion 0 [])) = get_or-map id_of cut i (deletion 0 []) d k in
    let y : get_or (map id_of cut) j d ≡ id_of (get_or cut j (deletion 0 [])) = get_or-map id_of cut j (deletion 0 []) d c in
    let z : id_of (get_or cut i (deletion 0 [])) < id_of (get_or cut j (deletion 0 [])) = p i j (deletion 0 []) l c in
    omega arith

pub up_or_same : (ids : List ℕ) → AllPairs (λ id later. id < later) ids → (i j : ℕ) → i ≤ j → j < length ids → get_or ids i 0 ≤ get_or ids j 0
up_or_same ids p i j a b = elim (cases_order i j) [
  | inl s ↦ rw s (omega arith)
  | inr (inl l) ↦ let x : get_or ids i 0 < get_or ids j 0 = p i j 0 l b in omega arith
  | inr (inr l) ↦ absurd (omega arith)
]

-- the result of the search for an id
module _ (ids : List ℕ) (q : ℕ) (r : Result ℕ ℕ) (p : AllPairs (λ id later. id < later) ids) (s : IsBinarySearchResult (λ y. nat_cmp y q) ids r) where
  told : MatchResult r (λ i. (i < length ids) × (get_or ids i 0 ≡ q)) (λ i. (i ≤ length ids) × ((k : ℕ) → k < i → get_or ids k 0 < q) × ((k : ℕ) → i ≤ k → k < length ids → q < get_or ids k 0))
  told = searched ids q r s (up_or_same ids p)

  pub search_found : (i : ℕ) → r ≡ Ok i → (i < length ids) × (get_or ids i 0 ≡ q)
  search_found i e = subst (λ (r : Result ℕ ℕ). MatchResult r (λ i. (i < length ids) × (get_or ids i 0 ≡ q)) (λ i. (i ≤ length ids) × ((k : ℕ) → k < i → get_or ids k 0 < q) × ((k : ℕ) → i ≤ k → k < length ids → q < get_or ids k 0))) e told

  pub search_missed : (i : ℕ) → r ≡ Err i → (k : ℕ) → k < length ids → get_or ids k 0 ≡ q → ⊥
  search_missed i e k b f =
      let m = subst (λ (r : Result ℕ ℕ). MatchResult r (λ i. (i < length ids) × (get_or ids i 0 ≡ q)) (λ i. (i ≤ length ids) × ((k : ℕ) → k < i → get_or ids k 0 < q) × ((k : ℕ) → i ≤ k → k < length ids → q < get_or ids k 0))) e told in
      elim (cases_lt k i) [
        | inl l ↦ let x : get_or ids k 0 < q = m.1 k l in omega arith
        | inr l ↦ let x : q < get_or ids k 0 = m.2 k l b in omega arith
      ]

-- the marks at the start
pub last_marked : (n k : ℕ) → 0 < n → k < n → (get_or (set (replicate n false) (n - 1) true) k false ≡ true → k + 1 ≡ n) × (k + 1 ≡ n → get_or (set (replicate n false) (n - 1) true) k false ≡ true)
last_marked n k p b = (
  λ t. elim (cases_eq k (n - 1)) [
    | inl e ↦ omega arith
    | inr d ↦ absurd (true≢false (sym t ∙ get_or-set_other (replicate n false) (n - 1) k true false d ∙ get_or-replicate n k false false b))
  ],
  λ e.
      let s : k ≡ n - 1 = omega arith in
      let w : n - 1 < length (replicate n false) = omega (arith, length-replicate n false) in
      rw s (get_or-set_same (replicate n false) (n - 1) true false w),
)

-- a slice that was written goes back as it is
pub written_back : (new old : List Bool) (n : ℕ) → length new ≡ length old → n ≡ length old → take n (new ++ drop (length new) old) ≡ new
written_back new old n e f = rw (drop_all (length new) old (let b : length old ≤ length new = omega arith in b), append-nil new) (take_all n new (omega arith))
