-- The loops that mark reasons, drop spare clauses, list the rest and rename the reasons.
use Rattle.std.proofs.Common.{◌≡◌, ◌≢◌, ℕ, ◌+◌, ◌<◌, List, [], ◌∷◌, ◌++◌, length, get_or, length-append, refl, sym, ◌∙◌, ap, inl, inr, arith, Option, Some, None, Bool, true, false, subst, zero, suc}
use Rattle.std.specs.Prelude.{AllPairs, Any, Contains, slice_get, replicate}
use Rattle.std.proofs.Math.ListN.{set}
use Rattle.std.proofs.lemmas.Bool.{cases_eq, cases_lt}
use Rattle.std.proofs.lemmas.List.{get_or_default, get_or_push, get_or_append_left, length-replicate, length-set, get_or-set_same, get_or-set_other}
use Rattle.std.proofs.lemmas.List.Elements.{All-push, Contains-push, Contains-append_left, Contains-get_or}
use Rattle.std.proofs.lemmas.List.Quantifiers.{all_pairs_push}
use Rattle.std.proofs.lemmas.Option.{slice_get_within, slice_get-get_or, get_or_from_slice_get}
use Rattle.clause_arena.specs.Contents.{Content, HasClause, is_dropped_of, with_dropped}
use Rattle.cdcl_core.specs.Implied.{clauses_of, IsNoReason, IsSpare}
use Rattle.cdcl_core.specs.Searched.{IsBase}
use Rattle.cdcl_core.specs.Dropped.{Remains, AreDropped, IsMarkedAt, IsRenamed}
use Rattle.cdcl_core.proofs.Lists.{entry_cases}
use Rattle.cdcl_core.proofs.Spare.{base_dropped, flag_here, flag_other, literals_same}

-- an ascending list has a number at one place only
pub one_place : (xs : List ℕ) → AllPairs (λ r s. r < s) xs → (i j x : ℕ) → slice_get xs i ≡ Some x → slice_get xs j ≡ Some x → i ≡ j
one_place xs h i j x e f =
    let bi : i < length xs = slice_get_within xs i x e in
    let bj : j < length xs = slice_get_within xs j x f in
    let xi : get_or xs i 0 ≡ x = get_or_from_slice_get xs i x 0 e in
    let xj : get_or xs j 0 ≡ x = get_or_from_slice_get xs j x 0 f in
    elim (cases_lt i j) [
      | inl l ↦ let q : get_or xs i 0 < get_or xs j 0 = h i j 0 l bj in absurd (omega (arith, q, xi, xj))
      | inr l ↦ elim (cases_eq i j) [
        | inl q ↦ q
        | inr n ↦ let q : get_or xs j 0 < get_or xs i 0 = h j i 0 (omega arith) bi in absurd (omega (arith, q, xi, xj))
      ]
    ]

place_at : (xs : List ℕ) (i x : ℕ) → i < length xs → get_or xs i 0 ≡ x → slice_get xs i ≡ Some x
place_at xs i x c q = slice_get-get_or xs i 0 c ∙ ap (λ (y : ℕ). Some y) q

-- the clauses of the first n reasons are marked, and no others
pub record Marking (refs : List ℕ) (reasons : List (Option ℕ)) (marks : List Bool) (n : ℕ) : Type 0 where
  pub count : length marks ≡ length refs
  pub marked : (k r : ℕ) → k < n → slice_get reasons k ≡ Some (Some r) → IsMarkedAt refs marks r
  pub only : (j : ℕ) → get_or marks j false ≡ true → IsNoReason reasons (get_or refs j 0) → ⊥

pub marking_none : (refs : List ℕ) (reasons : List (Option ℕ)) (marks : List Bool) → marks ≡ replicate (length refs) false → Marking refs reasons marks 0
marking_none refs reasons marks e = rw e record {
  count = length-replicate (length refs) false;
  marked = λ k r b. absurd (omega (arith, b));
  only = λ j f. let z : false ≡ true = sym (none (length refs) j) ∙ f in absurd cc;
}
  where
    none : (n j : ℕ) → get_or (replicate n false) j false ≡ false
    none zero j = refl
    none (suc n) zero = refl
    none (suc n) (suc j) = none n j

module _ (refs : List ℕ) (reasons : List (Option ℕ)) (marks : List Bool) (n : ℕ) (h : Marking refs reasons marks n) (reason : Option ℕ) (b : n < length reasons) (e : reason ≡ get_or reasons n reason) where
  reason_is : (x : Option ℕ) → reason ≡ x → slice_get reasons n ≡ Some x
  reason_is x f = slice_get-get_or reasons n reason b ∙ ap (λ (y : Option ℕ). Some y) (sym e ∙ f)

  pub marking_skip : reason ≡ None → Marking refs reasons marks (n + 1)
  marking_skip z = record {
    count = h.count;
    marked = λ k r l q. elim (cases_lt k n) [
      | inl m ↦ h.marked k r m q
      | inr m ↦
          let is : k ≡ n = omega arith in
          let x : Some None ≡ Some (Some r) = sym (reason_is None z) ∙ subst (λ (i : ℕ). slice_get reasons i ≡ Some (Some r)) is q in
          absurd cc
    ];
    only = h.only;
  }

  pub marking_more : (at : ℕ) → reason ≡ Some at → (place : ℕ) → slice_get refs place ≡ Some at → (marks' : List Bool) → marks' ≡ set marks place true → Marking refs reasons marks' (n + 1)
  marking_more at z place p marks' f =
      let bp : place < length marks = omega (arith, slice_get_within refs place at p, h.count) in
      let here : get_or marks' place false ≡ true = ap (λ (xs : List Bool). get_or xs place false) f ∙ get_or-set_same marks place true false bp in
      let other : (j : ℕ) → j ≢ place → get_or marks' j false ≡ get_or marks j false = λ j m. ap (λ (xs : List Bool). get_or xs j false) f ∙ get_or-set_other marks place j true false m in
      record {
        count = ap length f ∙ (length-set marks place true ∙ h.count);
        marked = λ k r l q. elim (cases_lt k n) [
          | inl m ↦
              let w : IsMarkedAt refs marks r = h.marked k r m q in
              elim (cases_eq w.0 place) [
                | inl i ↦ (w.0, w.1, ap (λ (x : ℕ). get_or marks' x false) i ∙ here)
                | inr i ↦ (w.0, w.1, other w.0 i ∙ w.2)
              ]
          | inr m ↦
              let is : k ≡ n = omega arith in
              let x : Some (Some at) ≡ Some (Some r) = sym (reason_is (Some at) z) ∙ subst (λ (i : ℕ). slice_get reasons i ≡ Some (Some r)) is q in
              let y : at ≡ r = cc in
              (place, p ∙ ap (λ (v : ℕ). Some v) y, here)
        ];
        only = λ j t free. elim (cases_eq j place) [
          | inl i ↦
              let g : get_or refs j 0 ≡ at = ap (λ (x : ℕ). get_or refs x 0) i ∙ get_or_from_slice_get refs place at 0 p in
              free n (reason_is (Some at) z ∙ ap (λ (v : ℕ). Some (Some v)) (sym g))
          | inr i ↦ h.only j (sym (other j i) ∙ t) free
        ];
      }

-- a clause that isn't marked is no reason
pub not_marked : (refs : List ℕ) (reasons : List (Option ℕ)) → AllPairs (λ r s. r < s) refs → (n at : ℕ) → n < length refs → at ≡ get_or refs n at → (marks : List Bool) (mark : Bool) → n < length marks → mark ≡ get_or marks n mark → mark ≡ false
    → ((k r : ℕ) → slice_get reasons k ≡ Some (Some r) → IsMarkedAt refs marks r) → IsNoReason reasons at
not_marked refs reasons ascending n at b e marks mark bm em z all k f =
    let m : IsMarkedAt refs marks at = all k at f in
    let place : slice_get refs n ≡ Some at = place_at refs n at b (get_or_default refs n 0 at b ∙ sym e) in
    let is : m.0 ≡ n = one_place refs ascending m.0 n at m.1 place in
    let t : true ≡ false = sym m.2 ∙ (ap (λ (x : ℕ). get_or marks x false) is ∙ (get_or_default marks n false mark bm ∙ (sym em ∙ z))) in
    absurd cc

-- a clause that is marked is a reason
pub is_marked : (refs : List ℕ) (reasons : List (Option ℕ)) (n at : ℕ) → n < length refs → at ≡ get_or refs n at → (marks : List Bool) (mark : Bool) → n < length marks → mark ≡ get_or marks n mark
    → ((j : ℕ) → get_or marks j false ≡ true → IsNoReason reasons (get_or refs j 0) → ⊥) → IsNoReason reasons at → mark ≡ false
is_marked refs reasons n at b e marks true bm em only free = absurd (only n (get_or_default marks n false true bm ∙ sym em) (subst (IsNoReason reasons) (e ∙ get_or_default refs n at 0 b) free))
is_marked refs reasons n at b e marks false bm em only free = refl

-- what holds once the first n clauses were looked at
pub record Dropping (content : Content) (refs : List ℕ) (reasons : List (Option ℕ)) (trail : List ℕ) (later : Content) (n : ℕ) : Type 0 where
  pub base : IsBase (clauses_of content) (length content.chains) later refs reasons trail None
  pub dropped : AreDropped later refs reasons trail n

pub dropping_begun : (content : Content) (refs : List ℕ) (reasons : List (Option ℕ)) (trail : List ℕ) → IsBase (clauses_of content) (length content.chains) content refs reasons trail None → Dropping content refs reasons trail content 0
dropping_begun content refs reasons trail b = record { base = b; dropped = λ j c. absurd (omega (arith, c)) }

module _ (content : Content) (refs : List ℕ) (reasons : List (Option ℕ)) (trail : List ℕ) (later : Content) (n : ℕ) (h : Dropping content refs reasons trail later n) (at : ℕ) (b : n < length refs) (e : at ≡ get_or refs n at) where
  at_place : get_or refs n 0 ≡ at
  at_place = get_or_default refs n 0 at b ∙ sym e

  within : HasClause later at
  within = subst (HasClause later) at_place (subst (λ (xs : List ℕ). Contains xs (get_or refs n 0)) h.base.numbered_by (Contains-get_or refs n 0 b))

  pub dropping_skip : (IsSpare later reasons trail at → ⊥) → Dropping content refs reasons trail later (n + 1)
  dropping_skip absent = record {
    base = h.base;
    dropped = λ j c s. elim (cases_lt j n) [
      | inl l ↦ h.dropped j l s
      | inr l ↦ let is : j ≡ n = omega arith in absurd (absent (subst (IsSpare later reasons trail) (ap (λ (x : ℕ). get_or refs x 0) is ∙ at_place) s))
    ];
  }

  pub dropping_more : IsSpare later reasons trail at → (later' : Content) → later' ≡ with_dropped later at → Dropping content refs reasons trail later' (n + 1)
  dropping_more spare later' f = record {
    base = base_dropped (clauses_of content) (length content.chains) later refs reasons trail h.base at within spare later' f;
    dropped = λ j c s. elim (cases_eq (get_or refs j 0) at) [
      | inl q ↦ ap (λ (x : ℕ). is_dropped_of later' x) q ∙ flag_here (clauses_of content) (length content.chains) later refs reasons trail h.base at within spare later' f
      | inr q ↦ elim (cases_eq j n) [
        | inl i ↦ absurd (q (ap (λ (x : ℕ). get_or refs x 0) i ∙ at_place))
        | inr i ↦
            let r : ℕ = get_or refs j 0 in
            let w : IsSpare later reasons trail r = (s.0, subst (λ (ls : List ℕ). Any (Contains trail) ls) (literals_same (clauses_of content) (length content.chains) later refs reasons trail h.base at within spare later' f r) s.1) in
            flag_other (clauses_of content) (length content.chains) later refs reasons trail h.base at within spare later' f r q ∙ h.dropped j (omega (arith, c)) w
      ]
    ];
  }

module _ (content : Content) (refs ids : List ℕ) where
  module _ (n : ℕ) (kept names : List ℕ) (h : Remains content refs ids n kept names) (at : ℕ) (b : n < length refs) (e : at ≡ get_or refs n at) where
    here : get_or refs n 0 ≡ at
    here = get_or_default refs n 0 at b ∙ sym e

    -- the case in which the clause is dropped
    pub remains_without : is_dropped_of content at ≡ true → Remains content refs ids (n + 1) kept names
    remains_without t = record {
      aligned = h.aligned;
      ascending = h.ascending;
      from = λ k d. let w = h.from k d in (w.0, omega (arith, w.1), w.2, w.3);
      live = h.live;
      dropped = λ j d. elim (cases_lt j n) [
        | inl l ↦ h.dropped j l
        | inr l ↦
            let is : j ≡ n = omega arith in
            let r : at ≡ get_or refs j 0 = sym here ∙ ap (λ (x : ℕ). get_or refs x 0) (sym is) in
            inr (subst (λ (x : ℕ). is_dropped_of content x ≡ true) r t)
      ];
    }

    -- the case in which it is kept
    pub remains_with : is_dropped_of content at ≡ false → AllPairs (λ r s. r < s) refs → (id : ℕ) → n < length ids → id ≡ get_or ids n id → (kept' names' : List ℕ) → kept' ≡ kept ++ at ∷ [] → names' ≡ names ++ id ∷ [] → Remains content refs ids (n + 1) kept' names'
    remains_with t ascending id bi ei kept' names' f g = rw (f, g) record {
      aligned = omega (arith, h.aligned, length-append kept (at ∷ []), length-append names (id ∷ []));
      ascending = all_pairs_push (λ r s. r < s) kept at h.ascending (λ k d c.
          let w = h.from k c in
          let q : get_or refs w.0 0 < get_or refs n 0 = ascending w.0 n 0 w.1 b in
          let x : get_or kept k d ≡ get_or kept k 0 = get_or_default kept k d 0 c in
          omega (arith, q, w.2, here, x));
      from = λ k d. elim (cases_lt k (length kept)) [
        | inl l ↦
            let w = h.from k l in
            let ln : k < length names = omega (arith, l, h.aligned) in
            (w.0, omega (arith, w.1), w.2 ∙ sym (get_or_append_left kept (at ∷ []) 0 k l), w.3 ∙ sym (get_or_append_left names (id ∷ []) 0 k ln))
        | inr l ↦
            let is : k ≡ length kept = omega (arith, l, d, length-append kept (at ∷ [])) in
            let isn : k ≡ length names = omega (arith, is, h.aligned) in
            (n, omega arith, here ∙ sym (get_or_push kept at 0 k (sym is)), get_or_default ids n 0 id bi ∙ (sym ei ∙ sym (get_or_push names id 0 k (sym isn))))
      ];
      live = All-push (λ r. is_dropped_of content r ≡ false) kept at h.live t;
      dropped = λ j d. elim (cases_lt j n) [
        | inl l ↦ elim (h.dropped j l) [ inl c ↦ inl (Contains-append_left kept (at ∷ []) (get_or refs j 0) c) | inr s ↦ inr s ]
        | inr l ↦
            let is : j ≡ n = omega arith in
            let r : at ≡ get_or refs j 0 = sym here ∙ ap (λ (x : ℕ). get_or refs x 0) (sym is) in
            inl (subst (Contains (kept ++ at ∷ [])) r (Contains-push kept at))
      ];
    }

-- one reason more by its new reference
module _ (kept moved : List ℕ) (reasons : List (Option ℕ)) (n : ℕ) (renamed : List (Option ℕ)) (h : IsRenamed kept moved reasons n renamed) (reason : Option ℕ) (b : n < length reasons) (e : reason ≡ get_or reasons n reason) where
  at_n : (x : Option ℕ) → reason ≡ x → slice_get reasons n ≡ Some x
  at_n x f = slice_get-get_or reasons n reason b ∙ ap (λ (y : Option ℕ). Some y) (sym e ∙ f)

  pub renamed_none : reason ≡ None → (renamed' : List (Option ℕ)) → renamed' ≡ renamed ++ None ∷ [] → IsRenamed kept moved reasons (n + 1) renamed'
  renamed_none z renamed' f = rw f record {
    count = omega (arith, h.count, length-append renamed (None ∷ []));
    each = λ k s q. elim (entry_cases renamed None (Some s) k q) [
      | inl w ↦ h.each k s w.1
      | inr w ↦ let x : None ≡ Some s = w.1 in absurd cc
    ];
    none = λ k q. elim (entry_cases renamed None None k q) [
      | inl w ↦ h.none k w.1
      | inr w ↦ let is : k ≡ n = w.0 ∙ h.count in subst (λ (x : ℕ). slice_get reasons x ≡ Some None) (sym is) (at_n None z)
    ];
  }

  pub renamed_some : (at : ℕ) → reason ≡ Some at → (to : ℕ) → ((j : ℕ) × (slice_get kept j ≡ Some at) × (slice_get moved j ≡ Some to)) → (renamed' : List (Option ℕ)) → renamed' ≡ renamed ++ Some to ∷ [] → IsRenamed kept moved reasons (n + 1) renamed'
  renamed_some at z to m renamed' f = rw f record {
    count = omega (arith, h.count, length-append renamed (Some to ∷ []));
    each = λ k s q. elim (entry_cases renamed (Some to) (Some s) k q) [
      | inl w ↦ h.each k s w.1
      | inr w ↦
          let is : k ≡ n = w.0 ∙ h.count in
          let x : Some to ≡ Some s = w.1 in
          let y : to ≡ s = cc in
          (at, m.0, subst (λ (i : ℕ). slice_get reasons i ≡ Some (Some at)) (sym is) (at_n (Some at) z), m.1, m.2 ∙ ap (λ (v : ℕ). Some v) y)
    ];
    none = λ k q. elim (entry_cases renamed (Some to) None k q) [
      | inl w ↦ h.none k w.1
      | inr w ↦ let x : Some to ≡ None = w.1 in absurd cc
    ];
  }
