-- The invariant of the trail's root level is kept by propagation and by cutting the trail back.
use Rattle.std.proofs.Common.{◌≡◌, ℕ, ◌+◌, ◌-◌, ◌<◌, ◌≤◌, List, [], ◌∷◌, ◌++◌, length, get_or, take, map, length-append, refl, sym, ◌∙◌, ap, inl, inr, arith, Option, Some, None, subst, zero, suc, true, false, nat_eq}
use Rattle.std.specs.Prelude.{All, Any, AllPairs, Contains, slice_get, replicate, MatchOption}
use Rattle.std.proofs.lemmas.Bool.{cases_eq, cases_lt}
use Rattle.std.proofs.lemmas.Bool.Decides.{nat_tests}
use Rattle.std.proofs.lemmas.List.{length-take, length-replicate, get_or-take, get_or-append-add, take-append-le, take-take, take_at, take_all, length-map, get_or-map}
use Rattle.std.proofs.lemmas.List.Elements.{All-head, All-tail, All-map, All-contains}
use Rattle.std.proofs.lemmas.Option.{slice_get_within}
use Rattle.clause_model.specs.Clauses.{negated, IsOpen, IsUnit, IsClosed}
use Rattle.clause_arena.specs.Contents.{Clause, Content, HasClause, HasLiteral, IsWhole, literals_of, literals_in, clause_among, dropped_in, references_of}
use Rattle.unit_propagation.specs.Watching.{IsWatched, IsReason, IsLater, Rule}
use Rattle.unit_propagation.proofs.Steps.{reason_later, Contains-part, Contains-cases}
use Rattle.unit_propagation.proofs.Walks.{known_later}
use Rattle.unit_propagation.proofs.Opened.{opened}
use Rattle.cdcl_core.specs.Implied.{clauses_of, IsJustified, IsCovered, BeginsAtRoot, Level, level_of, IsSpare, AreSpare}
use Rattle.cdcl_core.specs.Assumed.{IsAssumed}
use Rattle.cdcl_core.proofs.Lists.{entry_append, entry_replicate, entry_take}
use Rattle.unit_propagation.proofs.Attached.{none_in}

-- an answer by its two cases
pub outcome_of : {S : Type 0} {C : ℕ → Type 0} (r : Option ℕ) → (r ≡ None → S) → ((at : ℕ) → r ≡ Some at → C at) → MatchOption r S C
outcome_of None f g = f refl
outcome_of (Some at) f g = g at refl

-- a clause of the arena is one of its clauses
open_among : (cs : List Clause) (a : List ℕ) (r : ℕ) → Contains (map (λ (c : Clause). c.at) cs) r → All (IsOpen a) (map (λ (c : Clause). c.literals) cs) → IsOpen a (literals_in (clause_among cs r))
open_among [] a r h o = absurd (none_in r h)
open_among (c ∷ cs) a r h o = elim (cases_eq c.at r) [
  | inl e ↦ let z : nat_eq c.at r ≡ true = grind (arith, nat_tests) in rw z (All-head (IsOpen a) c.literals (map (λ (d : Clause). d.literals) cs) o)
  | inr n ↦
      let z : nat_eq c.at r ≡ false = grind (arith, nat_tests) in
      rw z (elim (Contains-cases c.at (map (λ (d : Clause). d.at) cs) r h) [
        | inl e ↦ absurd (n e)
        | inr d ↦ open_among cs a r d (All-tail (IsOpen a) c.literals (map (λ (d : Clause). d.literals) cs) o)
      ])
]

pub open_at : (content : Content) (clauses : List (List ℕ)) (a : List ℕ) (r : ℕ) → clauses_of content ≡ clauses → HasClause content r → IsClosed clauses a → IsOpen a (literals_of content r)
open_at content clauses a r e h o = open_among content.clauses a r h (subst (λ (xs : List (List ℕ)). All (IsOpen a) xs) (sym e) o)

-- and is found under its own reference
pub found_at : (cs : List Clause) (k : ℕ) (d : Clause) → AllPairs (λ r s. r < s) (map (λ (c : Clause). c.at) cs) → k < length cs → clause_among cs (get_or cs k d).at ≡ Some (get_or cs k d)
found_at [] k d h b = absurd (omega arith)
found_at (c ∷ cs) zero d h b = let z : nat_eq c.at c.at ≡ true = grind (arith, nat_tests) in rw z refl
found_at (c ∷ cs) (suc k) d h b =
    let l : k < length cs = omega arith in
    let m : k < length (map (λ (x : Clause). x.at) cs) = omega (arith, length-map cs (λ (x : Clause). x.at)) in
    let g : get_or (map (λ (x : Clause). x.at) cs) k 0 ≡ (get_or cs k d).at = get_or-map (λ (x : Clause). x.at) cs k d 0 l in
    let q : c.at < get_or (map (λ (x : Clause). x.at) cs) k 0 = h 0 (suc k) 0 (omega arith) (omega arith) in
    let z : nat_eq c.at (get_or cs k d).at ≡ false = grind (arith, nat_tests) in
    rw z (found_at cs k d (λ i j e x y. h (suc i) (suc j) e (omega arith) (omega arith)) l)

abbrev level_with : List (List ℕ) → List ℕ → ℕ → ℕ → List ℕ → Level
level_with c r s low b = record { clauses = c; references = r; size = s; low = low; base = b }

level_same : (c d : List (List ℕ)) (r q : List ℕ) (s t low : ℕ) (b e : List ℕ) → c ≡ d → r ≡ q → s ≡ t → b ≡ e → level_with c r s low b ≡ level_with d q t low e
level_same c d r q s t low b e f g h i = rw (f, g, h, i) refl

pub same_level : (level : Level) (content : Content) (reasons : List (Option ℕ)) (trail : List ℕ) → BeginsAtRoot level content reasons trail → level_of content trail level.low ≡ level
same_level level content reasons trail g = level_same (clauses_of content) level.clauses (references_of content) level.references (length content.chains) level.size level.low (take level.low trail) level.base g.clauses g.references g.size g.base

pub root_again : (level : Level) (content : Content) (reasons : List (Option ℕ)) (trail : List ℕ) → BeginsAtRoot level content reasons trail → BeginsAtRoot (level_of content trail level.low) content reasons trail
root_again level content reasons trail g = subst (λ (l : Level). BeginsAtRoot l content reasons trail) (sym (same_level level content reasons trail g)) g

pub root_onto : (level : Level) (content : Content) (reasons : List (Option ℕ)) (trail : List ℕ) → BeginsAtRoot level content reasons trail → (content' : Content) (reasons' : List (Option ℕ)) (trail' : List ℕ) → BeginsAtRoot (level_of content trail level.low) content' reasons' trail' → BeginsAtRoot level content' reasons' trail'
root_onto level content reasons trail g content' reasons' trail' h = subst (λ (l : Level). BeginsAtRoot l content' reasons' trail') (same_level level content reasons trail g) h

reason_same : (earlier later : Content) (a : List ℕ) (k r : ℕ) → later.clauses ≡ earlier.clauses → IsReason earlier a k r → IsReason later a k r
reason_same earlier later a k r e h = record {
  clause = subst (λ (cs : List Clause). Contains (map (λ (c : Clause). c.at) cs) r) (sym e) h.clause;
  unit = subst (λ (cs : List Clause). IsUnit (take k a) (literals_in (clause_among cs r)) (get_or a k 0)) (sym e) h.unit;
}

pub justified_same : (earlier later : Content) (denied : List ℕ) (reasons : List (Option ℕ)) (trail : List ℕ) → later.clauses ≡ earlier.clauses → IsJustified earlier denied reasons trail → IsJustified later denied reasons trail
justified_same earlier later denied reasons trail e j = record { aligned = j.aligned; because = λ k r f. reason_same earlier later trail k r e (j.because k r f); given = j.given }

pub spare_same : (earlier later : Content) (reasons : List (Option ℕ)) (a : List ℕ) → later.clauses ≡ earlier.clauses → AreSpare earlier reasons a → AreSpare later reasons a
spare_same earlier later reasons a e h at c f =
    let w : IsSpare earlier reasons a at = h at (subst (λ (cs : List Clause). Contains (map (λ (x : Clause). x.at) cs) at) e c) (subst (λ (cs : List Clause). dropped_in (clause_among cs at) ≡ true) e f) in
    (w.0, subst (λ (cs : List Clause). Any (Contains a) (literals_in (clause_among cs at))) (sym e) w.1)

pub covered_later : (earlier later : Content) (base : List ℕ) → later.clauses ≡ earlier.clauses → ((at : ℕ) → IsWatched earlier at → IsWatched later at) → IsCovered earlier base → IsCovered later base
covered_later earlier later base e w c at h = elim (c at (subst (λ (cs : List Clause). Contains (map (λ (x : Clause). x.at) cs) at) e h)) [
  | inl x ↦ inl (w at x)
  | inr t ↦ inr (subst (λ (cs : List Clause). Any (Contains base) (literals_in (clause_among cs at))) (sym e) t)
]

module _ (level : Level) (content : Content) (reasons : List (Option ℕ)) (trail : List ℕ) (g : BeginsAtRoot level content reasons trail) where
  pub root_back : BeginsAtRoot level content (take level.low reasons) (take level.low trail)
  root_back = record {
    clauses = g.clauses;
    references = g.references;
    size = g.size;
    within = omega (arith, g.within, length-take {A = ℕ});
    base = take_all level.low (take level.low trail) (omega (arith, length-take {A = ℕ})) ∙ g.base;
    attached = g.attached;
    known = g.known;
    literals = λ k d b.
        let m : k < level.low = omega (arith, length-take {A = ℕ}) in
        let n : k < length trail = omega (arith, length-take {A = ℕ}) in
        rw (get_or-take level.low trail k d m) (g.literals k d n);
    aligned = omega (arith, g.aligned, length-take {A = ℕ}, length-take {A = Option ℕ});
    covered = g.covered;
    rule = g.rule;
    justified = subst (λ (r : List (Option ℕ)). IsJustified content [] r level.base) (sym (take_all level.low (take level.low reasons) (omega (arith, length-take {A = Option ℕ})))) g.justified;
    spare = subst (λ (r : List (Option ℕ)). AreSpare content r level.base) (sym (take_all level.low (take level.low reasons) (omega (arith, length-take {A = Option ℕ})))) g.spare;
  }

  pub root_assumed : (literals : List ℕ) (reasons' : List (Option ℕ)) (trail' : List ℕ) → IsAssumed literals reasons trail reasons' trail' → All (HasLiteral content) trail' → BeginsAtRoot level content reasons' trail'
  root_assumed literals reasons' trail' h k =
      let n : length trail' ≡ length trail + length h.added = ap length h.trail ∙ length-append trail h.added in
      let m : length reasons' ≡ length reasons + length h.added = ap length h.unexplained ∙ (length-append reasons (replicate (length h.added) None) ∙ ap (λ (x : ℕ). length reasons + x) (length-replicate (length h.added) None)) in
      record {
        clauses = g.clauses;
        references = g.references;
        size = g.size;
        within = omega (arith, g.within);
        base = ap (λ (xs : List ℕ). take level.low xs) h.trail ∙ (take-append-le level.low trail h.added g.within ∙ g.base);
        attached = g.attached;
        known = g.known;
        literals = k;
        aligned = omega (arith, g.aligned);
        covered = g.covered;
        rule = g.rule;
        justified =
            let b : level.low ≤ length reasons = omega (arith, g.within, g.aligned) in
            let t : take level.low reasons' ≡ take level.low reasons = ap (λ (xs : List (Option ℕ)). take level.low xs) h.unexplained ∙ take-append-le level.low reasons (replicate (length h.added) None) b in
            subst (λ (r : List (Option ℕ)). IsJustified content [] r level.base) (sym t) g.justified;
        spare =
            let b : level.low ≤ length reasons = omega (arith, g.within, g.aligned) in
            let t : take level.low reasons' ≡ take level.low reasons = ap (λ (xs : List (Option ℕ)). take level.low xs) h.unexplained ∙ take-append-le level.low reasons (replicate (length h.added) None) b in
            subst (λ (r : List (Option ℕ)). AreSpare content r level.base) (sym t) g.spare;
      }

  pub root_later : (content' : Content) (reasons' : List (Option ℕ)) (trail' : List ℕ) → IsLater content trail reasons content' trail' reasons' → BeginsAtRoot level content' reasons' trail'
  root_later content' reasons' trail' l =
      let base' : take level.low trail' ≡ level.base = sym (take-take level.low (length trail) trail' g.within) ∙ (ap (λ (xs : List ℕ). take level.low xs) l.prefix ∙ g.base) in
      let t : take level.low reasons' ≡ take level.low reasons = sym (take-take level.low (length trail) reasons' g.within) ∙ ap (λ (xs : List (Option ℕ)). take level.low xs) l.reasons_kept in
      record {
        clauses = ap (λ (cs : List Clause). map (λ (c : Clause). c.literals) cs) l.clauses ∙ g.clauses;
        references = ap (λ (cs : List Clause). map (λ (c : Clause). c.at) cs) l.clauses ∙ g.references;
        size = l.size ∙ g.size;
        within = omega (arith, g.within, l.longer);
        base = base';
        attached = l.attached g.attached;
        known = known_later content content' l.clauses l.size g.known;
        literals = l.literals g.literals;
        aligned = l.aligned;
        covered = covered_later content content' level.base l.clauses l.watched g.covered;
        rule = subst (Rule content') base' (l.kept level.low g.within (subst (Rule content) (sym g.base) g.rule));
        justified = subst (λ (r : List (Option ℕ)). IsJustified content' [] r level.base) (sym t) (justified_same content content' [] (take level.low reasons) level.base l.clauses g.justified);
        spare = subst (λ (r : List (Option ℕ)). AreSpare content' r level.base) (sym t) (spare_same content content' (take level.low reasons) level.base l.clauses g.spare);
      }

  pub root_closed : IsWhole content → Rule content trail → IsClosed level.clauses trail
  root_closed whole rule = subst (λ (xs : List (List ℕ)). All (IsOpen trail) xs) g.clauses (All-map (IsOpen trail) (λ (c : Clause). c.literals) content.clauses (λ k d b.
      let c : Clause = get_or content.clauses k d in
      let f : literals_of content c.at ≡ c.literals = ap literals_in (found_at content.clauses k d whole.apart b) in
      let n : k < length (map (λ (x : Clause). x.at) content.clauses) = omega (arith, length-map content.clauses (λ (x : Clause). x.at)) in
      let h : HasClause content c.at = (k, n, get_or-map (λ (x : Clause). x.at) content.clauses k d c.at b) in
      elim (g.covered c.at h) [
        | inl w ↦ subst (IsOpen trail) f (opened content trail c.at whole w rule)
        | inr t ↦ inl (let u = subst (λ (xs : List ℕ). Any (Contains level.base) xs) f t in (u.0, u.1, u.2, u.3, Contains-part level.low trail u.1 (subst (λ (xs : List ℕ). Contains xs u.1) (sym g.base) u.4)))
      ]))

-- more literals, each with its reason
pub justified_later : (content content' : Content) (denied : List ℕ) (reasons reasons' : List (Option ℕ)) (trail trail' : List ℕ) → IsJustified content denied reasons trail → IsLater content trail reasons content' trail' reasons' → IsJustified content' denied reasons' trail'
justified_later content content' denied reasons reasons' trail trail' j l = record {
  aligned = l.aligned;
  because = λ k r e. elim (cases_lt k (length trail)) [
    | inl b ↦ reason_later content content' trail trail' k r l.clauses l.prefix b (j.because k r (subst (λ (xs : List (Option ℕ)). slice_get xs k ≡ Some (Some r)) l.reasons_kept (entry_take reasons' k (length trail) (Some r) b e)))
    | inr b ↦
        let n : k < length reasons' = slice_get_within reasons' k (Some r) e in
        let w = l.because k b (omega (arith, l.aligned)) in
        let s : Some (Some w.0) ≡ Some (Some r) = sym w.1 ∙ e in
        let q : w.0 ≡ r = cc in
        subst (IsReason content' trail' k) q w.2
  ];
  given = λ k e. elim (cases_lt k (length trail)) [
    | inl b ↦
        let n : get_or trail' k 0 ≡ get_or trail k 0 = sym (get_or-take (length trail) trail' k 0 b) ∙ ap (λ (xs : List ℕ). get_or xs k 0) l.prefix in
        rw n (j.given k (subst (λ (xs : List (Option ℕ)). slice_get xs k ≡ Some None) l.reasons_kept (entry_take reasons' k (length trail) None b e)))
    | inr b ↦
        let n : k < length reasons' = slice_get_within reasons' k None e in
        let w = l.because k b (omega (arith, l.aligned)) in
        let s : Some (Some w.0) ≡ Some None = sym w.1 ∙ e in
        absurd cc
  ];
}

pub justified_assumed : (content : Content) (denied literals : List ℕ) (reasons reasons' : List (Option ℕ)) (trail trail' : List ℕ) → IsJustified content denied reasons trail → IsAssumed literals reasons trail reasons' trail' → All (Contains denied) literals → IsJustified content denied reasons' trail'
justified_assumed content denied literals reasons reasons' trail trail' j h w =
    let n : length trail' ≡ length trail + length h.added = ap length h.trail ∙ length-append trail h.added in
    let m : length reasons' ≡ length reasons + length h.added = ap length h.unexplained ∙ (length-append reasons (replicate (length h.added) None) ∙ ap (λ (x : ℕ). length reasons + x) (length-replicate (length h.added) None)) in
    let p : take (length trail) trail' ≡ trail = ap (λ (xs : List ℕ). take (length trail) xs) h.trail ∙ take_at trail h.added (length trail) refl in
    let al : length reasons ≡ length trail = j.aligned in
    record {
      aligned = omega (arith, al);
      because = λ k r e. elim (entry_append reasons (replicate (length h.added) None) (Some r) k (subst (λ (xs : List (Option ℕ)). slice_get xs k ≡ Some (Some r)) h.unexplained e)) [
        | inl x ↦ reason_later content content trail trail' k r refl p (omega (arith, x.0, al)) (j.because k r x.1)
        | inr x ↦ let f : None ≡ Some r = (entry_replicate (length h.added) None (Some r) (k - length reasons) x.1).1 in absurd cc
      ];
      given = λ k e. elim (entry_append reasons (replicate (length h.added) None) None k (subst (λ (xs : List (Option ℕ)). slice_get xs k ≡ Some None) h.unexplained e)) [
        | inl x ↦
            let b : k < length trail = omega (arith, x.0, al) in
            let q : get_or trail' k 0 ≡ get_or trail k 0 = sym (get_or-take (length trail) trail' k 0 b) ∙ ap (λ (xs : List ℕ). get_or xs k 0) p in
            rw q (j.given k x.1)
        | inr x ↦
            let b : k - length reasons < length h.added = (entry_replicate (length h.added) None None (k - length reasons) x.1).0 in
            let i : length trail + (k - length reasons) ≡ k = omega (arith, x.0, al) in
            let q : get_or trail' k 0 ≡ get_or h.added (k - length reasons) 0 = ap (λ (xs : List ℕ). get_or xs k 0) h.trail ∙ (ap (λ (y : ℕ). get_or (trail ++ h.added) y 0) (sym i) ∙ get_or-append-add trail h.added (k - length reasons) 0) in
            rw q (All-contains (Contains denied) literals (negated (get_or h.added (k - length reasons) 0)) w (h.within (k - length reasons) 0 b))
      ];
    }

pub justified_more : (content : Content) (denied more : List ℕ) (reasons : List (Option ℕ)) (trail : List ℕ) → All (Contains more) denied → IsJustified content denied reasons trail → IsJustified content more reasons trail
justified_more content denied more reasons trail w j = record { aligned = j.aligned; because = j.because; given = λ k e. All-contains (Contains more) denied (negated (get_or trail k 0)) w (j.given k e) }
