-- The look-up of trimming finds the clause that an id names.
use Rattle.std.proofs.Common.{◌≡◌, ℕ, ℤ, suc, ◌+◌, ◌-◌, ◌<◌, ◌≤◌, List, [], ◌∷◌, ◌++◌, length, get_or, map, drop, refl, sym, ◌∙◌, ap, inl, inr, arith, Some, None, subst, nat_eq, append_assoc, Bool, true, false, Vec, vec_len}
use Rattle.std.specs.Prelude.{◌==◌, All, AllPairs, Contains}
use Rattle.std.specs.Borrow.{Bor}
use Rattle.std.specs.Global.{Global}
use Rattle.std.proofs.lemmas.Bool.{cases_eq, eqb-true, true≢false}
use Rattle.std.proofs.lemmas.Bool.Decides.{nat_tests}
use Rattle.std.proofs.lemmas.List.{drop_more, get_or-map, length-map, nil_from_length}
use Rattle.std.proofs.lemmas.List.Elements.{Contains-get_or}
use Rattle.std.proofs.lemmas.Option.{slice_get_past}
use Rattle.clause_model.specs.Clauses.{numbered}
use Rattle.lrat_check.specs.declared.line.Line.{Line}
use Rattle.lrat_check.specs.declared.line.Addition.{Addition}
use Rattle.lrat_check.specs.Text.{Content, content_of, addition, deletion, id_of, meant}
use Rattle.lrat_check.specs.Runs.{contents_of}
use Rattle.lrat_check.specs.Ending.{add_of, adds_of, clause_of, up_to_empty}
use Rattle.lrat_check.proofs.Members.{rest_of_pairs, head_in, tail_in, head_or_tail, none_in}
use Rattle.lrat_check.proofs.Placed.{Origin, Ascends, meant_origin, meant_numbered}

-- whether a clause is empty
pub vec_empty : (b : Bool) (v : Vec ℕ Global) → b ≡ (vec_len v == 0) → b ≡ true → v.items ≡ []
vec_empty b v e t = let n : vec_len v ≡ 0 = eqb-true (vec_len v) 0 (sym e ∙ t) in let z : length v.items ≡ 0 = omega arith in nil_from_length v.items z

pub vec_some : (b : Bool) (v : Vec ℕ Global) → b ≡ (vec_len v == 0) → b ≡ false → v.items ≡ [] → ⊥
vec_some b v e f z =
    let k : length v.items ≡ 0 = rw z refl in
    let n : vec_len v ≡ 0 = omega arith in
    let t : b ≡ true = e ∙ rw n refl in
    true≢false (sym t ∙ f)

-- the ids of the additions
pub ids_are : (additions : List (Bor Addition)) → map (λ (a : Bor Addition). id_of (add_of a)) additions ≡ map id_of (adds_of additions)
ids_are [] = refl
ids_are (x ∷ xs) = ap (λ (ids : List ℕ). id_of (add_of x) ∷ ids) (ids_are xs)

-- the clauses of the additions
abbrev literals_of : Content → List ℕ
literals_of (addition id literals hints) = literals
literals_of (deletion id ids) = []

literals_are : (additions : List (Bor Addition)) → map clause_of additions ≡ map literals_of (adds_of additions)
literals_are [] = refl
literals_are (x ∷ xs) = ap (λ (clauses : List (List ℕ)). clause_of x ∷ clauses) (literals_are xs)

adds_only : (additions : List (Bor Addition)) (id : ℕ) (ids : List ℕ) → Contains (adds_of additions) (deletion id ids) → ⊥
adds_only [] id ids i = none_in (deletion id ids) i
adds_only (x ∷ xs) id ids i = elim (head_or_tail (add_of x) (adds_of xs) (deletion id ids) i) [ inl e ↦ cc | inr j ↦ adds_only xs id ids j ]

ascends_from : (last : ℕ) (adds : List Content) → All (λ id. last < id) (map id_of adds) → AllPairs (λ id later. id < later) (map id_of adds) → Ascends last adds
ascends_from last [] a p = tt
ascends_from last (addition id literals hints ∷ adds) a p =
    (a 0 0 (omega arith), ascends_from id adds (λ k d b. p 0 (suc k) d (omega arith) (omega arith)) (rest_of_pairs id (map id_of adds) (λ x y. x < y) p))
ascends_from last (deletion id ids ∷ adds) a p = ascends_from last adds (λ k d b. a (suc k) d (omega arith)) (rest_of_pairs id (map id_of adds) (λ x y. x < y) p)

meant_none : (clauses : List (List ℕ)) (adds : List Content) (q : ℕ) → ((k : ℕ) → k < length (map id_of adds) → get_or (map id_of adds) k 0 ≡ q → ⊥) → meant clauses adds q ≡ numbered clauses q
meant_none clauses [] q n = refl
meant_none clauses (addition id literals hints ∷ adds) q n =
    let d : id ≡ q → ⊥ = n 0 (omega arith) in
    let z : nat_eq q id ≡ false = elim (cases_eq q id) [ inl e ↦ absurd (d (sym e)) | inr o ↦ grind (arith, nat_tests) ] in
    rw z (meant_none clauses adds q (λ k b. n (suc k) (omega arith)))
meant_none clauses (deletion id ids ∷ adds) q n = meant_none clauses adds q (λ k b. n (suc k) (omega arith))

numbered_past : (clauses : List (List ℕ)) (q : ℕ) → length clauses < q → numbered clauses q ≡ None
numbered_past clauses q b =
    let z : nat_eq q 0 ≡ false = grind (arith, nat_tests) in
    rw z (slice_get_past clauses (q - 1) (omega arith))

pub meant_from : (clauses : List (List ℕ)) (adds : List Content) (q : ℕ) (c : List ℕ) → meant clauses adds q ≡ Some c → Origin clauses adds q c
meant_from clauses [] q c e = inl e
meant_from clauses (addition id literals hints ∷ adds) q c e = elim (cases_eq q id) [
  | inl s ↦
      let z : nat_eq q id ≡ true = grind (arith, nat_tests) in
      let o : Some literals ≡ Some c = rw z at e in
      let t : literals ≡ c = cc in
      inr (hints, subst (λ (x : Content). Contains (addition id literals hints ∷ adds) x) (rw (s, t) refl) (head_in (addition id literals hints) adds))
  | inr d ↦
      let z : nat_eq q id ≡ false = grind (arith, nat_tests) in
      more (addition id literals hints) adds q c (meant_from clauses adds q c (rw z at e))
]
  where
    more : (x : Content) (adds : List Content) (q : ℕ) (c : List ℕ) → Origin clauses adds q c → Origin clauses (x ∷ adds) q c
    more x adds q c (inl e) = inl e
    more x adds q c (inr (hints, i)) = inr (hints, tail_in x adds (addition q c hints) i)
meant_from clauses (deletion id ids ∷ adds) q c e = more (meant_from clauses adds q c e)
  where
    more : Origin clauses adds q c → Origin clauses (deletion id ids ∷ adds) q c
    more (inl e) = inl e
    more (inr (hints, i)) = inr (hints, tail_in (deletion id ids) adds (addition q c hints) i)

module _ (clauses : List (List ℕ)) (additions : List (Bor Addition)) (ids : List ℕ) (e : ids ≡ map (λ (a : Bor Addition). id_of (add_of a)) additions) (above : All (λ id. length clauses < id) ids) (p : AllPairs (λ id later. id < later) ids) where
  same_ids : ids ≡ map id_of (adds_of additions)
  same_ids = e ∙ ids_are additions

  up : Ascends (length clauses) (adds_of additions)
  up = ascends_from (length clauses) (adds_of additions) (subst (λ (xs : List ℕ). All (λ id. length clauses < id) xs) same_ids above) (subst (λ (xs : List ℕ). AllPairs (λ id later. id < later) xs) same_ids p)

  pub means_given : (q : ℕ) → q ≤ length clauses → meant clauses (adds_of additions) q ≡ numbered clauses q
  means_given q b = meant_numbered clauses (length clauses) (adds_of additions) q up b

  pub means_none : (q : ℕ) → length clauses < q → ((k : ℕ) → k < length ids → get_or ids k 0 ≡ q → ⊥) → meant clauses (adds_of additions) q ≡ None
  means_none q b n =
      meant_none clauses (adds_of additions) q (subst (λ (xs : List ℕ). (k : ℕ) → k < length xs → get_or xs k 0 ≡ q → ⊥) same_ids n) ∙ numbered_past clauses q b

  pub means_added : (all : List (List ℕ)) → all ≡ map clause_of additions → (q place : ℕ) → place < length ids → get_or ids place 0 ≡ q → meant clauses (adds_of additions) q ≡ Some (get_or all place [])
  means_added all same q place b f =
      let l : length ids ≡ length additions = ap length e ∙ length-map additions (λ (a : Bor Addition). id_of (add_of a)) in
      let within : place < length (adds_of additions) = rw length-map (omega arith) in
      go (get_or (adds_of additions) place (deletion 0 [])) refl within
    where
      go : (x : Content) → get_or (adds_of additions) place (deletion 0 []) ≡ x → place < length (adds_of additions) → meant clauses (adds_of additions) q ≡ Some (get_or all place [])
      go (addition id literals hints) is within =
          let i : Contains (adds_of additions) (addition id literals hints) = subst (Contains (adds_of additions)) is (Contains-get_or (adds_of additions) place (deletion 0 []) within) in
          let id_is : get_or ids place 0 ≡ id = ap (λ (xs : List ℕ). get_or xs place 0) same_ids ∙ get_or-map id_of (adds_of additions) place (deletion 0 []) 0 within ∙ ap id_of is in
          let at : get_or all place [] ≡ literals =
          ap (λ (xs : List (List ℕ)). get_or xs place []) (same ∙ literals_are additions) ∙ get_or-map literals_of (adds_of additions) place (deletion 0 []) [] within ∙ ap literals_of is in
          subst (λ (n : ℕ). meant clauses (adds_of additions) n ≡ Some (get_or all place [])) (sym id_is ∙ f) (meant_origin clauses (adds_of additions) id literals up (inr (hints, i)) ∙ ap (λ (x : List ℕ). Some x) (sym at))
      go (deletion id ns) is within = absurd (adds_only additions id ns (subst (Contains (adds_of additions)) is (Contains-get_or (adds_of additions) place (deletion 0 []) within)))

-- the loop that finds the additions up to the first empty clause
module _ (lines : List Line) (i : ℕ) (x : Line) (b : i < length lines) (is : x ≡ get_or lines i x) (line : Content) (e : content_of x ≡ line) (found : List Content) (h : found ++ up_to_empty (drop i (contents_of lines)) ≡ up_to_empty (contents_of lines)) where
  line_at : get_or (contents_of lines) i line ≡ line
  line_at = get_or-map content_of lines i x line b ∙ ap content_of (sym is) ∙ e

  drop_line : drop i (contents_of lines) ≡ line ∷ drop (i + 1) (contents_of lines)
  drop_line = drop_more (contents_of lines) i line (rw length-map b) ∙ ap (λ (y : Content). y ∷ drop (i + 1) (contents_of lines)) line_at

  here : found ++ up_to_empty (line ∷ drop (i + 1) (contents_of lines)) ≡ up_to_empty (contents_of lines)
  here = subst (λ (xs : List Content). found ++ up_to_empty xs ≡ up_to_empty (contents_of lines)) drop_line h

  pub found_deletion : (id : ℕ) (ids : List ℕ) → line ≡ deletion id ids → found ++ up_to_empty (drop (i + 1) (contents_of lines)) ≡ up_to_empty (contents_of lines)
  found_deletion id ids f = subst (λ (l : Content). found ++ up_to_empty (l ∷ drop (i + 1) (contents_of lines)) ≡ up_to_empty (contents_of lines)) f here

  pub found_last : (id : ℕ) (literals : List ℕ) (hints : List ℤ) → line ≡ addition id literals hints → literals ≡ [] → found ++ line ∷ [] ≡ up_to_empty (contents_of lines)
  found_last id literals hints f z =
      let g : line ≡ addition id [] hints = f ∙ ap (λ (ls : List ℕ). addition id ls hints) z in
      let y = subst (λ (l : Content). found ++ up_to_empty (l ∷ drop (i + 1) (contents_of lines)) ≡ up_to_empty (contents_of lines)) g here in
      ap (λ (l : Content). found ++ l ∷ []) g ∙ y

  pub found_addition : (id : ℕ) (literals : List ℕ) (hints : List ℤ) → line ≡ addition id literals hints → (literals ≡ [] → ⊥) → (found ++ line ∷ []) ++ up_to_empty (drop (i + 1) (contents_of lines)) ≡ up_to_empty (contents_of lines)
  found_addition id literals hints f z =
      append_assoc found (line ∷ []) (up_to_empty (drop (i + 1) (contents_of lines)))
      ∙ ap (λ (l : Content). found ++ l ∷ up_to_empty (drop (i + 1) (contents_of lines))) f
      ∙ ap (λ (xs : List Content). found ++ xs) (goes_on literals z)
      ∙ subst (λ (l : Content). found ++ up_to_empty (l ∷ drop (i + 1) (contents_of lines)) ≡ up_to_empty (contents_of lines)) f here
    where
      goes_on : (literals : List ℕ) → (literals ≡ [] → ⊥) → addition id literals hints ∷ up_to_empty (drop (i + 1) (contents_of lines)) ≡ up_to_empty (addition id literals hints ∷ drop (i + 1) (contents_of lines))
      goes_on [] z = absurd (z refl)
      goes_on (l ∷ ls) z = refl
