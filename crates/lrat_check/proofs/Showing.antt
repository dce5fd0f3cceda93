-- The loop of trimming: one addition is looked at, shortened and kept, within the bound on steps.
use Rattle.std.proofs.Common.{◌≡◌, ℕ, ℤ, ◌+◌, ◌-◌, ◌<◌, ◌≤◌, List, [], ◌∷◌, ◌++◌, length, get_or, map, take, reverse, replicate, set, refl, sym, ◌∙◌, ap, inl, inr, arith, Option, subst, Bool, true, false, true≢false, Vec, vec_len}
use Rattle.std.specs.Prelude.{All, AllPairs, Contains, IsTrue, ◌↔◌, unsigned_abs}
use Rattle.std.specs.Borrow.{Bor}
use Rattle.std.specs.Global.{Global}
use Rattle.std.proofs.lemmas.List.{get_or_default, get_or-map, get_or_read, length-map, length-replicate, length-set, map_push, take-map, reverse-append}
use Rattle.std.proofs.lemmas.List.Elements.{Contains-get_or}
use Rattle.std.proofs.lemmas.List.Sums.{sum_by-cons}
use Rattle.step_ledger.specs.Counts.{RisesBy}
use Rattle.clause_model.specs.Clauses.{HasDistinctVariables, hint_lengths}
use Rattle.clause_model.proofs.Sound.{negations_consistent}
use Rattle.lrat_check.specs.declared.line.Addition.{Addition}
use Rattle.lrat_check.specs.declared.line.Line.{Line}
use Rattle.lrat_check.specs.declared.meanings.Meanings.{Meanings}
use Rattle.lrat_check.specs.declared.shown.Shown.{Shown}
use Rattle.lrat_check.specs.Text.{Content, content_of, addition, deletion, id_of, meant, names_of, Suffice, IsShortened, HasEmpty, used_lengths}
use Rattle.lrat_check.specs.Checking.{State, Starts}
use Rattle.lrat_check.specs.Costs.{IsPartOf, LooksAt}
use Rattle.lrat_check.specs.Runs.{contents_of, Costs, IsRefutation}
use Rattle.lrat_check.specs.Ending.{add_of, adds_of, literals_in, up_to_empty}
use Rattle.lrat_check.specs.Shown.{IsBefore, cut_of}
use Rattle.lrat_check.specs.Meant.{IsMeant, LooksAtFewest, ShowsAt, meant_by}
use Rattle.lrat_check.proofs.Sufficing.{EndsAt, EndsAt-like, Suffice-from_end, end_from_Suffice, looked_lengths, lengths_like}
use Rattle.lrat_check.proofs.Placed.{Origin, meant_origin}
use Rattle.lrat_check.proofs.Shortened.{lits, goes_up, suffices, place as placed_at}
use Rattle.lrat_check.proofs.Ending.{ending_in, ending_adds, ending_above, ending_order}
use Rattle.lrat_check.proofs.Meant.{ids_are, meant_from}
use Rattle.lrat_check.proofs.Marking.{ids_in_order, last_marked}
use Rattle.lrat_check.proofs.Spending.{spent_within}
use Rattle.lrat_check.proofs.Backward.{Going, Going-begun, next_only, next_order, ends}

-- the line kept last is the first of the reversed lines
pub reverse_push : {X : Type 0} (xs : List X) (x : X) → reverse (xs ++ x ∷ []) ≡ x ∷ reverse xs
reverse_push xs x = reverse-append xs (x ∷ [])

pub contents_turned : (lines : List Line) → contents_of (reverse lines) ≡ reverse (contents_of lines)
contents_turned [] = refl
contents_turned (x ∷ xs) =
    ap contents_of (reverse-append (x ∷ []) xs)
    ∙ map_push content_of (reverse xs) x
    ∙ ap (λ (ys : List Content). ys ++ content_of x ∷ []) (contents_turned xs)
    ∙ sym (reverse-append (content_of x ∷ []) (contents_of xs))

-- the additions of a refutation have ascending ids above those of the formula
module _ (clauses : List (List ℕ)) (lines : List Content) (r : IsRefutation clauses lines) (additions : List (Bor Addition)) (e : adds_of additions ≡ up_to_empty lines) where
  same_ids : map (λ (a : Bor Addition). id_of (add_of a)) additions ≡ map id_of (up_to_empty lines)
  same_ids = ids_are additions ∙ ap (map id_of) e

  pub additions_ordered : AllPairs (λ id later. id < later) (map (λ (a : Bor Addition). id_of (add_of a)) additions)
  additions_ordered = subst (λ (ids : List ℕ). AllPairs (λ id later. id < later) ids) (sym same_ids) (ids_in_order (up_to_empty lines) (ending_order (length clauses) lines (goes_up clauses lines r)))

  pub additions_above : (given : List (Vec ℕ Global)) → literals_in given ≡ clauses → All (λ id. length given < id) (map (λ (a : Bor Addition). id_of (add_of a)) additions)
  additions_above given f = subst (λ (ids : List ℕ). All (λ id. length given < id) ids) (sym same_ids) (λ k d b.
      let l : length (map id_of (up_to_empty lines)) ≡ length (up_to_empty lines) = length-map (up_to_empty lines) id_of in
      let c : k < length (up_to_empty lines) = omega arith in
      let x : Content = get_or (up_to_empty lines) k (deletion 0 []) in
      let above : length clauses < id_of x = ending_above (length clauses) lines (goes_up clauses lines r) x (Contains-get_or (up_to_empty lines) k (deletion 0 []) c) in
      let at : get_or (map id_of (up_to_empty lines)) k d ≡ id_of x = get_or-map id_of (up_to_empty lines) k (deletion 0 []) d c in
      let g : length given ≡ length clauses = sym (length-map given (λ (v : Vec ℕ Global). v.items)) ∙ ap length f in
      omega arith)

pub vec_long : (v : Vec (Bor Addition) Global) → vec_len v ≡ length v.items
vec_long v = omega arith

-- what is known of the meanings of a formula without an empty clause
pub is_meant : (clauses : List (List ℕ)) (lines : List Content) (m : Meanings) (given : Vec (Vec ℕ Global) Global) (additions : Vec (Bor Addition) Global) → IsRefutation clauses lines → (flag : Bool) (seen : List (Vec ℕ Global)) → seen ≡ given.items → IsTrue flag ↔ HasEmpty (literals_in seen) → flag ≡ false → literals_in given.items ≡ clauses → adds_of additions.items ≡ up_to_empty lines → m.given ≡ given → m.additions ≡ additions → IsMeant clauses lines m
is_meant clauses lines m given additions r flag seen s t f e g a b =
    let all : literals_in seen ≡ clauses = ap literals_in s ∙ e in
    record {
      refutes = r;
      open' = λ h. true≢false (sym (t.1 (subst HasEmpty (sym all) h)) ∙ f);
      given' = ap (λ (v : Vec (Vec ℕ Global) Global). literals_in v.items) a ∙ e;
      ends = ap (λ (v : Vec (Bor Addition) Global). adds_of v.items) b ∙ g;
    }

-- what is looked at where hints suffice
pub counted : (live : ℕ → Option (List ℕ)) (literals : List ℕ) (hints : List ℤ) (n before after : ℕ) → HasDistinctVariables literals → Suffice live (lits literals) (map unsigned_abs hints) n → (k : ℕ) × LooksAt live (lits literals) (map unsigned_abs hints) k × RisesBy before after k → RisesBy before after (hint_lengths live (map unsigned_abs (take n hints)))
counted live literals hints n before after d s (k, l, r) =
    let e : k ≡ hint_lengths live (take n (map unsigned_abs hints)) = looked_lengths live (lits literals) (map unsigned_abs hints) n k (negations_consistent literals d) (end_from_Suffice live (lits literals) (map unsigned_abs hints) n s) l in
    subst (λ (m : ℕ). RisesBy before after m) (e ∙ ap (hint_lengths live) (take-map unsigned_abs n hints)) r

module _ (clauses : List (List ℕ)) (lines : List Content) (m : Meanings) (h : IsMeant clauses lines m) where
  part_meant : IsPartOf (meant_by m) (meant clauses lines)
  part_meant q c e = meant_origin clauses lines q c (goes_up clauses lines h.refutes) (origin (meant_from (literals_in m.given.items) (adds_of m.additions.items) q c e))
    where
      origin : Origin (literals_in m.given.items) (adds_of m.additions.items) q c → Origin clauses lines q c
      origin (inl f) = inl (rw (← h.given') f)
      origin (inr (hints, i)) = inr (hints, ending_in lines (addition q c hints) (rw (← h.ends) i))

  long : length (up_to_empty lines) ≡ length m.additions.items
  long = sym (ap length h.ends) ∙ length-map m.additions.items add_of

  pub ids_of_all : m.ids.items ≡ map id_of (up_to_empty lines)
  ids_of_all = m.ids_are ∙ ids_are m.additions.items ∙ ap (map id_of) h.ends

  -- none is kept yet, and the last is marked
  pub going_first : (marks : List Bool) (n from : ℕ) → n ≡ length m.additions.items → 0 < n → marks ≡ set (replicate n false) (n - 1) true → Going clauses lines h.refutes h.open' [] marks n from from
  going_first marks n from e b f =
      let same : length (up_to_empty lines) ≡ n = long ∙ sym e in
      let l : length marks ≡ length (up_to_empty lines) = ap length f ∙ length-set (replicate n false) (n - 1) true ∙ length-replicate n false ∙ sym same in
      subst (λ (n : ℕ). Going clauses lines h.refutes h.open' [] marks n from from) same
      (Going-begun clauses lines h.refutes h.open' marks from l
      (λ k c. subst (λ (n : ℕ). (get_or marks k false ≡ true → k + 1 ≡ n) × (k + 1 ≡ n → get_or marks k false ≡ true)) (sym same)
      (subst (λ (ms : List Bool). (get_or ms k false ≡ true → k + 1 ≡ n) × (k + 1 ≡ n → get_or ms k false ≡ true)) (sym f) (last_marked n k b (omega arith)))))

  pub never_none : length m.additions.items ≤ 0 → ⊥
  never_none z = let b = (ends clauses lines h.refutes h.open').0 in let l = long in omega arith

  pub places_within : (n place : ℕ) → n ≡ vec_len m.additions → place ≤ n → place ≤ length m.additions.items
  places_within n place e b = let l = vec_long m.additions in omega arith

  -- one more place, counted down
  module _ (done : List Content) (marks : List Bool) (place from now : ℕ) (p : 0 < place) (w : place ≤ length m.additions.items) (g : Going clauses lines h.refutes h.open' done marks place from now) where
    pub place_within : place - 1 < length (up_to_empty lines)
    place_within = let l = long in omega arith

    pub going_here : Going clauses lines h.refutes h.open' done marks ((place - 1) + 1) from now
    going_here = let e : place ≡ (place - 1) + 1 = omega arith in subst (λ (n : ℕ). Going clauses lines h.refutes h.open' done marks n from now) e g

    pub mark_here : (b : Bool) → b ≡ get_or marks (place - 1) b → get_or marks (place - 1) false ≡ b
    mark_here b r = let s = g.same in let l = place_within in let i : place - 1 < length marks = omega arith in sym (get_or_read marks (place - 1) b i r false)

  module _ (place : ℕ) (b : place < length (up_to_empty lines)) (shown : Shown) (s : ShowsAt m place shown) where
    there : get_or (up_to_empty lines) place (add_of shown.addition) ≡ add_of shown.addition
    there = subst (λ (xs : List Content). get_or xs place (add_of shown.addition) ≡ add_of shown.addition) h.ends (sym s.there)

    ended : EndsAt (meant_by m) (lits shown.addition.now.literals.items) (map unsigned_abs shown.addition.now.hints.items) shown.hints
    ended = end_from_Suffice (meant_by m) (lits shown.addition.now.literals.items) (map unsigned_abs shown.addition.now.hints.items) shown.hints s.suffice

    pub shown_short : IsShortened clauses lines (cut_of shown)
    shown_short = (
      shown.addition.now.hints.items,
      shown.hints,
      ending_in lines (add_of shown.addition) (place, b, there),
      Suffice-from_end (meant clauses lines) (lits shown.addition.now.literals.items) (map unsigned_abs shown.addition.now.hints.items) shown.hints
          (EndsAt-like (meant_by m) (meant clauses lines) (lits shown.addition.now.literals.items) (map unsigned_abs shown.addition.now.hints.items) shown.hints (λ q c i e. part_meant q c e) ended),
      refl,
    )

    pub shown_there : (d : Content) → id_of (get_or (up_to_empty lines) place d) ≡ id_of (cut_of shown)
    shown_there d = ap id_of (get_or_default (up_to_empty lines) place d (add_of shown.addition) b ∙ there)

    pub shown_rises : (before after : ℕ) → RisesBy before after (hint_lengths (meant_by m) (names_of (cut_of shown))) → RisesBy before after (hint_lengths (meant clauses lines) (names_of (cut_of shown)))
    shown_rises before after r =
        let e = take-map unsigned_abs shown.hints shown.addition.now.hints.items in
        let like = lengths_like (meant_by m) (meant clauses lines) (lits shown.addition.now.literals.items) (map unsigned_abs shown.addition.now.hints.items) shown.hints part_meant ended in
        subst (λ (n : ℕ). RisesBy before after n) (ap (hint_lengths (meant_by m)) (sym e) ∙ like ∙ ap (hint_lengths (meant clauses lines)) e) r

  module _ (first : State) (n : ℕ) (starts : Starts clauses first) (costs : Costs first lines n) (done : List Content) (marks : List Bool) (place from now : ℕ) where
    pub going_within : Going clauses lines h.refutes h.open' done marks place from now → now ≤ from + n
    going_within g =
        let b : used_lengths clauses lines done ≤ n = spent_within clauses lines h.refutes first n starts costs done (λ k d b. (g.only k d b).0) g.in_order in
        let r = g.rises.1 in
        omega arith

    -- what was looked at of one more addition
    looks_at : (place : ℕ) (b : place < length (up_to_empty lines)) → Going clauses lines h.refutes h.open' done marks (place + 1) from now → get_or marks place false ≡ true → (after : ℕ) → LooksAtFewest m place now after → after ≤ from + n
    looks_at place b g t after f = go (get_or (up_to_empty lines) place (deletion 0 [])) refl
      where
        go : (x : Content) → get_or (up_to_empty lines) place (deletion 0 []) ≡ x → after ≤ from + n
        go (deletion id ids) e = absurd (ending_adds lines id ids (subst (Contains (up_to_empty lines)) e (Contains-get_or (up_to_empty lines) place (deletion 0 []) b)))
        go (addition id literals hints) e =
            let i : Contains lines (addition id literals hints) = ending_in lines (addition id literals hints) (subst (Contains (up_to_empty lines)) e (Contains-get_or (up_to_empty lines) place (deletion 0 []) b)) in
            let at : (d : Content) → get_or (up_to_empty lines) place d ≡ addition id literals hints = λ d. get_or_default (up_to_empty lines) place d (deletion 0 []) b ∙ e in
            let k = suffices clauses lines h.refutes id literals hints (placed_at clauses lines h.refutes id literals hints i) in
            let sh : IsShortened clauses lines (addition id literals (take k.0 hints)) = (hints, k.0, i, k.2, refl) in
            let line : Content = addition id literals (take k.0 hints) in
            let only : All (IsShortened clauses lines) (line ∷ done) = next_only clauses lines h.refutes h.open' done marks place from now b g t line sh (λ d. ap id_of (at d)) in
            let order : AllPairs IsBefore (line ∷ done) = next_order clauses lines h.refutes h.open' done marks place from now b g t line sh (λ d. ap id_of (at d)) in
            let all : used_lengths clauses lines (line ∷ done) ≤ n = spent_within clauses lines h.refutes first n starts costs (line ∷ done) only order in
            let sum = sum_by-cons (λ line. hint_lengths (meant clauses lines) (names_of line)) line done in
            let there : get_or (adds_of m.additions.items) place (addition id literals hints) ≡ addition id literals hints = subst (λ (xs : List Content). get_or xs place (addition id literals hints) ≡ addition id literals hints) (sym h.ends) (at (addition id literals hints)) in
            let few : after ≤ now + hint_lengths (meant clauses lines) (take k.0 (map unsigned_abs hints)) = f (meant clauses lines) k.0 id literals hints part_meant there k.2 in
            let e : hint_lengths (meant clauses lines) (take k.0 (map unsigned_abs hints)) ≡ hint_lengths (meant clauses lines) (map unsigned_abs (take k.0 hints)) = ap (hint_lengths (meant clauses lines)) (take-map unsigned_abs k.0 hints) in
            let r = g.rises.1 in
            omega arith

    pub looks_here : (0 < place) → place ≤ length m.additions.items → Going clauses lines h.refutes h.open' done marks place from now → (b : Bool) → b ≡ get_or marks (place - 1) b → b ≡ true → (after : ℕ) → LooksAtFewest m (place - 1) now after → after ≤ from + n
    looks_here p w g b r t after f =
        looks_at (place - 1) (place_within done marks place from now p w g) (going_here done marks place from now p w g) (mark_here done marks place from now p w g b r ∙ t) after f
