-- Which clauses are live when a line is checked, and that each comes from the formula or an earlier line.
use Rattle.std.proofs.Common.{◌≡◌, ℕ, ℤ, ◌-◌, ◌<◌, ◌≤◌, ◌⊎◌, List, [], ◌∷◌, length, map, refl, sym, ◌∙◌, inl, inr, arith, Option, Some, None, subst, true, false, nat_eq}
use Rattle.std.specs.Prelude.{All, Contains, unsigned_abs, slice_get}
use Rattle.std.proofs.lemmas.Bool.{cases_eq}
use Rattle.std.proofs.lemmas.Bool.Decides.{nat_tests}
use Rattle.std.proofs.lemmas.Option.{slice_get_within}
use Rattle.clause_model.specs.Clauses.{negated, Refutes, numbered}
use Rattle.lrat_check.specs.Numbers.{is_negative}
use Rattle.lrat_check.specs.Text.{Content, addition, deletion, without, Deletes, meant}
use Rattle.lrat_check.specs.Checking.{State, live_at, Starts, AddsClause, Accepts}
use Rattle.lrat_check.specs.Runs.{AcceptsAll}
use Rattle.lrat_check.proofs.Members.{head_or_tail, tail_in, head_in, none_in}

-- the clause is the formula's, or a line adds it
abbrev pub Origin : List (List ℕ) → List Content → ℕ → List ℕ → Type 0
Origin clauses lines q c = (numbered clauses q ≡ Some c) ⊎ ((hints : List ℤ) × Contains lines (addition q c hints))

-- each live clause is the formula's or comes from a line, and has an id up to the last
pub record Tracks (clauses : List (List ℕ)) (lines : List Content) (state : State) : Type 0 where
  pub origin : (q : ℕ) (c : List ℕ) → live_at state q ≡ Some c → Origin clauses lines q c
  pub below : (q : ℕ) (c : List ℕ) → live_at state q ≡ Some c → q ≤ state.last
  pub start : length clauses ≤ state.last

pub numbered_within : (clauses : List (List ℕ)) (q : ℕ) (c : List ℕ) → numbered clauses q ≡ Some c → q ≤ length clauses
numbered_within clauses q c e = elim (cases_eq q 0) [
  | inl z ↦ omega arith
  | inr d ↦
      let z : nat_eq q 0 ≡ false = grind (arith, nat_tests) in
      let f : slice_get clauses (q - 1) ≡ Some c = rw z at e in
      let b : q - 1 < length clauses = slice_get_within clauses (q - 1) c f in
      omega arith
]

without_keeps : (live : ℕ → Option (List ℕ)) (id q : ℕ) (c : List ℕ) → without live id q ≡ Some c → live q ≡ Some c
without_keeps live id q c e = elim (cases_eq q id) [
  | inl s ↦ let z : nat_eq q id ≡ true = grind (arith, nat_tests) in let o : None ≡ Some c = rw z at e in cc
  | inr d ↦ let z : nat_eq q id ≡ false = grind (arith, nat_tests) in rw z at e
]

deletes_keeps : (live : ℕ → Option (List ℕ)) (ids : List ℕ) (later : ℕ → Option (List ℕ)) (q : ℕ) (c : List ℕ) → Deletes live ids later → later q ≡ Some c → live q ≡ Some c
deletes_keeps live [] later q c d e = sym (d q) ∙ e
deletes_keeps live (id ∷ ids) later q c d e = without_keeps live id q c (deletes_keeps (without live id) ids later q c d.1 e)

module _ (clauses : List (List ℕ)) (lines : List Content) where
  pub Tracks-begun : (state : State) → Starts clauses state → Tracks clauses lines state
  Tracks-begun state s = record {
    origin = λ q c e. inl (sym (s.live q) ∙ e);
    below = λ q c e. rw s.last (numbered_within clauses q c (sym (s.live q) ∙ e));
    start = let l = s.last in omega arith;
  }

  pub Tracks-next : (old new : State) (line : Content) → Contains lines line → Accepts old line new → Tracks clauses lines old → Tracks clauses lines new
  Tracks-next old new (addition id literals hints) i a t =
      let later = a.later in
      let last = a.last in
      let start = t.start in
      record {
        origin = λ q c e. elim (cases_eq q id) [
          | inl s ↦
              let f : live_at new id ≡ Some c = subst (λ (q : ℕ). live_at new q ≡ Some c) s e in
              let g : literals ≡ c = (let o : Some literals ≡ Some c = sym a.live.0 ∙ f in cc) in
              inr (hints, rw (s, ← g) i)
          | inr d ↦ t.origin q c (sym (a.live.1 q d) ∙ e)
        ];
        below = λ q c e. elim (cases_eq q id) [
          | inl s ↦ omega arith
          | inr d ↦ let b : q ≤ old.last = t.below q c (sym (a.live.1 q d) ∙ e) in omega arith
        ];
        start = omega arith;
      }
  Tracks-next old new (deletion id ids) i a t =
      let last = a.last in
      let start = t.start in
      record {
        origin = λ q c e. t.origin q c (deletes_keeps (live_at old) ids (live_at new) q c a.live e);
        below = λ q c e. let b : q ≤ old.last = t.below q c (deletes_keeps (live_at old) ids (live_at new) q c a.live e) in omega arith;
        start = omega arith;
      }

-- the state in which a line that adds a clause is checked
pub record Placed (clauses : List (List ℕ)) (lines : List Content) (id : ℕ) (literals : List ℕ) (hints : List ℤ) : Type 0 where
  pub state : State
  pub tracks : Tracks clauses lines state
  pub later : state.last < id
  pub no_minus : All (λ h. is_negative h ≡ false) hints
  pub follows : Refutes (live_at state) (map negated literals) (map unsigned_abs hints)

pub placed : (clauses : List (List ℕ)) (lines rest : List Content) (old new : State) → ((m : Content) → Contains rest m → Contains lines m) → Tracks clauses lines old → AcceptsAll old rest new → (id : ℕ) (literals : List ℕ) (hints : List ℤ) → Contains rest (addition id literals hints) → Placed clauses lines id literals hints
placed clauses lines [] old new w t a id literals hints i = absurd (none_in (addition id literals hints) i)
placed clauses lines (line ∷ rest) old new w t (next, a, more) id literals hints i = elim (head_or_tail line rest (addition id literals hints) i) [
  | inl e ↦
      let b : AddsClause old id literals hints next = subst (λ (l : Content). Accepts old l next) e a in
      record { state = old; tracks = t; later = b.later; no_minus = b.no_minus; follows = b.follows }
  | inr j ↦ placed clauses lines rest next new (λ m k. w m (tail_in line rest m k)) (Tracks-next clauses lines old next line (w line (head_in line rest)) a t) more id literals hints j
]

-- the ids ascend
abbrev pub Ascends : ℕ → List Content → Type 0
Ascends last [] = Unit {0}
Ascends last (addition id literals hints ∷ lines) = (last < id) × Ascends id lines
Ascends last (deletion id ids ∷ lines) = Ascends last lines

pub ascends : (old new : State) (lines : List Content) → AcceptsAll old lines new → Ascends old.last lines
ascends old new [] a = tt
ascends old new (addition id literals hints ∷ lines) (next, a, more) = (a.later, subst (λ (n : ℕ). Ascends n lines) a.last (ascends next new lines more))
ascends old new (deletion id ids ∷ lines) (next, a, more) = subst (λ (n : ℕ). Ascends n lines) a.last (ascends next new lines more)

pub ascends_to : (last : ℕ) (lines : List Content) (id : ℕ) (literals : List ℕ) (hints : List ℤ) → Ascends last lines → Contains lines (addition id literals hints) → last < id
ascends_to last [] id literals hints a i = absurd (none_in (addition id literals hints) i)
ascends_to last (addition n l h ∷ lines) id literals hints a i = elim (head_or_tail (addition n l h) lines (addition id literals hints) i) [
  | inl e ↦ let s : n ≡ id = cc in let b = a.0 in omega arith
  | inr j ↦ let b : n < id = ascends_to n lines id literals hints a.1 j in let c = a.0 in omega arith
]
ascends_to last (deletion n ids ∷ lines) id literals hints a i = elim (head_or_tail (deletion n ids) lines (addition id literals hints) i) [
  | inl e ↦ cc
  | inr j ↦ ascends_to last lines id literals hints a j
]

-- the clause that an id names
meant_added : (clauses : List (List ℕ)) (last : ℕ) (lines : List Content) (q : ℕ) (c : List ℕ) (hints : List ℤ) → Ascends last lines → Contains lines (addition q c hints) → meant clauses lines q ≡ Some c
meant_added clauses last [] q c hints a i = absurd (none_in (addition q c hints) i)
meant_added clauses last (addition n l h ∷ lines) q c hints a i = elim (head_or_tail (addition n l h) lines (addition q c hints) i) [
  | inl e ↦
      let s : n ≡ q = cc in
      let t : l ≡ c = cc in
      let z : nat_eq q n ≡ true = grind (arith, nat_tests) in
      rw (z, t) refl
  | inr j ↦
      let b : n < q = ascends_to n lines q c hints a.1 j in
      let z : nat_eq q n ≡ false = grind (arith, nat_tests) in
      rw z (meant_added clauses n lines q c hints a.1 j)
]
meant_added clauses last (deletion n ids ∷ lines) q c hints a i = elim (head_or_tail (deletion n ids) lines (addition q c hints) i) [
  | inl e ↦ cc
  | inr j ↦ meant_added clauses last lines q c hints a j
]

pub meant_numbered : (clauses : List (List ℕ)) (last : ℕ) (lines : List Content) (q : ℕ) → Ascends last lines → q ≤ last → meant clauses lines q ≡ numbered clauses q
meant_numbered clauses last [] q a b = refl
meant_numbered clauses last (addition n l h ∷ lines) q a b =
    let d = a.0 in
    let z : nat_eq q n ≡ false = grind (arith, nat_tests) in
    rw z (meant_numbered clauses n lines q a.1 (let e : q ≤ n = omega arith in e))
meant_numbered clauses last (deletion n ids ∷ lines) q a b = meant_numbered clauses last lines q a b

pub meant_origin : (clauses : List (List ℕ)) (lines : List Content) (q : ℕ) (c : List ℕ) → Ascends (length clauses) lines → Origin clauses lines q c → meant clauses lines q ≡ Some c
meant_origin clauses lines q c a (inl e) = meant_numbered clauses (length clauses) lines q a (numbered_within clauses q c e) ∙ e
meant_origin clauses lines q c a (inr (hints, i)) = meant_added clauses (length clauses) lines q c hints a i
