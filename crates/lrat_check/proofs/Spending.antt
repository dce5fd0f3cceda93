-- Additions in order, each shortened, cost no more than the lines that they come from.
use Rattle.std.proofs.Common.{◌≡◌, ℕ, ℤ, zero, suc, ◌<◌, ◌≤◌, List, [], ◌∷◌, get_or, map, take, sym, ap, inl, inr, arith, Option, subst}
use Rattle.std.specs.Prelude.{All, AllPairs, Contains, unsigned_abs}
use Rattle.std.proofs.lemmas.Bool.{cases_eq}
use Rattle.std.proofs.lemmas.List.{take-map}
use Rattle.std.proofs.lemmas.List.Elements.{All-contains, Contains-get_or}
use Rattle.std.proofs.lemmas.List.Sums.{sum_by-cons}
use Rattle.clause_model.specs.Clauses.{hint_lengths}
use Rattle.lrat_check.specs.Text.{Content, addition, deletion, id_of, meant, names_of, Suffice, IsShortened, used_lengths}
use Rattle.lrat_check.specs.Checking.{State, live_at, Starts, AddsClause}
use Rattle.lrat_check.specs.Runs.{IsRefutation, Costs}
use Rattle.lrat_check.specs.Shown.{IsBefore}
use Rattle.lrat_check.proofs.Members.{head_or_tail, head_in, tail_in, none_in, first_of_pairs, rest_of_pairs}
use Rattle.lrat_check.proofs.Sufficing.{EndsAt, lengths_like}
use Rattle.lrat_check.proofs.Placed.{Tracks, Tracks-begun, Tracks-next, Placed, Ascends, ascends_to, meant_origin}
use Rattle.lrat_check.proofs.Shortened.{lits, goes_up, ends_there}

costs_ascend : (old : State) (lines : List Content) (n : ℕ) → Costs old lines n → Ascends old.last lines
costs_ascend old [] n c = tt
costs_ascend old (addition id literals hints ∷ lines) n (next, m, a, more, e) = (a.later, subst (λ (n : ℕ). Ascends n lines) a.last (costs_ascend next lines m more))
costs_ascend old (deletion id ids ∷ lines) n (next, m, a, more, e) = subst (λ (n : ℕ). Ascends n lines) a.last (costs_ascend next lines m more)

take_lengths : (live : ℕ → Option (List ℕ)) (n : ℕ) (hints : List ℕ) → hint_lengths live (take n hints) ≤ hint_lengths live hints
take_lengths live zero hints = omega arith
take_lengths live (suc n) [] = omega arith
take_lengths live (suc n) (h ∷ hints) = let b : hint_lengths live (take n hints) ≤ hint_lengths live hints = take_lengths live n hints in omega arith

-- an addition of the lines, with its hints up to the one whose clause became false
abbrev IsFrom : List (List ℕ) → List Content → List Content → Content → Type 0
IsFrom clauses lines some (addition id literals hints) =
    (all : List ℤ) × (n : ℕ) × Contains some (addition id literals all) × Suffice (meant clauses lines) (lits literals) (map unsigned_abs all) n × (hints ≡ take n all)
IsFrom clauses lines some (deletion id ids) = ⊥

module _ (clauses : List (List ℕ)) (lines : List Content) where
  from_rest : (line : Content) (rest : List Content) (x : Content) → IsFrom clauses lines (line ∷ rest) x → (id_of x ≡ id_of line → ⊥) → IsFrom clauses lines rest x
  from_rest line rest (addition id literals hints) (all, n, i, s, e) d = elim (head_or_tail line rest (addition id literals all) i) [
    | inl t ↦ absurd (d (sym (ap id_of t)))
    | inr j ↦ (all, n, j, s, e)
  ]
  from_rest line rest (deletion id ids) sh d = absurd sh

  from_later : (last : ℕ) (rest : List Content) → Ascends last rest → (x : Content) → IsFrom clauses lines rest x → last < id_of x
  from_later last rest a (addition id literals hints) (all, n, i, s, e) = ascends_to last rest id literals all a i
  from_later last rest a (deletion id ids) sh = absurd sh

  from_deletion : (id : ℕ) (ids : List ℕ) (rest : List Content) (x : Content) → IsFrom clauses lines (deletion id ids ∷ rest) x → IsFrom clauses lines rest x
  from_deletion id ids rest (addition n literals hints) (all, m, i, s, e) = elim (head_or_tail (deletion id ids) rest (addition n literals all) i) [
    | inl t ↦ cc
    | inr j ↦ (all, m, j, s, e)
  ]
  from_deletion id ids rest (deletion n ns) sh = absurd sh

  module _ (r : IsRefutation clauses lines) where
    -- one addition costs no more than its line
    one_costs : (old next : State) (id : ℕ) (literals : List ℕ) (hints : List ℤ) → Tracks clauses lines old → AddsClause old id literals hints next → (n : ℕ) → Suffice (meant clauses lines) (lits literals) (map unsigned_abs hints) n → hint_lengths (meant clauses lines) (map unsigned_abs (take n hints)) ≤ hint_lengths (live_at old) (map unsigned_abs hints)
    one_costs old next id literals hints t a n s =
        let p : Placed clauses lines id literals hints = record { state = old; tracks = t; later = a.later; no_minus = a.no_minus; follows = a.follows } in
        let end : EndsAt (live_at old) (lits literals) (map unsigned_abs hints) n = ends_there clauses lines r id literals hints p n s in
        let same : hint_lengths (live_at old) (take n (map unsigned_abs hints)) ≡ hint_lengths (meant clauses lines) (take n (map unsigned_abs hints)) =
        lengths_like (live_at old) (meant clauses lines) (lits literals) (map unsigned_abs hints) n (λ q c e. meant_origin clauses lines q c (goes_up clauses lines r) (t.origin q c e)) end in
        let few : hint_lengths (live_at old) (take n (map unsigned_abs hints)) ≤ hint_lengths (live_at old) (map unsigned_abs hints) = take_lengths (live_at old) n (map unsigned_abs hints) in
        rw (← take-map unsigned_abs n hints) (omega arith)

    module _ (old next : State) (id : ℕ) (literals : List ℕ) (hints : List ℤ) (rest : List Content) (t : Tracks clauses lines old) (a : AddsClause old id literals hints next) (up : Ascends id rest) where
      line : Content
      line = addition id literals hints

      not_before : (x : Content) → IsFrom clauses lines (addition id literals hints ∷ rest) x → id ≤ id_of x
      not_before x f = elim (cases_eq (id_of x) id) [
        | inl s ↦ omega arith
        | inr d ↦ let b : id < id_of x = from_later id rest up x (from_rest (addition id literals hints) rest x f d) in omega arith
      ]

      head_costs : (x : Content) → IsFrom clauses lines (addition id literals hints ∷ rest) x → id_of x ≡ id → hint_lengths (meant clauses lines) (names_of x) ≤ hint_lengths (live_at old) (map unsigned_abs hints)
      head_costs (addition m ls hs) (all, n, i, s, e) same = elim (head_or_tail (addition id literals hints) rest (addition m ls all) i) [
        | inl z ↦
            let u : literals ≡ ls = cc in
            let v : hints ≡ all = cc in
            let w : Suffice (meant clauses lines) (lits literals) (map unsigned_abs hints) n = rw (u, v) s in
            let f : hs ≡ take n hints = rw v e in
            rw f (one_costs old next id literals hints t a n w)
        | inr j ↦ let b : id < m = ascends_to id rest m ls all up j in absurd (omega arith)
      ]
      head_costs (deletion m ids) sh same = absurd sh

      all_rest : (xs : List Content) → All (IsFrom clauses lines (addition id literals hints ∷ rest)) xs → ((x : Content) → Contains xs x → id < id_of x) → All (IsFrom clauses lines rest) xs
      all_rest xs h l k d b =
          let x : Content = get_or xs k d in
          let m : id < id_of x = l x (Contains-get_or xs k d b) in
          from_rest (addition id literals hints) rest x (h k d b) (λ e. (let e' : id_of x ≡ id = e in omega arith))

    spent : (rest : List Content) (old : State) (n : ℕ) → ((m : Content) → Contains rest m → Contains lines m) → Tracks clauses lines old → Costs old rest n → (xs : List Content) → All (IsFrom clauses lines rest) xs → AllPairs IsBefore xs → used_lengths clauses lines xs ≤ n
    spent [] old n w t c [] h o = omega arith
    spent [] old n w t c (x ∷ xs) h o = absurd (nothing x (All-contains (IsFrom clauses lines []) (x ∷ xs) x h (head_in x xs)))
      where
        nothing : (x : Content) → IsFrom clauses lines [] x → ⊥
        nothing (addition id literals hints) (all, n, i, s, e) = none_in (addition id literals all) i
        nothing (deletion id ids) sh = sh
    spent (deletion id ids ∷ rest) old n w t c [] h o = omega arith
    spent (addition id literals hints ∷ rest) old n w t c [] h o = omega arith
    spent (deletion id ids ∷ rest) old n w t (next, m, a, more, e) (x ∷ xs) h o =
        let b : used_lengths clauses lines (x ∷ xs) ≤ m =
        spent rest next m (λ y i. w y (tail_in (deletion id ids) rest y i)) (Tracks-next clauses lines old next (deletion id ids) (w (deletion id ids) (head_in (deletion id ids) rest)) a t) more (x ∷ xs) (λ k d b. from_deletion id ids rest (get_or (x ∷ xs) k d) (h k d b)) o in
        omega arith
    spent (addition id literals hints ∷ rest) old n w t (next, m, a, more, e) (x ∷ xs) h o =
        let line : Content = addition id literals hints in
        let up : Ascends id rest = subst (λ (n : ℕ). Ascends n rest) a.last (costs_ascend next rest m more) in
        let track : Tracks clauses lines next = Tracks-next clauses lines old next line (w line (head_in line rest)) a t in
        let in_rest : (y : Content) → Contains rest y → Contains lines y = λ y i. w y (tail_in line rest y i) in
        let f : IsFrom clauses lines (line ∷ rest) x = All-contains (IsFrom clauses lines (line ∷ rest)) (x ∷ xs) x h (head_in x xs) in
        let low : id ≤ id_of x = not_before old next id literals hints rest t a up x f in
        elim (cases_eq (id_of x) id) [
          | inl same ↦
              let head : hint_lengths (meant clauses lines) (names_of x) ≤ hint_lengths (live_at old) (map unsigned_abs hints) = head_costs old next id literals hints rest t a up x f same in
              let tail : All (IsFrom clauses lines rest) xs = all_rest old next id literals hints rest t a up xs (λ k d b. h (suc k) d (omega arith)) (λ y i. (let b : id_of x < id_of y = first_of_pairs x xs IsBefore o y i in omega arith)) in
              let b : used_lengths clauses lines xs ≤ m = spent rest next m in_rest track more xs tail (rest_of_pairs x xs IsBefore o) in
              rw (sum_by-cons (λ line. hint_lengths (meant clauses lines) (names_of line)) x xs) (omega arith)
          | inr other ↦
              let all : All (IsFrom clauses lines rest) (x ∷ xs) = all_rest old next id literals hints rest t a up (x ∷ xs) h (λ y i. elim (head_or_tail x xs y i) [
                | inl s ↦ let z : id_of x ≡ id_of y = ap id_of s in omega arith
                | inr j ↦ let b : id_of x < id_of y = first_of_pairs x xs IsBefore o y j in omega arith
              ]) in
              let b : used_lengths clauses lines (x ∷ xs) ≤ m = spent rest next m in_rest track more (x ∷ xs) all o in
              omega arith
        ]

    is_from : (x : Content) → IsShortened clauses lines x → IsFrom clauses lines lines x
    is_from (addition id literals hints) sh = sh
    is_from (deletion id ids) sh = sh

    pub spent_within : (first : State) (n : ℕ) → Starts clauses first → Costs first lines n → (xs : List Content) → All (IsShortened clauses lines) xs → AllPairs IsBefore xs → used_lengths clauses lines xs ≤ n
    spent_within first n s c xs h o = spent lines first n (λ m i. i) (Tracks-begun clauses lines first s) c xs (λ k d b. is_from (get_or xs k d) (h k d b)) o
