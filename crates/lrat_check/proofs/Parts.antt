-- The used part of a refutation refutes, each of its lines is needed, it is its own used part, and it is unique.
use Rattle.std.proofs.Common.{◌≡◌, ℕ, ℤ, ◌<◌, ◌≤◌, ◌⊎◌, List, [], ◌∷◌, ◌++◌, length, get_or, map, take, refl, sym, ◌∙◌, ap, inl, inr, arith, Option, Some, subst, Bool, true, false, nat_eq, append_assoc}
use Rattle.std.specs.Prelude.{All, AllPairs, Any, Contains, IsTrue, ◌↔◌, unsigned_abs}
use Rattle.std.proofs.lemmas.Bool.{cases_eq}
use Rattle.std.proofs.lemmas.Bool.Decides.{nat_tests}
use Rattle.std.proofs.lemmas.List.{append-nil, take-map, take_all, length-take, length-map}
use Rattle.std.proofs.lemmas.List.Elements.{All-contains, All-take, Contains-get_or, Contains-append_right, Contains-append_cases, Contains-push_cases}
use Rattle.clause_model.specs.Clauses.{Refutes, numbered}
use Rattle.lrat_check.specs.Numbers.{is_negative}
use Rattle.lrat_check.specs.Text.{Content, addition, deletion, id_of, meant, Suffice, names_of, IsShortened, IsUsed, empty, named, IsUsedPart, HasEmpty, IsTrimmed, EachIsNamed}
use Rattle.lrat_check.specs.Checking.{State, live_at, AddsClause}
use Rattle.lrat_check.specs.Runs.{AcceptsAll, IsRefutation}
use Rattle.lrat_check.proofs.Members.{head_or_tail, tail_in, head_in, none_in, first_of_pairs, rest_of_pairs, same_elements}
use Rattle.lrat_check.proofs.Sufficing.{EndsAt, EndsAt-like, EndsAt-take, EndsAt-within, EndsAt-refutes, Suffice-from_end, Suffice-once}
use Rattle.lrat_check.proofs.Placed.{Origin, Tracks-begun, ascends_to, meant_origin}
use Rattle.lrat_check.proofs.Shortened.{lits, goes_up, place, ends_there, named_before, names_below, shortened, used_up_to, used_by, refutation_ends}

abbrev pub IsBefore : Content → Content → Type 0
IsBefore line later = id_of line < id_of later

-- the state with one more clause
becomes_refuted : Bool → List ℕ → Bool
becomes_refuted b [] = true
becomes_refuted b (l ∷ ls) = b

abbrev with_line : State → ℕ → List ℕ → State
with_line state id literals = record { entries = (id, literals) ∷ state.entries; last = id; refuted = becomes_refuted state.refuted literals }

refuted_after : (b : Bool) (literals : List ℕ) → IsTrue (becomes_refuted b literals) ↔ (IsTrue b ⊎ (literals ≡ []))
unfolding becomes_refuted
refuted_after b [] = (λ t. inr refl, λ s. refl)
refuted_after b (l ∷ ls) = (λ t. inl t, λ s. elim s [ inl t ↦ t | inr e ↦ cc ])

live_same : (state : State) (id : ℕ) (literals : List ℕ) → live_at (with_line state id literals) id ≡ Some literals
live_same state id literals = let z : nat_eq id id ≡ true = grind (arith, nat_tests) in rw z refl

live_other : (state : State) (id : ℕ) (literals : List ℕ) (q : ℕ) → (q ≡ id → ⊥) → live_at (with_line state id literals) q ≡ live_at state q
live_other state id literals q d = let z : nat_eq q id ≡ false = grind (arith, nat_tests) in rw z refl

-- just the formula's clauses and those of the lines so far are live
record Holds (clauses : List (List ℕ)) (state : State) (before : List Content) : Type 0 where
  pub formula : (q : ℕ) (c : List ℕ) → numbered clauses q ≡ Some c → live_at state q ≡ Some c
  pub added : (q : ℕ) (c : List ℕ) (hints : List ℤ) → Contains before (addition q c hints) → live_at state q ≡ Some c
  pub below : (q : ℕ) (c : List ℕ) → live_at state q ≡ Some c → q ≤ state.last
  pub ends : (q : ℕ) (hints : List ℤ) → Contains before (addition q [] hints) → state.refuted ≡ true

Holds-next : (clauses : List (List ℕ)) (state : State) (before : List Content) (id : ℕ) (literals : List ℕ) (hints : List ℤ) → state.last < id → Holds clauses state before → Holds clauses (with_line state id literals) (before ++ addition id literals hints ∷ [])
Holds-next clauses state before id literals hints later h =
    let other : (q : ℕ) (c : List ℕ) → live_at state q ≡ Some c → q ≡ id → ⊥ = λ q c e s. (let b : q ≤ state.last = h.below q c e in omega arith) in
    let keep : (q : ℕ) (c : List ℕ) → live_at state q ≡ Some c → live_at (with_line state id literals) q ≡ Some c = λ q c e. live_other state id literals q (other q c e) ∙ e in
    record {
      formula = λ q c e. keep q c (h.formula q c e);
      added = λ q c hs i. elim (Contains-push_cases before (addition id literals hints) (addition q c hs) i) [
        | inl j ↦ keep q c (h.added q c hs j)
        | inr e ↦ let s : id ≡ q = cc in let t : literals ≡ c = cc in subst (λ (m : ℕ). live_at (with_line state id literals) m ≡ Some c) s (live_same state id literals ∙ ap (λ (x : List ℕ). Some x) t)
      ];
      below = λ q c e. elim (cases_eq q id) [
        | inl s ↦ omega arith
        | inr d ↦ let b : q ≤ state.last = h.below q c (sym (live_other state id literals q d) ∙ e) in omega arith
      ];
      ends = λ q hs i. elim (Contains-push_cases before (addition id literals hints) (addition q [] hs) i) [
        | inl j ↦ (refuted_after state.refuted literals).1 (inl (h.ends q hs j))
        | inr e ↦ let t : literals ≡ [] = cc in (refuted_after state.refuted literals).1 (inr t)
      ];
    }

module _ (clauses : List (List ℕ)) (lines result : List Content) (r : IsRefutation clauses lines) (p : IsUsedPart clauses lines result) where
  -- a clause that a hint in the result names is the formula's, or a line of the result adds it
  result_origin : (line : Content) (q : ℕ) (c : List ℕ) → Contains result line → Contains (names_of line) q → Origin clauses lines q c → (numbered clauses q ≡ Some c) ⊎ ((hints : List ℤ) × Contains result (addition q c hints))
  result_origin line q c i k (inl e) = inl e
  result_origin line q c i k (inr (hints, j)) =
      let o = All-contains (λ line. IsShortened clauses lines line × IsUsed clauses lines (id_of line)) result line p.only i in
      let s = shortened clauses lines r q c hints j in
      inr (take s.0 hints, p.every (addition q c (take s.0 hints)) s.1 (named line o.0 o.1 k))

  -- the hints that a line keeps suffice in the result too, and name the same clauses
  module _ (id : ℕ) (literals : List ℕ) (hints all : List ℤ) (n : ℕ) (i : Contains result (addition id literals hints)) (w : Contains lines (addition id literals all)) (s : Suffice (meant clauses lines) (lits literals) (map unsigned_abs all) n) (e : hints ≡ take n all) where
    names_are : map unsigned_abs hints ≡ take n (map unsigned_abs all)
    names_are = ap (map unsigned_abs) e ∙ sym (take-map unsigned_abs n all)

    kept_end : (later : ℕ → Option (List ℕ)) → ((q : ℕ) (c : List ℕ) → q < id → (numbered clauses q ≡ Some c) ⊎ ((hs : List ℤ) × Contains result (addition q c hs)) → later q ≡ Some c) → EndsAt later (lits literals) (map unsigned_abs hints) n
    kept_end later f =
        let pl = place clauses lines r id literals all w in
        let x : EndsAt (live_at pl.state) (lits literals) (map unsigned_abs all) n = ends_there clauses lines r id literals all pl n s in
        let y : EndsAt later (lits literals) (map unsigned_abs all) n =
        EndsAt-like (live_at pl.state) later (lits literals) (map unsigned_abs all) n
        (λ q c k l. f q c (named_before clauses lines r id literals all pl n q s k).0 (result_origin (addition id literals hints) q c i (subst (λ (xs : List ℕ). Contains xs q) (sym names_are) k) (pl.tracks.origin q c l))) x in
        subst (λ (xs : List ℕ). EndsAt later (lits literals) xs n) (sym names_are) (EndsAt-take later (lits literals) (map unsigned_abs all) n y)

  above : (line : Content) → IsShortened clauses lines line → length clauses < id_of line
  above (deletion id ids) sh = absurd sh
  above (addition id literals hints) (all, n, w, s, e) = ascends_to (length clauses) lines id literals all (goes_up clauses lines r) w

  accepts_rest : (before rest : List Content) → before ++ rest ≡ result → AllPairs IsBefore rest → (state : State) → Holds clauses state before → ((m : Content) → Contains rest m → state.last < id_of m) → (end : State) × AcceptsAll state rest end × Holds clauses end result
  accepts_rest before [] e o state h b = (state, refl, subst (Holds clauses state) (sym (append-nil before) ∙ e) h)
  accepts_rest before (deletion id ids ∷ rest) e o state h b =
      absurd (All-contains (λ line. IsShortened clauses lines line × IsUsed clauses lines (id_of line)) result (deletion id ids) p.only (subst (λ (xs : List Content). Contains xs (deletion id ids)) e (Contains-append_right before (deletion id ids ∷ rest) (deletion id ids) (head_in (deletion id ids) rest)))).0
  accepts_rest before (addition id literals hints ∷ rest) e o state h b =
      let line : Content = addition id literals hints in
      let i : Contains result line = subst (λ (xs : List Content). Contains xs line) e (Contains-append_right before (line ∷ rest) line (head_in line rest)) in
      let only = All-contains (λ line. IsShortened clauses lines line × IsUsed clauses lines (id_of line)) result line p.only i in
      let sh = only.0 in
      let later : state.last < id = b line (head_in line rest) in
      let found : (q : ℕ) (c : List ℕ) → q < id → (numbered clauses q ≡ Some c) ⊎ ((hs : List ℤ) × Contains result (addition q c hs)) → live_at state q ≡ Some c =
      λ q c l s. elim s [
        | inl k ↦ h.formula q c k
        | inr k ↦ elim (Contains-append_cases before (line ∷ rest) (addition q c k.0) (subst (λ (xs : List Content). Contains xs (addition q c k.0)) (sym e) k.1)) [
          | inl j ↦ h.added q c k.0 j
          | inr j ↦ elim (head_or_tail line rest (addition q c k.0) j) [
            | inl z ↦ let s : id ≡ q = cc in absurd (omega arith)
            | inr t ↦ let g : id < q = first_of_pairs line rest IsBefore o (addition q c k.0) t in absurd (omega arith)
          ]
        ]
      ] in
      let end : EndsAt (live_at state) (lits literals) (map unsigned_abs hints) sh.1 = kept_end id literals hints sh.0 sh.1 i sh.2 sh.3 sh.4 (live_at state) found in
      let cut : length hints ≡ length (take sh.1 sh.0) = ap length sh.4 in
      let full : take sh.1 (map unsigned_abs hints) ≡ map unsigned_abs hints =
      take_all sh.1 (map unsigned_abs hints) (rw (length-map hints unsigned_abs) (let x : length hints ≤ sh.1 = omega (arith, length-take sh.1 sh.0) in x)) in
      let follows : Refutes (live_at state) (lits literals) (map unsigned_abs hints) = subst (λ (xs : List ℕ). Refutes (live_at state) (lits literals) xs) full (EndsAt-refutes (live_at state) (lits literals) (map unsigned_abs hints) sh.1 end) in
      let next : State = with_line state id literals in
      let adds : AddsClause state id literals hints next = record {
        later = later;
        no_minus = subst (λ (xs : List ℤ). All (λ h. is_negative h ≡ false) xs) (sym sh.4) (All-take (λ h. is_negative h ≡ false) sh.1 sh.0 (place clauses lines r id literals sh.0 sh.2).no_minus);
        follows = follows;
        live = (live_same state id literals, λ q d. live_other state id literals q d);
        last = refl;
        refuted = refuted_after state.refuted literals;
      } in
      let more = accepts_rest (before ++ line ∷ []) rest (append_assoc before (line ∷ []) rest ∙ e) (rest_of_pairs line rest IsBefore o) next (Holds-next clauses state before id literals hints later h) (λ m k. first_of_pairs line rest IsBefore o m k) in
      (more.0, (next, adds, more.1), more.2)

  pub part_refutes : (HasEmpty clauses → ⊥) → IsRefutation clauses result
  part_refutes n =
      let f = refutation_ends clauses lines r n in
      let s = shortened clauses lines r f.0 [] f.1.adds.0 f.1.adds.1 in
      let i : Contains result (addition f.0 [] (take s.0 f.1.adds.0)) = p.every (addition f.0 [] (take s.0 f.1.adds.0)) s.1 (empty f.1) in
      let begun : Holds clauses r.first [] = record {
        formula = λ q c e. r.starts.live q ∙ e;
        added = λ q c hs i. absurd (none_in (addition q c hs) i);
        below = (Tracks-begun clauses lines r.first r.starts).below;
        ends = λ q hs i. absurd (none_in (addition q [] hs) i);
      } in
      let a = accepts_rest [] result refl p.in_order r.first begun
      (λ m i. (let b : length clauses < id_of m = above m (All-contains (λ line. IsShortened clauses lines line × IsUsed clauses lines (id_of line)) result m p.only i).0 in let l = r.starts.last in omega arith)) in
      record { first = r.first; last = a.0; starts = r.starts; accepts = a.1; refuted = a.2.ends f.0 (take s.0 f.1.adds.0) i }

  -- a hint of a later line names each line but the last
  names_rest : (rest : List Content) → ((m : Content) → Contains rest m → Contains result m) → ((y m : Content) → Contains rest y → Contains result m → id_of y < id_of m → Contains rest m) → AllPairs IsBefore rest → EachIsNamed rest
  names_rest [] w c o = tt
  names_rest (line ∷ rest) w c o =
      (named_later rest refl, names_rest rest (λ m i. w m (tail_in line rest m i)) (λ y m i j b. elim (head_or_tail line rest m (c y m (tail_in line rest y i) j b)) [ inl e ↦ absurd (let l : id_of line < id_of y = first_of_pairs line rest IsBefore o y i in let k : id_of line ≡ id_of m = ap id_of e in omega arith) | inr k ↦ k ]) (rest_of_pairs line rest IsBefore o))
    where
      named_later : (after : List Content) → after ≡ rest → (rest ≡ []) ⊎ Any (λ later. Contains (names_of later) (id_of line)) rest
      named_later [] e = inl (sym e)
      named_later (y ∷ ys) e =
          let only = All-contains (λ line. IsShortened clauses lines line × IsUsed clauses lines (id_of line)) result line p.only (w line (head_in line rest)) in
          let yi : Contains rest y = subst (λ (xs : List Content). Contains xs y) e (head_in y ys) in
          elim (used_by clauses lines (id_of line) only.1) [
            | inl f ↦
                let u = All-contains (λ line. IsShortened clauses lines line × IsUsed clauses lines (id_of line)) result y p.only (w y (tail_in line rest y yi)) in
                let a : id_of y ≤ id_of line = used_up_to clauses lines r (id_of line) (id_of y) f u.1 in
                let b : id_of line < id_of y = first_of_pairs line rest IsBefore o y yi in
                absurd (omega arith)
            | inr m ↦
                let b : id_of line < id_of m.0 = names_below clauses lines r m.0 (id_of line) m.1 m.3 in
                elim (head_or_tail line rest m.0 (c line m.0 (head_in line rest) (p.every m.0 m.1 m.2) b)) [
                  | inl z ↦ let k : id_of line ≡ id_of m.0 = ap id_of z in absurd (omega arith)
                  | inr k ↦ inr (k.0, m.0, k.1, k.2, m.3)
                ]
          ]

  pub part_named : EachIsNamed result
  part_named = names_rest result (λ m i. i) (λ y m i j b. j) p.in_order

  -- the used part is its own used part
  module _ (again : IsRefutation clauses result) where
    still_suffice : (id : ℕ) (literals : List ℕ) (hints : List ℤ) → Contains result (addition id literals hints) → Suffice (meant clauses result) (lits literals) (map unsigned_abs hints) (length hints)
    still_suffice id literals hints i =
        let only = All-contains (λ line. IsShortened clauses lines line × IsUsed clauses lines (id_of line)) result (addition id literals hints) p.only i in
        let sh = only.0 in
        let up = goes_up clauses result again in
        let end : EndsAt (meant clauses result) (lits literals) (map unsigned_abs hints) sh.1 = kept_end id literals hints sh.0 sh.1 i sh.2 sh.3 sh.4 (meant clauses result) (λ q c l s. meant_origin clauses result q c up s) in
        let low : sh.1 ≤ length (map unsigned_abs hints) = EndsAt-within (meant clauses result) (lits literals) (map unsigned_abs hints) sh.1 end in
        let cut : length hints ≡ length (take sh.1 sh.0) = ap length sh.4 in
        let high : length hints ≤ sh.1 = omega (arith, length-take sh.1 sh.0) in
        let same : sh.1 ≡ length hints = omega (arith, length-map hints unsigned_abs) in
        subst (Suffice (meant clauses result) (lits literals) (map unsigned_abs hints)) same (Suffice-from_end (meant clauses result) (lits literals) (map unsigned_abs hints) sh.1 end)

    still_shortened : (line : Content) → Contains result line → IsShortened clauses result line
    still_shortened (deletion id ids) i = absurd (All-contains (λ line. IsShortened clauses lines line × IsUsed clauses lines (id_of line)) result (deletion id ids) p.only i).0
    still_shortened (addition id literals hints) i = (hints, length hints, i, still_suffice id literals hints i, sym (take_all (length hints) hints (omega arith)))

    only_these : (line : Content) → IsShortened clauses result line → Contains result line
    only_these (deletion id ids) sh = absurd sh
    only_these (addition id literals hints) (all, n, i, s, e) =
        let same : n ≡ length all = Suffice-once (meant clauses result) (lits literals) (map unsigned_abs all) n (length all) s (still_suffice id literals all i) in
        let h : hints ≡ all = e ∙ take_all n all (omega arith) in
        rw h i

    still_used : (q : ℕ) → IsUsed clauses lines q → IsUsed clauses result q
    still_used q (empty f) =
        let s = shortened clauses lines r q [] f.adds.0 f.adds.1 in
        empty record {
          adds = (take s.0 f.adds.0, p.every (addition q [] (take s.0 f.adds.0)) s.1 (empty f));
          first = λ m hs i. (let only = All-contains (λ line. IsShortened clauses lines line × IsUsed clauses lines (id_of line)) result (addition m [] hs) p.only i in f.first m only.0.0 only.0.2);
        }
    still_used q (named line sh u c) = named line (still_shortened line (p.every line sh u)) (still_used (id_of line) u) c

    pub part_again : IsUsedPart clauses result result
    part_again = record {
      only = λ k d b. (let i : Contains result (get_or result k d) = Contains-get_or result k d b in (still_shortened (get_or result k d) i, still_used (id_of (get_or result k d)) (p.only k d b).1));
      every = λ line sh u. only_these line sh;
      in_order = p.in_order;
    }

-- the used part is unique
pub part_once : (clauses : List (List ℕ)) (lines a b : List Content) → IsUsedPart clauses lines a → IsUsedPart clauses lines b → a ≡ b
part_once clauses lines a b p q = same_elements id_of a b p.in_order q.in_order
    (λ z i. let o = All-contains (λ line. IsShortened clauses lines line × IsUsed clauses lines (id_of line)) a z p.only i in q.every z o.0 o.1)
    (λ z i. let o = All-contains (λ line. IsShortened clauses lines line × IsUsed clauses lines (id_of line)) b z q.only i in p.every z o.0 o.1)

pub trimmed_once : (clauses : List (List ℕ)) (lines a b : List Content) → IsTrimmed clauses lines a → IsTrimmed clauses lines b → a ≡ b
trimmed_once clauses lines a b (inl p) (inl q) = p.1 ∙ sym q.1
trimmed_once clauses lines a b (inl p) (inr q) = absurd (q.0 p.0)
trimmed_once clauses lines a b (inr p) (inl q) = absurd (p.0 q.0)
trimmed_once clauses lines a b (inr p) (inr q) = part_once clauses lines a b p.1 q.1

pub trimmed_refutes : (clauses : List (List ℕ)) (lines result : List Content) → IsRefutation clauses lines → IsTrimmed clauses lines result → IsRefutation clauses result
trimmed_refutes clauses lines result r (inl p) = subst (IsRefutation clauses) (sym p.1) record { first = r.first; last = r.first; starts = r.starts; accepts = refl; refuted = r.starts.refuted.1 p.0 }
trimmed_refutes clauses lines result r (inr p) = part_refutes clauses lines result r p.1 p.0

pub trimmed_named : (clauses : List (List ℕ)) (lines result : List Content) → IsRefutation clauses lines → IsTrimmed clauses lines result → EachIsNamed result
trimmed_named clauses lines result r (inl p) = rw p.1 tt
trimmed_named clauses lines result r (inr p) = part_named clauses lines result r p.1

pub trimmed_again : (clauses : List (List ℕ)) (lines result : List Content) → IsRefutation clauses lines → IsTrimmed clauses lines result → IsTrimmed clauses result result
trimmed_again clauses lines result r (inl p) = inl (p.0, p.1)
trimmed_again clauses lines result r (inr p) = inr (p.0, part_again clauses lines result r p.1 (part_refutes clauses lines result r p.1 p.0))
