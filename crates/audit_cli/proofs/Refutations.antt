-- The audit finds no fault in a proof if and only if it is a refutation: the states of a checker that goes through the proof's lines.
use Rattle.std.proofs.Common.{◌≡◌, ◌∙◌, inl, inr, ℕ, zero, suc, ◌+◌, ◌-◌, ◌<◌, ◌||◌, Bool, true, false, List, [], ◌∷◌, ◌++◌, Option, None, cond, length, nat_eq, slice_get, refl, sym, ap, subst, arith, append_assoc, append-nil}
use Rattle.std.specs.Prelude.{◌↔◌, Any, IsTrue}
use Rattle.std.specs.List.{list_any}
use Rattle.std.proofs.lemmas.Bool.{cases_Bool, or_cases, or_left, or_right, true≢false}
use Rattle.std.proofs.lemmas.Bool.Decides.{nat_tests}
use Rattle.std.proofs.lemmas.List.Folds.{Any-from_list_any, list_any-from_Any}
use Rattle.lrat_check.specs.Text.{Content, addition, deletion, without, Deletes}
use Rattle.lrat_check.specs.Live.{found_in}
use Rattle.lrat_check.specs.Checking.{State, live_at, Starts, Accepts as Leads}
use Rattle.lrat_check.specs.Runs.{AcceptsAll, IsRefutation}
use Rattle.clause_model.specs.Clauses.{numbered}
use Rattle.lrat_check.specs.Proofs.{Known, started, without_all, Accepts, AllAccepted, added, additions, LinesVerdict, ProofVerdict}
use Rattle.lrat_check.specs.Checked.{known_of}
use Rattle.lrat_check.proofs.Checks.{begun_known, led_known, led_accepts, passed_accepted, refuted_next}

-- ---- the state at the beginning ----

is_nil : List ℕ → Bool
is_nil [] = true
is_nil (x ∷ xs) = false

nil_is : (xs : List ℕ) → is_nil xs ≡ true → xs ≡ []
unfolding is_nil
nil_is [] h = refl
nil_is (x ∷ xs) h = absurd (true≢false (sym h))

is_nil_of : (xs : List ℕ) → xs ≡ [] → is_nil xs ≡ true
unfolding is_nil
is_nil_of xs e = rw e refl

has_nil : (clauses : List (List ℕ)) → IsTrue (list_any is_nil clauses) ↔ Any (λ c. c ≡ []) clauses
has_nil clauses = (
  λ h. (let a = Any-from_list_any is_nil clauses h in (a.0, a.1, a.2, a.3, nil_is a.1 a.4)),
  λ a. list_any-from_Any is_nil clauses (a.0, a.1, a.2, a.3, is_nil_of a.1 a.4),
)

numbered_from : ℕ → List (List ℕ) → List (ℕ × List ℕ)
numbered_from n [] = []
numbered_from n (c ∷ cs) = (n, c) ∷ numbered_from (suc n) cs

found_from : (n k : ℕ) (cs : List (List ℕ)) → found_in (numbered_from n cs) (n + k) ≡ slice_get cs k
unfolding numbered_from
found_from n k [] = refl
found_from n zero (c ∷ cs) = let same : nat_eq (n + 0) n ≡ true = grind (arith, nat_tests) in rw same refl
found_from n (suc k) (c ∷ cs) =
    let other : nat_eq (n + suc k) n ≡ false = grind (arith, nat_tests) in
    let shifted : n + suc k ≡ suc n + k = omega arith in
    rw other (ap (λ (j : ℕ). found_in (numbered_from (suc n) cs) j) shifted ∙ found_from (suc n) k cs)

found_below : (n q : ℕ) (cs : List (List ℕ)) → q < n → found_in (numbered_from n cs) q ≡ None
unfolding numbered_from
found_below n q [] h = refl
found_below n q (c ∷ cs) h = let other : nat_eq q n ≡ false = grind (arith, nat_tests, h) in rw other (found_below (suc n) q cs (omega (arith, h)))

found_numbered : (clauses : List (List ℕ)) (id : ℕ) → found_in (numbered_from 1 clauses) id ≡ numbered clauses id
found_numbered clauses zero = found_below 1 0 clauses (omega arith)
found_numbered clauses (suc k) =
    let shifted : suc k ≡ 1 + k = omega arith in
    let some : nat_eq (suc k) 0 ≡ false = grind (arith, nat_tests) in
    let back : suc k - 1 ≡ k = omega arith in
    ap (λ (j : ℕ). found_in (numbered_from 1 clauses) j) shifted ∙ found_from 1 k clauses ∙ sym (rw (some, back) refl)

begun : List (List ℕ) → State
begun clauses = record { entries = numbered_from 1 clauses; last = length clauses; refuted = list_any is_nil clauses }

begins : (clauses : List (List ℕ)) → Starts clauses (begun clauses)
unfolding begun
begins clauses = record { live = found_numbered clauses; last = refl; refuted = has_nil clauses }

-- ---- the state after a line ----

without_id : ℕ → List (ℕ × List ℕ) → List (ℕ × List ℕ)
without_id id [] = []
without_id id (e ∷ es) = cond (nat_eq e.0 id) (without_id id es) (e ∷ without_id id es)

found_without : (id q : ℕ) (es : List (ℕ × List ℕ)) → found_in (without_id id es) q ≡ without (found_in es) id q
unfolding without_id
found_without id q [] = elim (cases_Bool (nat_eq q id)) [ inl h ↦ rw h refl | inr h ↦ rw h refl ]
found_without id q (e ∷ es) = elim (cases_Bool (nat_eq e.0 id)) [
  | inl h ↦ elim (cases_Bool (nat_eq q id)) [
    | inl k ↦ rw (h, k) (found_without id q es ∙ rw k refl)
    | inr k ↦ (let other : nat_eq q e.0 ≡ false = grind (arith, nat_tests, h, k) in rw (h, k, other) (found_without id q es ∙ rw k refl))
  ]
  | inr h ↦ elim (cases_Bool (nat_eq q e.0)) [
    | inl k ↦ (let other : nat_eq q id ≡ false = grind (arith, nat_tests, h, k) in rw (h, k, other) refl)
    | inr k ↦ rw (h, k) (found_without id q es)
  ]
]

dropped : List ℕ → List (ℕ × List ℕ) → List (ℕ × List ℕ)
dropped [] es = es
dropped (id ∷ ids) es = dropped ids (without_id id es)

without_same : (f g : ℕ → Option (List ℕ)) (ids : List ℕ) → ((q : ℕ) → f q ≡ g q) → (q : ℕ) → without_all f ids q ≡ without_all g ids q
without_same f g [] h q = h q
without_same f g (id ∷ ids) h q = without_same (without f id) (without g id) ids (λ r. ap (λ (o : Option (List ℕ)). cond (nat_eq r id) None o) (h r)) q

found_dropped : (ids : List ℕ) (es : List (ℕ × List ℕ)) (q : ℕ) → found_in (dropped ids es) q ≡ without_all (found_in es) ids q
unfolding dropped
found_dropped [] es q = refl
found_dropped (id ∷ ids) es q = found_dropped ids (without_id id es) q ∙ without_same (found_in (without_id id es)) (without (found_in es) id) ids (λ r. found_without id r es) q

deletes_same : (live : ℕ → Option (List ℕ)) (ids : List ℕ) (a b : ℕ → Option (List ℕ)) → ((q : ℕ) → b q ≡ a q) → Deletes live ids a → Deletes live ids b
deletes_same live [] a b same d = λ q. same q ∙ d q
deletes_same live (id ∷ ids) a b same d = (d.0, deletes_same (without live id) ids a b same d.1)

next : State → Content → State
next old (addition id literals hints) = record { entries = (id, literals) ∷ old.entries; last = id; refuted = old.refuted || is_nil literals }
next old (deletion id ids) = record { entries = dropped ids old.entries; last = old.last; refuted = old.refuted }

leads : (old : State) (line : Content) → Accepts (known_of old) line → Leads old line (next old line)
unfolding next
leads old (addition id literals hints) a = record {
  later = a.later;
  no_minus = a.no_minus;
  follows = a.follows;
  live = (let here : nat_eq id id ≡ true = grind (arith, nat_tests) in rw here refl, λ q other. (let away : nat_eq q id ≡ false = grind (arith, nat_tests, other) in rw away refl));
  last = refl;
  refuted = (
    λ h. elim (or_cases old.refuted (is_nil literals) h) [ inl was ↦ inl was | inr none ↦ inr (nil_is literals none) ],
    λ h. elim h [ inl was ↦ or_left old.refuted (is_nil literals) was | inr none ↦ or_right old.refuted (is_nil literals) (is_nil_of literals none) ],
  );
}
leads old (deletion id ids) a = record { live = deletes_same (live_at old) ids (without_all (live_at old) ids) _ (found_dropped ids old.entries) a; last = refl; refuted = refl }

-- ---- all lines ----

run : State → List Content → State
run state [] = state
run state (line ∷ lines) = run (next state line) lines

accepts_all : (state : State) (lines : List Content) → AllAccepted (known_of state) lines → AcceptsAll state lines (run state lines)
unfolding run
accepts_all state [] a = refl
accepts_all state (line ∷ lines) a =
    let here = leads state line a.0 in
    (next state line, here, accepts_all (next state line) lines (subst (λ (k : Known). AllAccepted k lines) (sym (led_known state (next state line) line here)) a.1))

-- the formula is refuted if and only if the empty clause is among the clauses seen before or those that the lines add
refuted_all : (old new : State) (lines : List Content) (seen : List (List ℕ)) → AcceptsAll old lines new → IsTrue old.refuted ↔ Any (λ c. c ≡ []) seen → IsTrue new.refuted ↔ Any (λ c. c ≡ []) (seen ++ additions lines)
refuted_all old new [] seen e h = rw e (subst (λ (xs : List (List ℕ)). IsTrue old.refuted ↔ Any (λ c. c ≡ []) xs) (sym (append-nil seen)) h)
refuted_all old new (line ∷ lines) seen (middle, a, more) h =
    subst (λ (xs : List (List ℕ)). IsTrue new.refuted ↔ Any (λ c. c ≡ []) xs) (append_assoc seen (added line) (additions lines))
    (refuted_all middle new lines (seen ++ added line) more (refuted_next old middle line seen a h))

verdict_all : {F : Type 0} (fault : ℕ → F) (old new : State) (n : ℕ) (lines : List Content) → AcceptsAll old lines new → LinesVerdict fault (known_of old) n lines None
verdict_all fault old new n [] e = tt
verdict_all fault old new n (line ∷ lines) (middle, a, more) =
    (led_accepts old middle line a, subst (λ (k : Known). LinesVerdict fault k (n + 1) lines None) (led_known old middle line a) (verdict_all fault middle new (n + 1) lines more))

pub passed_refutes : {F : Type 0} (fault : ℕ → F) (unfinished : F) (clauses : List (List ℕ)) (lines : List Content) → ProofVerdict fault unfinished clauses lines None → IsRefutation clauses lines
passed_refutes fault unfinished clauses lines p =
    let first = begun clauses in
    let all : AllAccepted (known_of first) lines = subst (λ (k : Known). AllAccepted k lines) (sym (begun_known clauses first (begins clauses))) (passed_accepted fault (started clauses) 1 lines p.0) in
    let runs = accepts_all first lines all in
    record { first = first; last = run first lines; starts = begins clauses; accepts = runs; refuted = (refuted_all first (run first lines) lines clauses runs (begins clauses).refuted).1 p.1 }

pub refutes_passed : {F : Type 0} (fault : ℕ → F) (unfinished : F) (clauses : List (List ℕ)) (lines : List Content) → IsRefutation clauses lines → ProofVerdict fault unfinished clauses lines None
refutes_passed fault unfinished clauses lines r = (
  subst (λ (k : Known). LinesVerdict fault k 1 lines None) (begun_known clauses r.first r.starts) (verdict_all fault r.first r.last 1 lines r.accepts),
  (refuted_all r.first r.last lines clauses r.accepts r.starts.refuted).0 r.refuted,
)
