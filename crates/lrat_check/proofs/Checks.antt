-- The loop over a proof's lines: the checker's state agrees with the definition's, and so does its answer on each line.
use Rattle.std.proofs.Common.{◌≡◌, ℕ, ◌+◌, ◌≤◌, ◌⊎◌, List, [], ◌∷◌, ◌++◌, length, take, drop, sym, ◌∙◌, ap, subst, arith, refl, inl, inr, map, slice_get, Option, Some, None, true, false, nat_eq, append_assoc}
use Rattle.std.specs.Prelude.{Any, Contains, IsTrue, ◌↔◌, unsigned_abs}
use Rattle.std.proofs.Math.Path.{fun_ext}
use Rattle.std.proofs.lemmas.Bool.{cases_eq, true≢false}
use Rattle.std.proofs.lemmas.Bool.Decides.{nat_tests}
use Rattle.std.proofs.lemmas.List.{drop_all, append-nil}
use Rattle.std.proofs.lemmas.List.Elements.{All-contains, Contains-append_left, Contains-push_cases}
use Rattle.std.proofs.lemmas.List.Quantifiers.{Any-push}
use Rattle.clause_model.specs.Clauses.{negated, HasDistinctVariables}
use Rattle.clause_model.proofs.Sound.{negations_consistent}
use Rattle.clause_model.proofs.Runs.{refutes_or_stops}
use Rattle.lrat_check.specs.declared.fault.LineFault.{LineFault}
use Rattle.lrat_check.specs.Numbers.{is_negative}
use Rattle.lrat_check.specs.declared.line.Line.{Line}
use Rattle.lrat_check.specs.declared.line.Line.TheVariants.{Addition as Adding, Deletion as Deleting}
use Rattle.lrat_check.specs.Text.{Content, addition, deletion, content_of, without, Deletes}
use Rattle.lrat_check.specs.Costs.{cost_of}
use Rattle.lrat_check.specs.Live.{Adds}
use Rattle.lrat_check.specs.Checking.{State, live_at, Starts, Accepts as Leads}
use Rattle.lrat_check.specs.Faults.{IsFaultOf}
use Rattle.lrat_check.specs.Proofs.{Tests, Then, Known, started, with_clause, without_all, after_line, Accepts, AllAccepted, added, additions, LinesVerdict}
use Rattle.lrat_check.specs.ProofCosts.{line_cost, lines_cost}
use Rattle.lrat_check.specs.Checked.{known_of}
use Rattle.lrat_check.proofs.Turns.{then_passed}
use Rattle.lrat_check.proofs.Determined.{lines_one}
use Rattle.lrat_check.proofs.Additions.{additions_more}
use Rattle.lrat_check.proofs.Faulty.{deletes_or_dies}
use Rattle.cnf_gates.proofs.Text.{drop_from}

pub same_known : (a b : Known) → ((id : ℕ) → a.live id ≡ b.live id) → a.last ≡ b.last → a ≡ b
same_known a b h e = let f : a.live ≡ b.live = fun_ext h in λ i. record { live = f i; last = e i }

pub begun_known : (clauses : List (List ℕ)) (state : State) → Starts clauses state → known_of state ≡ started clauses
begun_known clauses state s = same_known (known_of state) (started clauses) s.live s.last

-- deleting each id in turn leaves the clauses under all other ids
left_all : (live : ℕ → Option (List ℕ)) (ids : List ℕ) (later : ℕ → Option (List ℕ)) → Deletes live ids later → (q : ℕ) → later q ≡ without_all live ids q
left_all live [] later d = d
left_all live (id ∷ ids) later d = left_all (without live id) ids later d.1

deletes_all : (live : ℕ → Option (List ℕ)) (ids : List ℕ) (later : ℕ → Option (List ℕ)) → Deletes live ids later → Deletes live ids (without_all live ids)
deletes_all live [] later d = λ q. refl
deletes_all live (id ∷ ids) later d = (d.0, deletes_all (without live id) ids later d.1)

added_live : (earlier later : ℕ → Option (List ℕ)) (id : ℕ) (clause : List ℕ) → Adds earlier later id clause → (q : ℕ) → later q ≡ with_clause earlier id clause q
added_live earlier later id clause a q = elim (cases_eq q id) [
  | inl e ↦ let z : nat_eq q id ≡ true = grind (arith, nat_tests) in rw z (ap later e ∙ a.0)
  | inr d ↦ let z : nat_eq q id ≡ false = grind (arith, nat_tests) in rw z (a.1 q d)
]

pub led_known : (old new : State) (content : Content) → Leads old content new → known_of new ≡ after_line (known_of old) content
led_known old new (addition id literals hints) a = same_known _ _ (added_live (live_at old) (live_at new) id literals a.live) a.last
led_known old new (deletion id ids) a = same_known _ _ (left_all (live_at old) ids (live_at new) a.live) a.last

pub led_accepts : (old new : State) (content : Content) → Leads old content new → Accepts (known_of old) content
led_accepts old new (addition id literals hints) a = record { later = a.later; no_minus = a.no_minus; follows = a.follows }
led_accepts old new (deletion id ids) a = deletes_all (live_at old) ids (live_at new) a.live

-- the literals of an added clause have distinct variables
abbrev pub IsDistinct : Content → Type 0
IsDistinct (addition id literals hints) = HasDistinctVariables literals
IsDistinct (deletion id ids) = Unit {0}

pub line_distinct : (line : Line) → IsDistinct (content_of line)
line_distinct (Adding a) = a.distinct
line_distinct (Deleting d) = tt

pub faulty_refused : (old : State) (content : Content) (fault : LineFault) → IsDistinct content → IsFaultOf old content fault → Accepts (known_of old) content → ⊥
faulty_refused old (addition id literals hints) fault d (inl o) a = let b = a.later in omega (arith, o.0, b)
faulty_refused old (addition id literals hints) fault d (inr (inl r)) a =
    true≢false (sym r.1.4 ∙ All-contains (λ h. is_negative h ≡ false) hints r.1.1 a.no_minus (r.1.0, r.1.2, r.1.3))
faulty_refused old (addition id literals hints) fault d (inr (inr s)) a =
    refutes_or_stops (live_at old) (map negated literals) (map unsigned_abs hints) 1 s.2.0 (negations_consistent literals d) a.follows s.2.1
faulty_refused old (deletion id ids) fault d p a = deletes_or_dies (live_at old) ids (without_all (live_at old) ids) 1 p.0 a p.1

-- the answer of the lines still to come is the whole's
pub record LinesRest {F : Type 0} (fault : ℕ → F) (known : Known) (n : ℕ) (lines : List Content) (whole : Option F → Type 0) : Type 0 where
  pub leads : (o : Option F) → LinesVerdict fault known n lines o → whole o

pub line_at : {F : Type 0} (fault : ℕ → F) (known : Known) (n : ℕ) (lines : List Content) (i : ℕ) (line : Content) (o : Option F) → slice_get lines i ≡ Some line → Then (Tests (Accepts known line) (fault n)) (LinesVerdict fault (after_line known line) (n + 1) (drop (i + 1) lines)) o → LinesVerdict fault known n (drop i lines) o
line_at fault known n lines i line o e p = subst (λ ys. LinesVerdict fault known n ys o) (sym (drop_from lines i line e)) p

pub line_step : {F : Type 0} (fault : ℕ → F) (known later : Known) (n : ℕ) (lines : List Content) (i : ℕ) (line : Content) (whole : Option F → Type 0) → slice_get lines i ≡ Some line → LinesRest fault known n (drop i lines) whole → Accepts known line → later ≡ after_line known line → LinesRest fault later (n + 1) (drop (i + 1) lines) whole
line_step fault known later n lines i line whole e rest p q =
    rw q (record { leads = λ o more. rest.leads o (line_at fault known n lines i line o e (then_passed (Tests (Accepts known line) (fault n)) (LinesVerdict fault (after_line known line) (n + 1) (drop (i + 1) lines)) o p more)) })

pub line_fault : {F : Type 0} (fault : ℕ → F) (known : Known) (n : ℕ) (lines : List Content) (i : ℕ) (line : Content) (whole : Option F → Type 0) → slice_get lines i ≡ Some line → LinesRest fault known n (drop i lines) whole → (Accepts known line → ⊥) → whole (Some (fault n))
line_fault fault known n lines i line whole e rest p = rest.leads (Some (fault n)) (line_at fault known n lines i line (Some (fault n)) e (inl (refl, p)))

pub line_end : {F : Type 0} (fault : ℕ → F) (known : Known) (n : ℕ) (lines : List Content) (i : ℕ) (whole : Option F → Type 0) → length lines ≤ i → LinesRest fault known n (drop i lines) whole → whole None
line_end fault known n lines i whole h rest = rest.leads None (subst (λ ys. LinesVerdict fault known n ys None) (sym (drop_all i lines h)) tt)

-- lines pass just where all are accepted
pub passed_accepted : {F : Type 0} (fault : ℕ → F) (known : Known) (n : ℕ) (lines : List Content) → LinesVerdict fault known n lines None → AllAccepted known lines
passed_accepted fault known n [] p = tt
passed_accepted fault known n (line ∷ lines) p = (p.0, passed_accepted fault (after_line known line) (n + 1) lines p.1)

pub accepted_passed : {F : Type 0} (fault : ℕ → F) (known : Known) (n : ℕ) (lines : List Content) → AllAccepted known lines → LinesVerdict fault known n lines None
accepted_passed fault known n [] p = tt
accepted_passed fault known n (line ∷ lines) p = (p.0, accepted_passed fault (after_line known line) (n + 1) lines p.1)

pub stopped_refused : {F : Type 0} (fault : ℕ → F) (known : Known) (n : ℕ) (lines : List Content) (f : F) → LinesVerdict fault known n lines (Some f) → AllAccepted known lines → ⊥
stopped_refused fault known n lines f p a = let e : None ≡ Some f = (lines_one fault known n lines).same None (Some f) (accepted_passed fault known n lines a) p in absurd (cc)

-- the cost of one line, and the bound left for those after it
pub cost_at : (old : State) (content : Content) → cost_of old content ≡ line_cost (known_of old) content
cost_at old (addition id literals hints) = refl
cost_at old (deletion id ids) = refl

pub cost_left : (known : Known) (lines : List Content) (i : ℕ) (line : Content) → slice_get lines i ≡ Some line → lines_cost known (drop i lines) ≡ line_cost known line + lines_cost (after_line known line) (drop (i + 1) lines)
cost_left known lines i line e = ap (lines_cost known) (drop_from lines i line e)

-- the cost of the line at a place, and of those after it
pub cost_next : (old new : State) (lines : List Content) (i : ℕ) (line : Content) (now next bound : ℕ) → slice_get lines i ≡ Some line → Leads old line new → now + lines_cost (known_of old) (drop i lines) ≤ bound → next ≤ now + cost_of old line → next + lines_cost (known_of new) (drop (i + 1) lines) ≤ bound
cost_next old new lines i line now next bound e a h k =
    let s = cost_left (known_of old) lines i line e in
    let t = cost_at old line in
    let u = ap (λ (known : Known). lines_cost known (drop (i + 1) lines)) (led_known old new line a) in
    omega (arith, h, k, s, t, u)

pub cost_within : (old : State) (lines : List Content) (i : ℕ) (line : Content) (now next bound : ℕ) → slice_get lines i ≡ Some line → now + lines_cost (known_of old) (drop i lines) ≤ bound → next ≤ now + cost_of old line → next ≤ bound
cost_within old lines i line now next bound e h k =
    let s = cost_left (known_of old) lines i line e in
    let t = cost_at old line in
    omega (arith, h, k, s, t)

-- an empty clause is among those so far
pub any_left : (xs ys : List (List ℕ)) → Any (λ c. c ≡ []) xs → Any (λ c. c ≡ []) (xs ++ ys)
any_left xs ys h = let p : Contains (xs ++ ys) h.1 = Contains-append_left xs ys h.1 (h.0, h.2, h.3) in (p.0, h.1, p.1, p.2, h.4)

any_push : (xs : List (List ℕ)) (c : List ℕ) → Any (λ c. c ≡ []) (xs ++ c ∷ []) → Any (λ c. c ≡ []) xs ⊎ (c ≡ [])
any_push xs c h = elim (Contains-push_cases xs c h.1 (h.0, h.2, h.3)) [
  | inl p ↦ inl (p.0, h.1, p.1, p.2, h.4)
  | inr e ↦ inr (e ∙ h.4)
]

pub refuted_next : (old new : State) (line : Content) (seen : List (List ℕ)) → Leads old line new → IsTrue old.refuted ↔ Any (λ c. c ≡ []) seen → IsTrue new.refuted ↔ Any (λ c. c ≡ []) (seen ++ added line)
refuted_next old new (addition id literals hints) seen a h = (
  λ t. elim (a.refuted.0 t) [
    | inl r ↦ any_left seen (literals ∷ []) (h.0 r)
    | inr e ↦ Any-push (λ (c : List ℕ). c ≡ []) seen literals e
  ],
  λ s. a.refuted.1 (elim (any_push seen literals s) [ inl r ↦ inl (h.1 r) | inr e ↦ inr e ]),
)
refuted_next old new (deletion id ids) seen a h = (
  λ t. subst (λ (xs : List (List ℕ)). Any (λ c. c ≡ []) xs) (sym (append-nil seen)) (h.0 (sym a.refuted ∙ t)),
  λ s. a.refuted ∙ h.1 (subst (λ (xs : List (List ℕ)). Any (λ c. c ≡ []) xs) (append-nil seen) s),
)

pub refuted_more : (old new : State) (clauses : List (List ℕ)) (lines : List Content) (i : ℕ) (line : Content) → slice_get lines i ≡ Some line → Leads old line new → IsTrue old.refuted ↔ Any (λ c. c ≡ []) (clauses ++ additions (take i lines)) → IsTrue new.refuted ↔ Any (λ c. c ≡ []) (clauses ++ additions (take (i + 1) lines))
refuted_more old new clauses lines i line e a h =
    let s : (clauses ++ additions (take i lines)) ++ added line ≡ clauses ++ additions (take (i + 1) lines) = append_assoc clauses (additions (take i lines)) (added line) ∙ ap (λ xs. clauses ++ xs) (sym (additions_more lines i line e)) in
    subst (λ (xs : List (List ℕ)). IsTrue new.refuted ↔ Any (λ c. c ≡ []) xs) s (refuted_next old new line (clauses ++ additions (take i lines)) a h)
