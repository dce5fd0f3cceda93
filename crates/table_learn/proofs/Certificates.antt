-- The solver's logs pass the audit: as proofs of refutations, or as logs that spend the budget.
use Rattle.std.specs.Global.{Global}
use Rattle.std.proofs.Common.{◌≡◌, ℕ, zero, suc, ◌+◌, ◌-◌, ◌<◌, ◌≤◌, ◌^◌, ◌∷◌, ◌++◌, inl, inr, List, [], Option, Some, None, All, length, take, get_or, map, slice_get, nat_eq, refl, sym, ◌∙◌, ap, subst, arith, append_assoc, append-nil, length-append, true, false}
use Rattle.std.specs.Prelude.{◌≢◌, ℤ, pos, Any, unsigned_abs, cond, Vec}
use Rattle.std.proofs.Math.Seq.{take-append_seam}
use Rattle.std.proofs.lemmas.Bool.{cases_eq, cases_lt}
use Rattle.std.proofs.lemmas.Bool.Decides.{nat_tests}
use Rattle.std.proofs.lemmas.List.{length-map}
use Rattle.std.proofs.lemmas.List.Elements.{All-nil, All-cons}
use Rattle.std.specs.Option.{option_map}
use Rattle.std.proofs.lemmas.List.Quantifiers.{Any-push}
use Rattle.std.proofs.lemmas.Option.{slice_get-map, slice_get-get_or, slice_get_within, get_or_from_slice_get}
use Rattle.thumb_instr.specs.declared.instr.Instr.{Instr}
use Rattle.thumb_model.specs.Effect.{AreOver}
use Rattle.cnf_gates.specs.Cnf.{Cnf}
use Rattle.bit_blast.specs.Differences.{sides_formula}
use Rattle.bit_blast.proofs.Exact.{itself_ends_in_empty}
use Rattle.clause_model.specs.Clauses.{code_of, codes_of, negated, ReverseUnitPropagation, Refutes as Propagates, numbered}
use Rattle.clause_model.proofs.Asserted.{asserting_new}
use Rattle.lrat_check.specs.declared.line.Line.{Line}
use Rattle.lrat_check.specs.declared.line.Line.TheVariants.{Addition as Adding, Deletion as Deleting}
use Rattle.lrat_check.specs.declared.line.Addition.{Addition}
use Rattle.lrat_check.specs.Numbers.{is_negative, IsHint}
use Rattle.lrat_check.specs.Text.{Content, content_of, IsLine}
use Rattle.lrat_check.specs.Proofs.{Known, started, with_clause, after_line, Accepts, AllAccepted, additions, IsSpentLog, EachIsNew, ProofVerdict}
use Rattle.lrat_check.proofs.Checks.{same_known, accepted_passed, any_left}
use Rattle.cdcl_core.specs.Solved.{RefutesTidily, Adds, literals_in, with_log, Teaches, Refutes, IsLog}
use Rattle.cdcl_core.proofs.Logs.{asserting_some, with_more}
use Rattle.table_learn.specs.Learnt.{IsRefutation as IsRefutationOf, IsSpentSearch}

any_behind : (xs ys : List (List ℕ)) → Any (λ clause. clause ≡ []) ys → Any (λ clause. clause ≡ []) (xs ++ ys)
any_behind [] ys a = a
any_behind (x ∷ xs) ys a = let r = any_behind xs ys a in (suc r.0, r.1, omega (arith, r.2), r.3, r.4)

-- ---- lines, one after the other

-- each line adds an asserting clause to the clauses and those of the lines before it
abbrev pub AllTeach : List (List ℕ) → List Line → Type 0
AllTeach clauses [] = Unit {0}
AllTeach clauses (line ∷ lines) = Teaches clauses line × AllTeach (clauses ++ literals_in line ∷ []) lines

get_seam : (front rest : List Line) (line d : Line) → get_or (front ++ line ∷ rest) (length front) d ≡ line
get_seam [] rest line d = refl
get_seam (x ∷ front) rest line d = get_seam front rest line d

teach_from : (formula : List (List ℕ)) (front rest : List Line) → IsLog formula (front ++ rest) → AllTeach (with_log formula front) rest
teach_from formula front [] h = tt
teach_from formula front (line ∷ rest) h =
    let low : length front < length (front ++ line ∷ rest) = (let l = length-append front (line ∷ rest) in omega (arith, l)) in
    let raw : Teaches (with_log formula (take (length front) (front ++ line ∷ rest))) (get_or (front ++ line ∷ rest) (length front) line) = h (length front) line low in
    let here : Teaches (with_log formula front) line =
    subst (λ (l : Line). Teaches (with_log formula front) l) (get_seam front rest line line)
    (subst (λ (ls : List Line). Teaches (with_log formula ls) (get_or (front ++ line ∷ rest) (length front) line)) (take-append_seam front (line ∷ rest)) raw) in
    let more : AllTeach (with_log formula (front ++ line ∷ [])) rest = teach_from formula (front ++ line ∷ []) rest (subst (λ (ls : List Line). IsLog formula ls) (sym (append_assoc front (line ∷ []) rest)) h) in
    (here, subst (λ (cs : List (List ℕ)). AllTeach cs rest) (with_more formula front line) more)

all_teach : (formula : List (List ℕ)) (log : List Line) → IsLog formula log → AllTeach formula log
all_teach formula log h = subst (λ (cs : List (List ℕ)). AllTeach cs log) (append-nil formula) (teach_from formula [] log h)

-- ---- what a checker knows after a line

get_past : (cs : List (List ℕ)) (c : List ℕ) (i : ℕ) → length cs < i → slice_get (cs ++ c ∷ []) i ≡ slice_get cs i
get_past [] c zero h = absurd (omega arith)
get_past [] c (suc i) h = refl
get_past (x ∷ cs) c zero h = absurd (omega arith)
get_past (x ∷ cs) c (suc i) h = get_past cs c i (omega arith)

get_before : (cs : List (List ℕ)) (c : List ℕ) (i : ℕ) → i < length cs → slice_get (cs ++ c ∷ []) i ≡ slice_get cs i
get_before [] c i h = absurd (omega arith)
get_before (x ∷ cs) c zero h = refl
get_before (x ∷ cs) c (suc i) h = get_before cs c i (omega arith)

get_last : (cs : List (List ℕ)) (c : List ℕ) → slice_get (cs ++ c ∷ []) (length cs) ≡ Some c
get_last [] c = refl
get_last (x ∷ cs) c = get_last cs c

numbered_suc : (clauses : List (List ℕ)) (h : ℕ) → numbered clauses (suc h) ≡ slice_get clauses h
numbered_suc clauses h =
    let z : nat_eq (suc h) 0 ≡ false = grind (arith, nat_tests) in
    let back : suc h - 1 ≡ h = omega arith in
    ap (λ b. cond b None (slice_get clauses (suc h - 1))) z ∙ ap (λ i. slice_get clauses i) back

pushed_live : (clauses : List (List ℕ)) (c : List ℕ) (id q : ℕ) → id ≡ length clauses + 1 → with_clause (numbered clauses) id c q ≡ numbered (clauses ++ c ∷ []) q
pushed_live clauses c id zero e = let z : nat_eq 0 id ≡ false = grind (arith, nat_tests, e) in ap (λ b. cond b (Some c) None) z
pushed_live clauses c id (suc q) e =
    elim (cases_eq q (length clauses)) [
      | inl h ↦
          let z : nat_eq (suc q) id ≡ true = grind (arith, nat_tests, e, h) in
          ap (λ b. cond b (Some c) (numbered clauses (suc q))) z ∙ sym (numbered_suc (clauses ++ c ∷ []) q ∙ subst (λ i. slice_get (clauses ++ c ∷ []) i ≡ Some c) (sym h) (get_last clauses c))
      | inr d ↦
          let z : nat_eq (suc q) id ≡ false = grind (arith, nat_tests, e, d) in
          ap (λ b. cond b (Some c) (numbered clauses (suc q))) z ∙ numbered_suc clauses q ∙ sym (numbered_suc (clauses ++ c ∷ []) q ∙ elim (cases_lt q (length clauses)) [
            | inl k ↦ get_before clauses c q k
            | inr k ↦ get_past clauses c q (omega (arith, d, k))
          ])
    ]

known_after : (clauses : List (List ℕ)) (a : Addition) → a.id ≡ length clauses + 1 → after_line (started clauses) (content_of (Adding a)) ≡ started (clauses ++ a.literals.items ∷ [])
known_after clauses a e = same_known _ _ (λ q. pushed_live clauses a.literals.items a.id q e) (e ∙ sym (length-append clauses (a.literals.items ∷ [])))

-- ---- hints

positive_hints : (hints : List ℕ) → All (λ h. is_negative h ≡ false) (map pos hints)
positive_hints [] = All-nil _
positive_hints (h ∷ hints) = All-cons (λ z. is_negative z ≡ false) (pos h) (map pos hints) refl (positive_hints hints)

same_hints : (hints : List ℕ) → map unsigned_abs (map pos hints) ≡ hints
same_hints [] = refl
same_hints (h ∷ hints) = ap (λ (hs : List ℕ). h ∷ hs) (same_hints hints)

tidy_refutes : (live : ℕ → Option (List ℕ)) (a hints : List ℕ) → RefutesTidily live a hints → Propagates live a hints
tidy_refutes live a [] r = r
tidy_refutes live a (id ∷ hints) r = (r.0, r.1, elim r.3 [ inl f ↦ inl f.0 | inr w ↦ inr (w.0, w.1, tidy_refutes live (a ++ w.0 ∷ []) hints w.3) ])

numbered_within : (clauses : List (List ℕ)) (h : ℕ) (clause : List ℕ) → numbered clauses h ≡ Some clause → (0 < h) × (h ≤ length clauses)
numbered_within clauses zero clause e = absurd (cc)
numbered_within clauses (suc h) clause e =
    let low : h < length clauses = slice_get_within clauses h clause (sym (numbered_suc clauses h) ∙ e) in
    (omega arith, omega (arith, low))

tidy_hints : (clauses : List (List ℕ)) (a hints : List ℕ) → length clauses < 2 ^ 32 → RefutesTidily (numbered clauses) a hints → All IsHint (map pos hints)
tidy_hints clauses a [] small r = absurd r
tidy_hints clauses a (h ∷ hints) small r =
    let w = numbered_within clauses h r.0 r.1 in
    let some : pos h ≢ pos 0 = λ e. (let z : h ≡ 0 = cc in omega (arith, z, w.0)) in
    let here : IsHint (pos h) = (some, omega (arith, w.1, small)) in
    elim r.3 [
      | inl f ↦ All-cons IsHint (pos h) (map pos hints) here (subst (λ (hs : List ℕ). All IsHint (map pos hs)) (sym f.1) (All-nil IsHint))
      | inr u ↦ All-cons IsHint (pos h) (map pos hints) here (tidy_hints clauses (a ++ u.0 ∷ []) hints small u.3)
    ]

-- ---- a line that adds

adds_accepted : (clauses : List (List ℕ)) (a : Addition) → Adds clauses a → Accepts (started clauses) (content_of (Adding a))
adds_accepted clauses a d = record {
  later = (let e = d.id in omega (arith, e));
  no_minus = subst (λ (hs : List ℤ). All (λ h. is_negative h ≡ false) hs) (sym d.hints_are) (positive_hints d.hints);
  follows = subst (λ (hs : List ℕ). ReverseUnitPropagation (numbered clauses) a.literals.items hs) (sym (ap (map unsigned_abs) d.hints_are ∙ same_hints d.hints)) (tidy_refutes (numbered clauses) (map negated a.literals.items) d.hints d.tidy);
}

adds_line : (clauses : List (List ℕ)) (a : Addition) → length clauses + 1 < 2 ^ 32 → Adds clauses a → IsLine (content_of (Adding a))
adds_line clauses a small d = (
  (let e = d.id in (omega (arith, e), omega (arith, e, small))),
  (a.within, a.distinct, subst (λ (hs : List ℤ). All IsHint hs) (sym d.hints_are) (tidy_hints clauses (map negated a.literals.items) d.hints (omega (arith, small)) d.tidy)),
)

-- ---- logs without an empty clause

log_accepted : (clauses : List (List ℕ)) (log : List Line) → AllTeach clauses log → AllAccepted (started clauses) (map content_of log)
log_accepted clauses [] t = tt
log_accepted clauses (Adding a ∷ log) t = (
  adds_accepted clauses a t.0.0,
  subst (λ (known : Known). AllAccepted known (map content_of log)) (sym (known_after clauses a t.0.0.id)) (log_accepted (clauses ++ a.literals.items ∷ []) log t.1),
)
log_accepted clauses (Deleting d ∷ log) t = absurd t.0

log_new : (clauses : List (List ℕ)) (log : List Line) → AllTeach clauses log → EachIsNew clauses (additions (map content_of log))
log_new clauses [] t = tt
log_new clauses (Adding a ∷ log) t = (asserting_new clauses a.literals.items t.0.1, log_new (clauses ++ a.literals.items ∷ []) log t.1)
log_new clauses (Deleting d ∷ log) t = absurd t.0

log_some : (clauses : List (List ℕ)) (log : List Line) → AllTeach clauses log → All (λ clause. clause ≢ []) (additions (map content_of log))
log_some clauses [] t = All-nil _
log_some clauses (Adding a ∷ log) t =
    let some : 0 < length a.literals.items = asserting_some clauses a.literals.items a.literals.items refl t.0.1 in
    let never : a.literals.items ≢ [] = λ e. (let l : length a.literals.items ≡ 0 = ap length e in omega (arith, l, some)) in
    All-cons (λ clause. clause ≢ []) a.literals.items (additions (map content_of log)) never (log_some (clauses ++ a.literals.items ∷ []) log t.1)
log_some clauses (Deleting d ∷ log) t = absurd t.0

log_count : (clauses : List (List ℕ)) (log : List Line) → AllTeach clauses log → length (additions (map content_of log)) ≡ length log
log_count clauses [] t = refl
log_count clauses (Adding a ∷ log) t = ap suc (log_count (clauses ++ a.literals.items ∷ []) log t.1)
log_count clauses (Deleting d ∷ log) t = absurd t.0

log_lines : (clauses : List (List ℕ)) (log : List Line) → length clauses + length log < 2 ^ 32 → AllTeach clauses log → All IsLine (map content_of log)
log_lines clauses [] small t = All-nil _
log_lines clauses (Adding a ∷ log) small t =
    let l = length-append clauses (a.literals.items ∷ []) in
    All-cons IsLine (content_of (Adding a)) (map content_of log) (adds_line clauses a (omega (arith, small)) t.0.0)
    (log_lines (clauses ++ a.literals.items ∷ []) log (omega (arith, small, l)) t.1)
log_lines clauses (Deleting d ∷ log) small t = absurd t.0

-- ---- and one after it that adds the empty clause

refuted_accepted : (clauses : List (List ℕ)) (front : List Line) (last : Line) → AllTeach clauses front → Refutes (with_log clauses front) last → AllAccepted (started clauses) (map content_of (front ++ last ∷ []))
refuted_accepted clauses [] (Adding a) t r = (adds_accepted clauses a (subst (λ (cs : List (List ℕ)). Adds cs a) (append-nil clauses) r.0), tt)
refuted_accepted clauses [] (Deleting d) t r = absurd r
refuted_accepted clauses (Adding a ∷ front) last t r = (
  adds_accepted clauses a t.0.0,
  subst (λ (known : Known). AllAccepted known (map content_of (front ++ last ∷ []))) (sym (known_after clauses a t.0.0.id))
      (refuted_accepted (clauses ++ a.literals.items ∷ []) front last t.1 (subst (λ (cs : List (List ℕ)). Refutes cs last) (sym (append_assoc clauses (a.literals.items ∷ []) (map literals_in front))) r)),
)
refuted_accepted clauses (Deleting d ∷ front) last t r = absurd t.0

refuted_empty : (clauses : List (List ℕ)) (front : List Line) (last : Line) → Refutes (with_log clauses front) last → Any (λ clause. clause ≡ []) (additions (map content_of (front ++ last ∷ [])))
refuted_empty clauses [] (Adding a) r = (0, a.literals.items, omega arith, refl, r.1)
refuted_empty clauses [] (Deleting d) r = absurd r
refuted_empty clauses (Adding a ∷ front) last r =
    any_behind (a.literals.items ∷ []) _ (refuted_empty (clauses ++ a.literals.items ∷ []) front last (subst (λ (cs : List (List ℕ)). Refutes cs last) (sym (append_assoc clauses (a.literals.items ∷ []) (map literals_in front))) r))
refuted_empty clauses (Deleting d ∷ front) last r =
    refuted_empty (clauses ++ [] ∷ []) front last (subst (λ (cs : List (List ℕ)). Refutes cs last) (sym (append_assoc clauses ([] ∷ []) (map literals_in front))) r)

refuted_lines : (clauses : List (List ℕ)) (front : List Line) (last : Line) → length clauses + length (front ++ last ∷ []) < 2 ^ 32 → AllTeach clauses front → Refutes (with_log clauses front) last → All IsLine (map content_of (front ++ last ∷ []))
refuted_lines clauses [] (Adding a) small t r = All-cons IsLine (content_of (Adding a)) [] (adds_line clauses a small (subst (λ (cs : List (List ℕ)). Adds cs a) (append-nil clauses) r.0)) (All-nil IsLine)
refuted_lines clauses [] (Deleting d) small t r = absurd r
refuted_lines clauses (Adding a ∷ front) last small t r =
    let l = length-append clauses (a.literals.items ∷ []) in
    All-cons IsLine (content_of (Adding a)) (map content_of (front ++ last ∷ [])) (adds_line clauses a (omega (arith, small)) t.0.0)
    (refuted_lines (clauses ++ a.literals.items ∷ []) front last (omega (arith, small, l)) t.1 (subst (λ (cs : List (List ℕ)). Refutes cs last) (sym (append_assoc clauses (a.literals.items ∷ []) (map literals_in front))) r))
refuted_lines clauses (Deleting d ∷ front) last small t r = absurd t.0

-- ---- verdicts

empty_code : (clauses : List (List ℤ)) → Any (λ clause. clause ≡ []) clauses → Any (λ clause. clause ≡ []) (codes_of clauses)
empty_code clauses a =
    let at : slice_get clauses a.0 ≡ Some [] = slice_get-get_or clauses a.0 a.1 a.2 ∙ ap (λ c. Some c) (a.3 ∙ a.4) in
    let there : slice_get (codes_of clauses) a.0 ≡ Some [] = slice_get-map (map code_of) clauses a.0 ∙ ap (option_map (map code_of)) at in
    (a.0, [], slice_get_within (codes_of clauses) a.0 [] there, get_or_from_slice_get (codes_of clauses) a.0 [] [] there, refl)

-- the solver's refutation is a proof
pub refutation_passes : {F : Type 0} (fault : ℕ → F) (unfinished : F) (budget : ℕ) (formula : Cnf) (lines : List Content) → IsRefutationOf budget formula lines → ProofVerdict fault unfinished (codes_of formula.clauses) lines None
refutation_passes fault unfinished budget formula lines g = subst (λ (ls : List Content). ProofVerdict fault unfinished (codes_of formula.clauses) ls None) g.says
    (elim g.refutes.1 [
      | inl e ↦ subst (λ (log : List Line). ProofVerdict fault unfinished (codes_of formula.clauses) (map content_of log) None) (sym e.0)
          (tt, any_left (codes_of formula.clauses) [] (empty_code formula.clauses e.1))
      | inr r ↦ subst (λ (log : List Line). ProofVerdict fault unfinished (codes_of formula.clauses) (map content_of log) None) (sym r.2) (
        accepted_passed fault (started (codes_of formula.clauses)) 1 _ (refuted_accepted (codes_of formula.clauses) r.0 r.1 (all_teach (codes_of formula.clauses) r.0 r.3) r.4),
        any_behind (codes_of formula.clauses) _ (refuted_empty (codes_of formula.clauses) r.0 r.1 r.4),
      )
    ])

pub refutation_lines : (budget : ℕ) (formula : Cnf) (lines : List Content) → budget + length formula.clauses ≤ 4294967295 → IsRefutationOf budget formula lines → All IsLine lines
refutation_lines budget formula lines small g =
    let many : length (codes_of formula.clauses) ≡ length formula.clauses = length-map formula.clauses (map code_of) in
    subst (λ (ls : List Content). All IsLine ls) g.says
    (elim g.refutes.1 [
      | inl e ↦ subst (λ (log : List Line). All IsLine (map content_of log)) (sym e.0) (All-nil IsLine)
      | inr r ↦
          let few : length (r.0 ++ r.1 ∷ []) ≤ budget = subst (λ (log : List Line). length log ≤ budget) r.2 g.refutes.0 in
          subst (λ (log : List Line). All IsLine (map content_of log)) (sym r.2)
          (refuted_lines (codes_of formula.clauses) r.0 r.1 (omega (arith, few, many, small)) (all_teach (codes_of formula.clauses) r.0 r.3) r.4)
    ])

-- the log of a search that spent its budget is a log that spends the budget
pub search_spends : (budget : ℕ) (formula : Cnf) (lines : List Content) → IsSpentSearch budget formula lines → IsSpentLog budget (codes_of formula.clauses) lines
search_spends budget formula lines g = subst (λ (ls : List Content). IsSpentLog budget (codes_of formula.clauses) ls) g.says
    (let t = all_teach (codes_of formula.clauses) g.log.items g.spends.1 in
    record {
      spends = (log_count (codes_of formula.clauses) g.log.items t ∙ g.spends.0, log_some (codes_of formula.clauses) g.log.items t);
      accepted = log_accepted (codes_of formula.clauses) g.log.items t;
      new = log_new (codes_of formula.clauses) g.log.items t;
    })

pub search_lines : (budget : ℕ) (formula : Cnf) (lines : List Content) → budget + length formula.clauses ≤ 4294967295 → IsSpentSearch budget formula lines → All IsLine lines
search_lines budget formula lines small g =
    let many : length (codes_of formula.clauses) ≡ length formula.clauses = length-map formula.clauses (map code_of) in
    subst (λ (ls : List Content). All IsLine ls) g.says
    (log_lines (codes_of formula.clauses) g.log.items (let n = g.spends.0 in omega (arith, many, small, n)) (all_teach (codes_of formula.clauses) g.log.items g.spends.1))

-- the formula that a side differs from itself is refuted by the empty log
pub nothing_refutes : (side : List Instr) (mask k budget : ℕ) (log : Vec Line Global) → AreOver k side → log.items ≡ [] → IsRefutationOf budget (sides_formula side side mask k) []
nothing_refutes side mask k budget log over e =
    let ends = itself_ends_in_empty side mask k over in
    let some : Any (λ clause. clause ≡ []) (sides_formula side side mask k).clauses = subst (λ (cs : List (List ℤ)). Any (λ clause. clause ≡ []) cs) (sym ends.1) (Any-push (λ clause. clause ≡ []) ends.0 [] refl) in
    record {
      log = log;
      refutes = ((let l : length log.items ≡ 0 = ap length e in omega (arith, l)), inl (e, some), λ _. e);
      says = ap (map content_of) e;
    }
