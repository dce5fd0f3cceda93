-- What each verdict of the solver says of a sequence and the window.
use Rattle.std.specs.Global.{Global}
use Rattle.std.proofs.Common.{◌≡◌, ℕ, ◌+◌, ◌<◌, ◌≤◌, ◌^◌, ◌||◌, Bool, true, false, List, [], ◌∷◌, All, length, map, get_or, refl, sym, ap, subst, arith, inl}
use Rattle.std.specs.Prelude.{ℤ, Vec}
use Rattle.std.specs.List.{list_any}
use Rattle.std.proofs.lemmas.List.Elements.{All-nil, All-cons}
use Rattle.thumb_instr.specs.declared.instr.Instr.{Instr}
use Rattle.thumb_model.specs.Effect.{AreOver, Values, AreWords}
use Rattle.std.proofs.lemmas.List.{get_or_default}
use Rattle.table_audit.proofs.Names.{of_four}
use Rattle.window_exec.specs.declared.state.WState.{WState}
use Rattle.window_exec.specs.State.{values_of, seen, Seen}
use Rattle.clause_model.specs.Clauses.{code_of, codes_of}
use Rattle.cnf_gates.specs.Cnf.{Cnf, AreLiteralsOf, AreClausesOf}
use Rattle.cnf_gates.specs.Meaning.{IsModel, assigned}
use Rattle.bit_blast.specs.Differences.{sides_formula}
use Rattle.bit_blast.specs.Exactness.{start_values, IsMask, IsMaskOver, SameOver}
use Rattle.bit_blast.proofs.Exact.{models_give_states}
use Rattle.lrat_check.specs.declared.line.Line.{Line}
use Rattle.lrat_check.specs.Text.{content_of, IsLine}
use Rattle.cdcl_core.specs.declared.solving.Verdict.TheVariants.{Unsat, Spent}
use Rattle.cdcl_core.specs.Solved.{AreBelow, VerdictOf}
use Rattle.cdcl_core.proofs.Statements.{code_below}
use Rattle.table_learn.specs.Learnt.{Settings, IsRefutation, IsSpentSearch}
use Rattle.table_learn.specs.Tellings.{told, tells_apart}
use Rattle.std.proofs.Common.{Result, Ok, Err}
use Rattle.std.specs.Prelude.{IfOk}
use Rattle.table_audit.specs.Shorter.{alphabet_registers}
use Rattle.std.specs.declared.alloc.AllocError.{AllocError}
use Rattle.table_learn.specs.declared.window.Window as code
use Rattle.table_learn.specs.declared.trying.Finding.{Finding}
use Rattle.table_learn.specs.declared.trying.Finding.TheVariants.{Told, State, Proof, Log}
use Rattle.table_learn.specs.Found.{IsAnswer, IsFinding, window_in}
use Rattle.table_learn.proofs.Certificates.{refutation_lines, search_lines}
use Rattle.table_learn.proofs.Telling.{tells_is_apart}

-- a model gives a state that tells the two apart
pub model_tells : (f : Cnf) (left right : List Instr) (mask k : ℕ) (model : List Bool) (s : WState) → f ≡ sides_formula left right mask k → AreOver k left → AreOver k right → IsMask mask → IsMaskOver k mask → k ≤ 4 → IsModel model f
    → SameOver 4 (values_of s) (start_values (assigned model) k) → tells_apart left right mask (seen s) ≡ true
model_tells f left right mask k model s e over_left over_right m over few h same =
    tells_is_apart left right mask (seen s) m (models_give_states left right mask k over_left over_right m over few (assigned model) (subst (IsModel model) e h) (values_of s) same)

-- the registers of that state are words
pub state_words : (s : WState) (v : Values) → length s.r ≡ 4 → SameOver 4 (values_of s) v → AreWords v → All (λ w. w < 2 ^ 32) s.r
state_words s v four same words j d low =
    let at : get_or s.r j 0 < 2 ^ 32 = of_four (λ x. get_or s.r x 0 < 2 ^ 32) (each 0 (omega arith) (same 0 (inl (omega arith, omega arith)))) (each 1 (omega arith) (same 1 (inl (omega arith, omega arith)))) (each 2 (omega arith) (same 2 (inl (omega arith, omega arith)))) (each 3 (omega arith) (same 3 (inl (omega arith, omega arith)))) j (omega (arith, low, four)) in
    subst (λ z. z < 2 ^ 32) (get_or_default s.r j 0 d low) at
  where
    each : (x : ℕ) → x < 15 → get_or s.r x 0 ≡ v x → get_or s.r x 0 < 2 ^ 32
    each x h e = subst (λ z. z < 2 ^ 32) (sym e) (words.register x h)

-- the log of a refutation
pub refutes : (budget : ℕ) (f g : Cnf) (log : Vec Line Global) → f ≡ g → budget + length f.clauses ≤ 4294967295 → VerdictOf f budget (Unsat log) → IsRefutation budget g (map content_of log.items) × All IsLine (map content_of log.items)
refutes budget f g log e small v =
    let r : IsRefutation budget f (map content_of log.items) = record { log = log; refutes = v; says = refl } in
    (subst (λ h. IsRefutation budget h (map content_of log.items)) e r, refutation_lines budget f (map content_of log.items) small r)

-- the log of a search that spent the budget
pub spends : (budget : ℕ) (f g : Cnf) (log : Vec Line Global) → f ≡ g → budget + length f.clauses ≤ 4294967295 → VerdictOf f budget (Spent log) → IsSpentSearch budget g (map content_of log.items) × All IsLine (map content_of log.items)
spends budget f g log e small v =
    let r : IsSpentSearch budget f (map content_of log.items) = record { log = log; spends = v; says = refl } in
    (subst (λ h. IsSpentSearch budget h (map content_of log.items)) e r, search_lines budget f (map content_of log.items) small r)

-- ---- the literals are those of 200,000 variables ----

codes_below : (zs : List ℤ) → AreLiteralsOf 200000 zs → All (λ l. l < 400000) (map code_of zs)
codes_below [] a = All-nil _
codes_below (z ∷ zs) a = All-cons (λ l. l < 400000) (code_of z) (map code_of zs) (code_below z a.0) (codes_below zs a.1)

pub clauses_below : (cs : List (List ℤ)) → AreClausesOf 200000 cs → AreBelow 200000 (codes_of cs)
clauses_below [] a = All-nil _
clauses_below (c ∷ cs) a = All-cons (λ clause. All (λ l. l < 400000) clause) (map code_of c) (codes_of cs) (codes_below c a.0) (clauses_below cs a.1)

-- ---- listed states ----

pub told_seen : (states : List WState) (left right : List Instr) (mask : ℕ) → told (map seen states) left right mask ≡ list_any (λ s. tells_apart left right mask (seen s)) states
told_seen [] left right mask = refl
told_seen (s ∷ states) left right mask = ap (λ b. tells_apart left right mask (seen s) || b) (told_seen states left right mask)

-- if no listed state tells the two apart, the solver's answer is the result of trying
pub answered : (r : Result Finding AllocError) (s : Settings) (states : List Seen) (w : code.Window) (seq : List Instr) → w.k ≡ alphabet_registers s w.left → told states w.left seq w.mask.items.bits ≡ false → IfOk r (IsAnswer s.budget w seq) → IfOk r (IsFinding s states (window_in w) seq)
answered (Ok Told) s states w seq n u a = absurd a
answered (Ok (State x)) s states w seq n u a = (u, a.0, a.1)
answered (Ok (Proof log)) s states w seq n u a = (subst (λ k. IsRefutation s.budget (sides_formula w.left seq w.mask.items.bits k) (map content_of log.items)) n a.0, a.1)
answered (Ok (Log log)) s states w seq n u a = (u, subst (λ k. IsSpentSearch s.budget (sides_formula w.left seq w.mask.items.bits k) (map content_of log.items)) n a.0, a.1)
answered (Err e) s states w seq n u a = tt
