use Rattle.std.proofs.Common.{◌≡◌, ◌≤◌, length, slice_get, Some, inr, arith, sym, subst}
use Rattle.std.specs.Prelude.{Any, IsTrue, ◌↔◌, ◌++◌, []}
use Rattle.std.proofs.lemmas.List.{length-map, take_all, append-nil}
use Rattle.step_ledger.proofs.Rises.{at_least-stays, at_least-goes_on, at_least-fewer}
use Rattle.clause_model.specs.Clauses.{codes_of}
use Rattle.lrat_check.specs.Text.{Content, content_of}
use Rattle.lrat_check.specs.Proofs.{additions}
use Rattle.lrat_check.specs.Runs.{contents_of}
use Rattle.lrat_check.proofs.Additions.{content_at}
use Rattle.lrat_check.proofs.Checks.{begun_known, led_known, led_accepts, faulty_refused, line_distinct, line_step, line_fault, line_end, cost_next, cost_within, refuted_more, LinesRest}
use Rattle.std.proofs.Common.{ℕ, List, Option, ◌+◌, ◌⊎◌, inl, drop}
use Rattle.lrat_check.specs.declared.line.Line.{Line}
use Rattle.lrat_check.specs.declared.fault.LineFault.{LineFault}
use Rattle.lrat_check.specs.declared.fault.LineFault.TheVariants.{Memory as LineMemory}
use Rattle.lrat_check.specs.Checking.{State}
use Rattle.lrat_check.specs.Faults.{IsFaultOf}
use Rattle.lrat_check.specs.declared.proof_fault.ProofFault.{ProofFault}
use Rattle.lrat_check.specs.declared.proof_fault.ProofFault.TheVariants.{Line as LineOf, Memory}
use Rattle.lrat_check.specs.Checked.{known_of}
use Rattle.lrat_check.proofs.proofs.check_lines.Goals as goal

pub loop-place-init : goal.loop-place-init
loop-place-init g c =
    let known = begun_known (codes_of c.args.formula.now.clauses) c.in_ok-checker.checker c.in_ok-checker.ensures.starts in
    rw known (record {
      rest = record { leads = λ o p. p };
      refuted = subst (λ (xs : List (List ℕ)). IsTrue c.in_ok-checker.checker.refuted ↔ Any (λ clause. clause ≡ []) xs) (sym (append-nil (codes_of c.args.formula.now.clauses))) c.in_ok-checker.ensures.starts.refuted;
      cost = omega arith;
      rises = at_least-stays _;
    })

pub returns-in-Err-clause-answers : goal.returns-in-Err-clause-answers
returns-in-Err-clause-answers g c =
    let at = content_at c.args.lines.now c.loop-place.place c.index-lines-place.result c.loop-place-test.true c.index-lines-place.is in
    answer c.in-Err.fault c.fault_at.result c.loop-place.checker (contents_of c.args.lines.now) c.loop-place.place c.index-lines-place.result _ at c.loop-place.invariant.rest c.in-Err.ensures.err c.fault_at.ensures
  where
    answer : (fault : LineFault) (r : ProofFault) (old : State) (lines : List Content) (i : ℕ) (line : Line) (whole : Option ProofFault → Type 0) → slice_get lines i ≡ Some (content_of line) → LinesRest LineOf (known_of old) (i + 1) (drop i lines) whole
        → (fault ≡ LineMemory) ⊎ IsFaultOf old (content_of line) fault → ((fault ≡ LineMemory) × (r ≡ Memory)) ⊎ ((fault ≡ LineMemory → ⊥) × (r ≡ LineOf (i + 1))) → (r ≡ Memory) ⊎ whole (Some r)
    answer fault r old lines i line whole at rest e (inl k) = inl k.1
    answer fault r old lines i line whole at rest (inl e) (inr k) = absurd (k.0 e)
    answer fault r old lines i line whole at rest (inr e) (inr k) =
        inr (subst (λ (f : ProofFault). whole (Some f)) (sym k.1) (line_fault LineOf (known_of old) (i + 1) lines i (content_of line) whole at rest (faulty_refused old (content_of line) fault (line_distinct line) e)))

pub returns-in-Err-clause-cost : goal.returns-in-Err-clause-cost
returns-in-Err-clause-cost g c =
    let at = content_at c.args.lines.now c.loop-place.place c.index-lines-place.result c.loop-place-test.true c.index-lines-place.is in
    cost_within c.loop-place.checker (contents_of c.args.lines.now) c.loop-place.place (content_of c.index-lines-place.result) c.loop-place.steps _ _ at c.loop-place.invariant.cost c.add.ensures.cost

pub loop-place-preserved : goal.loop-place-preserved
loop-place-preserved g c =
    let at = content_at c.args.lines.now c.loop-place.place c.index-lines-place.result c.loop-place-test.true c.index-lines-place.is in
    let led = c.in_default.ensures.ok in
    record {
      rest = line_step _ _ _ _ (contents_of c.args.lines.now) c.loop-place.place _ _ at c.loop-place.invariant.rest (led_accepts _ _ _ led) (led_known _ _ _ led);
      refuted = refuted_more _ _ (codes_of c.args.formula.now.clauses) (contents_of c.args.lines.now) c.loop-place.place _ at led c.loop-place.invariant.refuted;
      cost = cost_next _ _ (contents_of c.args.lines.now) c.loop-place.place _ c.loop-place.steps _ _ at led c.loop-place.invariant.cost c.add.ensures.cost;
      rises = let count = c.in_default.ensures.count in at_least-goes_on _ _ _ 0 0 c.loop-place.invariant.rises (at_least-fewer _ _ count.0 0 (omega arith) count.2.0);
    }

pub returns-clause-answers : goal.returns-clause-answers
returns-clause-answers g c =
    let end : length (contents_of c.args.lines.now) ≤ c.loop-place.place = rw (length-map c.args.lines.now content_of) c.loop-place-test.false in
    line_end _ _ _ (contents_of c.args.lines.now) c.loop-place.place _ end c.loop-place.invariant.rest

pub returns-clause-refuted : goal.returns-clause-refuted
returns-clause-refuted g c =
    let end : length (contents_of c.args.lines.now) ≤ c.loop-place.place = rw (length-map c.args.lines.now content_of) c.loop-place-test.false in
    subst (λ (xs : List Content). IsTrue c.loop-place.checker.refuted ↔ Any (λ clause. clause ≡ []) (codes_of c.args.formula.now.clauses ++ additions xs)) (take_all c.loop-place.place (contents_of c.args.lines.now) end) c.loop-place.invariant.refuted
