-- What the checker answers on a proof is the verdict on the entry's or the family's proof.
use Rattle.std.proofs.Common.{◌≡◌, ℕ, ℤ, suc, ◌⊎◌, inl, inr, List, [], ◌∷◌, ◌++◌, Option, Some, None, Result, Ok, Err, refl, ap, sym, ◌∙◌, subst, arith}
use Rattle.std.specs.Prelude.{Any}
use Rattle.std.proofs.lemmas.List.{append-nil}
use Rattle.thumb_instr.specs.declared.instr.Instr.{Instr}
use Rattle.thumb_model.specs.Effect.{AreOver}
use Rattle.clause_model.specs.Clauses.{codes_of}
use Rattle.bit_blast.specs.Differences.{sides_formula}
use Rattle.bit_blast.proofs.Exact.{itself_ends_in_empty}
use Rattle.std.specs.Result.{IsErrAnd}
use Rattle.lrat_check.specs.Text.{Content}
use Rattle.lrat_check.specs.declared.proof_fault.ProofFault.{ProofFault}
use Rattle.lrat_check.specs.declared.proof_fault.ProofFault.TheVariants as proof
use Rattle.lrat_check.specs.Proofs.{Answers, ProofVerdict}
use Rattle.lrat_check.proofs.Renamed.{proof_renamed}
use Rattle.table_audit.specs.declared.errors.AuditError.{AuditError}
use Rattle.table_audit.specs.declared.errors.AuditError.TheVariants.{Memory}

-- the verdict on a proof whose faults are reported by these names
abbrev pub NamedVerdict : (ProofFault → AuditError) → List (List ℕ) → List Content → Option AuditError → Type 0
NamedVerdict name clauses lines = ProofVerdict (λ line. name (proof.Line line)) (name proof.Unfinished) clauses lines

pub proof_passed : (name : ProofFault → AuditError) (clauses whole : List (List ℕ)) (lines log : List Content) → clauses ≡ whole → lines ≡ log → ProofVerdict proof.Line proof.Unfinished clauses lines None → NamedVerdict name whole log None
proof_passed name clauses whole lines log e f p =
    subst (λ ls. NamedVerdict name whole ls None) f (subst (λ cs. NamedVerdict name cs lines None) e (proof_renamed name proof.Line proof.Unfinished clauses lines None p))

pub proof_failed : (name : ProofFault → AuditError) (clauses whole : List (List ℕ)) (lines log : List Content) (fault : ProofFault) (told : AuditError) → name proof.Memory ≡ Memory → clauses ≡ whole → lines ≡ log → told ≡ name fault
    → (fault ≡ proof.Memory) ⊎ ProofVerdict proof.Line proof.Unfinished clauses lines (Some fault)
    → (told ≡ Memory) ⊎ NamedVerdict name whole log (Some told)
proof_failed name clauses whole lines log fault told kept e f is (inl m) = inl (is ∙ ap name m ∙ kept)
proof_failed name clauses whole lines log fault told kept e f is (inr p) =
    inr (subst (λ t. NamedVerdict name whole log (Some t)) (sym is)
    (subst (λ ls. NamedVerdict name whole ls (Some (name fault))) f
    (subst (λ cs. NamedVerdict name cs lines (Some (name fault))) e (proof_renamed name proof.Line proof.Unfinished clauses lines (Some fault) p))))

-- an error that is passed on is the same answer
pub handed_on : {A F : Type 0} (memory f : F) (r : Result A F) (verdict : Option F → Type 0) → IsErrAnd r (λ e. e ≡ f) → (f ≡ memory) ⊎ verdict (Some f) → Answers memory r verdict
handed_on memory f (Ok a) verdict h p = absurd h
handed_on memory f (Err e) verdict h (inl p) = inl (h ∙ p)
handed_on memory f (Err e) verdict h (inr p) = inr (subst (λ x. verdict (Some x)) (sym h) p)

-- ---- a side against itself ----

-- where the last clause is empty, an empty clause is among the codes
last_empty : (clauses : List (List ℤ)) → Any (λ clause. clause ≡ []) (codes_of (clauses ++ [] ∷ []))
last_empty [] = (0, [], omega arith, refl, refl)
last_empty (clause ∷ clauses) = let r = last_empty clauses in (suc r.0, r.1, omega (arith, r.2), r.3, r.4)

-- no line is needed where the right side is the left side itself
pub unshortened_passes : (name : ProofFault → AuditError) (left right : List Instr) (mask k : ℕ) (lines : List Content) → AreOver k right → left ≡ right → lines ≡ [] → NamedVerdict name (codes_of (sides_formula left right mask k).clauses) lines None
unshortened_passes name left right mask k lines over same none =
    let ends = itself_ends_in_empty right mask k over in
    let empty : Any (λ clause. clause ≡ []) (codes_of (sides_formula right right mask k).clauses) = subst (λ (cs : List (List ℤ)). Any (λ clause. clause ≡ []) (codes_of cs)) (sym ends.1) (last_empty ends.0) in
    subst (λ ls. NamedVerdict name (codes_of (sides_formula left right mask k).clauses) ls None) (sym none)
    (subst (λ side. NamedVerdict name (codes_of (sides_formula side right mask k).clauses) [] None) (sym same)
    (tt, subst (λ cs. Any (λ clause. clause ≡ []) cs) (sym (append-nil (codes_of (sides_formula right right mask k).clauses))) empty))
