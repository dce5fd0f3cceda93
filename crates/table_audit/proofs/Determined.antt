-- The audit of a table has one answer.
use Rattle.std.proofs.Common.{ℕ, ◌≡◌, ◌<◌, ◌≤◌, ◌⊎◌, inl, inr, Option, Some, None, Result, IfErr, refl, sym, ◌∙◌, ap, arith}
use Rattle.rule_table.specs.Table.{Rule, Family, Table}
use Rattle.lrat_check.specs.Proofs.{Answers}
use Rattle.lrat_check.proofs.Determined.{IsOne, tests_one, then_one, turn_one, proof_one, passing_answers}
use Rattle.table_audit.specs.declared.errors.AuditError.{AuditError}
use Rattle.table_audit.specs.declared.errors.AuditError.TheVariants.{Entry, Memory}
use Rattle.table_audit.specs.declared.errors.EntryFault.TheVariants.{Untold}
use Rattle.table_audit.specs.Shorter.{weight_in}
use Rattle.table_audit.specs.Acceptance.{StateTest, StatesVerdict, WideVerdict, SidesVerdict, EntryProofVerdict, ToldVerdict, OpenTest, OpensVerdict, EntryVerdict, SymbolVerdict, FamilyProofVerdict, RaisedVerdict, FamilyVerdict, EntriesVerdict, FamiliesVerdict, TableVerdict, IsAccepted}
use Rattle.table_audit.specs.Families.{entry_of}

-- two untold sequences that are each first by weight and then by number have the same number
told_one : (t : Table) (n : ℕ) (e : Rule) → IsOne (ToldVerdict t n e)
told_one t n e = record { same = same }
  where
    first : (a b w v : ℕ) → (w < v) ⊎ ((w ≡ v) × (a ≤ b)) → (v < w) ⊎ ((v ≡ w) × (b ≤ a)) → a ≡ b
    first a b w v (inl h) (inl k) = absurd (omega (arith, h, k))
    first a b w v (inl h) (inr k) = absurd (omega (arith, h, k.0))
    first a b w v (inr h) (inl k) = absurd (omega (arith, h.0, k))
    first a b w v (inr h) (inr k) = omega (arith, h.1, k.1)

    same : (a b : Option AuditError) → ToldVerdict t n e a → ToldVerdict t n e b → a ≡ b
    same None None p q = refl
    same None (Some g) p q = absurd (p q.0 q.1.0.seq q.1.0.is)
    same (Some f) None p q = absurd (q p.0 p.1.0.seq p.1.0.is)
    same (Some f) (Some g) p q =
        let a = p.1.0 in
        let b = q.1.0 in
        let one : p.0 ≡ q.0 = first p.0 q.0 (weight_in t.header a.seq) (weight_in t.header b.seq) (a.first q.0 b.seq b.is) (b.first p.0 a.seq a.is) in
        ap (λ z. Some z) (p.1.1 ∙ ap (λ m. Entry n (Untold m)) one ∙ sym q.1.1)

entry_one : (t : Table) (n : ℕ) (e : Rule) → IsOne (EntryVerdict t n e)
unfolding EntryVerdict
entry_one t n e =
    let opens = turn_one (OpenTest t n e) 0 e.opens (λ i o. tests_one _ _) in
    then_one (SidesVerdict t n e) _ (tests_one _ _) (then_one (EntryProofVerdict t n e) _ (proof_one _ _ _ _) (then_one (ToldVerdict t n e) (OpensVerdict t n e) (told_one t n e) opens))

raised_one : (t : Table) (n : ℕ) (f : Family) (e : Option Rule) → IsOne (RaisedVerdict t n f e)
raised_one t n f None = record { same = λ a b p q. p ∙ sym q }
raised_one t n f (Some e) = then_one (SymbolVerdict t n f e) (FamilyProofVerdict t n f e) (tests_one _ _) (proof_one _ _ _ _)

family_one : (t : Table) (n : ℕ) (f : Family) → IsOne (FamilyVerdict t n f)
unfolding FamilyVerdict
family_one t n f = raised_one t n f (entry_of t f)

table_one : (t : Table) → IsOne (TableVerdict t)
table_one t =
    let entries = turn_one (EntryVerdict t) 1 t.rules (λ n e. entry_one t n e) in
    let families = turn_one (FamilyVerdict t) 1 t.families (λ n f. family_one t n f) in
    then_one (StatesVerdict t) _ (turn_one (StateTest t) 0 _ (λ n s. tests_one _ _))
    (then_one (WideVerdict t) _ (tests_one _ _) (then_one (EntriesVerdict t) (FamiliesVerdict t) entries families))

pub table_same : (t : Table) (a b : Option AuditError) → TableVerdict t a → TableVerdict t b → a ≡ b
table_same t a b p q = (table_one t).same a b p q

pub accepted_answers : {A : Type 0} (t : Table) (r : Result A AuditError) → IsAccepted t → Answers Memory r (TableVerdict t) → IfErr r (λ e. e ≡ Memory)
accepted_answers t r p q = passing_answers Memory (TableVerdict t) r (table_one t) p q
