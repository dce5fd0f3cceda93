-- The entries and families of an accepted table have formulas that their proofs refute.
use Rattle.std.proofs.Common.{◌≡◌, ℕ, zero, suc, ◌+◌, Option, Some, None, refl}
use Rattle.std.specs.Prelude.{All}
use Rattle.clause_model.specs.Clauses.{codes_of}
use Rattle.lrat_check.specs.Runs.{IsRefutation}
use Rattle.rule_table.specs.Header.{Header}
use Rattle.rule_table.specs.Table.{Rule, Family, Table}
use Rattle.lrat_check.proofs.Turns.{turn_each}
use Rattle.table_audit.specs.declared.errors.EntryFault.TheVariants.{Proof, Unfinished}
use Rattle.table_audit.specs.declared.errors.FamilyKind.TheVariants as kind
use Rattle.table_audit.specs.declared.errors.AuditError.TheVariants.{Entry}
use Rattle.table_audit.specs.declared.errors.AuditError.TheVariants as audit
use Rattle.table_audit.specs.Acceptance.{EntryVerdict, RaisedVerdict, FamilyVerdict, IsAccepted}
use Rattle.table_audit.specs.Families.{entry_at, entry_of, raised_formula}
use Rattle.audit_cli.specs.Ready.{IsRaised}
use Rattle.table_audit.specs.Canonical.{HasFormula}
use Rattle.table_audit.specs.Shorter.{formula_of}
use Rattle.table_audit.proofs.Fitting.{formula_fits}
use Rattle.audit_cli.proofs.Refutations.{passed_refutes}
use Rattle.seq_enum.proofs.Weighing.{All-from_slice_get}

pub record IsReady (h : Header) (e : Rule) : Type 0 where
  pub formula : HasFormula h e
  pub refutes : IsRefutation (codes_of (formula_of h e).clauses) e.proof

pub entry_ready : (t : Table) (n : ℕ) (e : Rule) → EntryVerdict t n e None → IsReady t.header e
unfolding EntryVerdict
entry_ready t n e v = record { formula = formula_fits t e v.0; refutes = passed_refutes (λ line. Entry n (Proof line)) (Entry n Unfinished) (codes_of (formula_of t.header e).clauses) e.proof v.1.0 }

pub all_ready : (t : Table) → IsAccepted t → All (IsReady t.header) t.rules
all_ready t a = All-from_slice_get (IsReady t.header) t.rules (λ i e at. entry_ready t (1 + i) e (turn_each (EntryVerdict t) 1 t.rules i e a.1.1.0 at))

entry_among : (t : Table) → IsAccepted t → (n : ℕ) (e : Rule) → entry_at t.rules n ≡ Some e → IsReady t.header e
entry_among t a zero e at = absurd (let bad : None ≡ Some e = at in cc)
entry_among t a (suc n) e at = entry_ready t (1 + n) e (turn_each (EntryVerdict t) 1 t.rules n e a.1.1.0 at)

of_entry : (t : Table) → IsAccepted t → (n : ℕ) (f : Family) (o : Option Rule) → entry_of t f ≡ o → RaisedVerdict t n f o None → IsRaised t.header t.rules f
of_entry t a n f None is v = absurd (let bad : None ≡ Some (audit.Family n kind.Symbol) = v in cc)
of_entry t a n f (Some e) is v = record {
  entry = e;
  is_entry = is;
  formula = (entry_among t a f.entry e is).formula;
  raisable = v.0;
  refutes = passed_refutes (λ line. audit.Family n (kind.Proof line)) (audit.Family n kind.Unfinished) (codes_of (raised_formula t.header f e).clauses) f.proof v.1;
}

family_raised : (t : Table) → IsAccepted t → (n : ℕ) (f : Family) → FamilyVerdict t n f None → IsRaised t.header t.rules f
unfolding FamilyVerdict
family_raised t a n f v = of_entry t a n f (entry_of t f) refl v

pub all_raised : (t : Table) → IsAccepted t → All (IsRaised t.header t.rules) t.families
all_raised t a = All-from_slice_get (IsRaised t.header t.rules) t.families (λ i f at. family_raised t a (1 + i) f (turn_each (FamilyVerdict t) 1 t.families i f a.1.1.1 at))
