-- A fault of a proof, reported as a fault of the entry or the family of this number.
use Rattle.std.specs.Prelude.{ℕ}
use Rattle.lrat_check.specs.declared.proof_fault.ProofFault.{ProofFault}
use Rattle.lrat_check.specs.declared.proof_fault.ProofFault.TheVariants as proof
use Rattle.table_audit.specs.declared.errors.EntryFault.TheVariants.{Proof, Unfinished}
use Rattle.table_audit.specs.declared.errors.AuditError.{AuditError}
use Rattle.table_audit.specs.declared.errors.FamilyKind.TheVariants as family
use Rattle.table_audit.specs.declared.errors.AuditError.TheVariants.{Entry, Family, Memory}

abbrev pub fault_of : ℕ → ProofFault → AuditError
fault_of n (proof.Line line) = Entry n (Proof line)
fault_of n proof.Unfinished = Entry n Unfinished
fault_of n proof.Memory = Memory

abbrev pub raised_fault : ℕ → ProofFault → AuditError
raised_fault n (proof.Line line) = Family n (family.Proof line)
raised_fault n proof.Unfinished = Family n family.Unfinished
raised_fault n proof.Memory = Memory
