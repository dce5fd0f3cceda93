-- The results and refusals of the steps that commands share, as the definitions have them.
use Rattle.std.proofs.Common.{◌≡◌, ◌∙◌, ap, ◌⊎◌, inl, inr, ℕ, List, Option, Some, Result, Ok, Err, IfOk, sym, subst}
use Rattle.std.specs.Result.{result_map_both}
use Rattle.rule_table.specs.Table.{Table}
use Rattle.rule_table.specs.Refused.{IsText, IsRefused as IsRefusedTable}
use Rattle.lrat_check.specs.Proofs.{Answers}
use Rattle.table_audit.specs.declared.errors.AuditError.{AuditError}
use Rattle.table_audit.specs.declared.errors.AuditError.TheVariants as audit
use Rattle.thumb_model.specs.Listing.{ListingLine}
use Rattle.thumb_model.specs.Layout.{Fault, Layable}
use Rattle.listing_parser.specs.declared.errors.ListingFault.{ListingFault}
use Rattle.listing_parser.specs.Parsing.{IsListing, IsRefused}
use Rattle.label_layout.specs.Refusals.{first_fault}
use Rattle.label_layout.specs.Addresses.{Addresses}
use Rattle.command_runs.specs.Plans.{Outcome, Refuses}
use Rattle.audit_cli.specs.declared.refusal.Refusal.{Refusal}
use Rattle.audit_cli.specs.declared.refusal.Refusal.TheVariants as refusal
use Rattle.audit_cli.specs.Printed.{unlaid_refusal, refusal_line, HasNoImage, no_address, inside, IsAudited, IsUnaudited, IsUnlisted, unlisted, IsUnread, unread, IsUnlaid, unlaid}
use Rattle.thumb_assembler.specs.declared.errors.ImageError.TheVariants as image
use Rattle.thumb_assembler.specs.Bytes.{IsRefusal}
use Rattle.thumb_assembler.specs.Runs.{IsAssembled}
use Rattle.audit_cli.specs.Answers.{MakesImage, AuditsTable, ReadsTable, ReadsListing, LaysOut}

pub is_unlisted : (text : List ℕ) (line : ℕ) → IsRefusedTable text line → IsUnlisted text (refusal.Table line)
is_unlisted text line h = unlisted line h

-- the audit's verdict if it refuses
pub refused_verdict : {A : Type 0} (x : Result A AuditError) (d e : AuditError) (V : Option AuditError → Type 0) → Answers audit.Memory x V → x ≡ Err d → d ≡ e → (e ≡ audit.Memory → ⊥) → V (Some e)
refused_verdict {A} x d e V h is same other = go (subst (λ (y : Result A AuditError). Answers audit.Memory y V) (is ∙ ap (λ (f : AuditError). Err f) same) h) where
  go : (e ≡ audit.Memory) ⊎ V (Some e) → V (Some e)
  go (inl m) = absurd (other m)
  go (inr v) = v

pub is_unread : (text : List ℕ) (line : ℕ) (k : ListingFault) → IsRefused text line k → IsUnread text (refusal.Listing line k)
is_unread text line k h = unread line k h

pub is_unlaid : (base : ℕ) (lines : List ListingLine) (line : ℕ) (fault : Fault) (r : Refusal) → first_fault base lines ≡ Some (line, fault) → r ≡ unlaid_refusal line fault → IsUnlaid base lines r
is_unlaid base lines line fault r h e = subst (IsUnlaid base lines) (sym e) (unlaid line fault h)

-- the refusals of the assembler
pub is_no_address : (base : ℕ) (lines : List ListingLine) (line : ℕ) → IsRefusal base lines (image.NoAddress line) → HasNoImage base lines (refusal.Address line)
is_no_address base lines line h = no_address line h

pub is_inside : (base : ℕ) (lines : List ListingLine) (line : ℕ) → IsRefusal base lines (image.Inside line) → HasNoImage base lines (refusal.Inside line)
is_inside base lines line h = inside line h

pub is_made : {A : Type 0} (view : A → List ℕ) (base : ℕ) (lines : List ListingLine) (x : Result A Refusal) (a : A) → MakesImage base lines (result_map_both view (λ e. e) x) → x ≡ Ok a → IsAssembled base lines (view a)
is_made {A} view base lines x a h e = subst (λ (y : Result A Refusal). MakesImage base lines (result_map_both view (λ r. r) y)) e h

pub not_made : {A : Type 0} (view : A → List ℕ) (base : ℕ) (lines : List ListingLine) (x : Result A Refusal) (r : Refusal) → MakesImage base lines (result_map_both view (λ e. e) x) → x ≡ Err r → HasNoImage base lines r
not_made {A} view base lines x r h e = subst (λ (y : Result A Refusal). MakesImage base lines (result_map_both view (λ s. s) y)) e h

-- what holds of the refusal with a line holds of an outcome that equals it
pub refused_so : (P : Outcome → Type 0) (r : Refusal) (o : Outcome) → o ≡ Refuses (refusal_line r) → P (Refuses (refusal_line r)) → P o
refused_so P r o e h = subst P (sym e) h

-- what follows from a property of a result's value holds of that value
pub ok_so : {A E : Type 0} (r : Result A E) (P Q : A → Type 0) → IfOk r P → ((a : A) → P a → Q a) → IfOk r Q
ok_so {A} {E} (Ok a) P Q h f = f a h
ok_so {A} {E} (Err e) P Q h f = h

-- what holds of the refusal with a line holds of a result that equals it
pub refused_ok : {A E : Type 0} (view : A → Outcome) (P : Outcome → Type 0) (r : Refusal) (x : Result A E) → IfOk x (λ o. view o ≡ Refuses (refusal_line r)) → P (Refuses (refusal_line r)) → IfOk x (λ o. P (view o))
refused_ok view P r x e h = ok_so x (λ o. view o ≡ Refuses (refusal_line r)) (λ o. P (view o)) e (λ o is. refused_so P r (view o) is h)

-- ---- the results of steps, through a view of what they made ----

pub is_listed : {A : Type 0} (view : A → Table) (text : List ℕ) (x : Result A Refusal) (a : A) → ReadsTable text (result_map_both view (λ e. e) x) → x ≡ Ok a → IsText text (view a)
is_listed {A} view text x a h e = subst (λ (y : Result A Refusal). ReadsTable text (result_map_both view (λ r. r) y)) e h

pub not_listed : {A : Type 0} (view : A → Table) (text : List ℕ) (x : Result A Refusal) (r : Refusal) → ReadsTable text (result_map_both view (λ e. e) x) → x ≡ Err r → IsUnlisted text r
not_listed {A} view text x r h e = subst (λ (y : Result A Refusal). ReadsTable text (result_map_both view (λ s. s) y)) e h

pub is_audited : {A : Type 0} (view : A → Table) (text : List ℕ) (x : Result A Refusal) (a : A) → AuditsTable text (result_map_both view (λ e. e) x) → x ≡ Ok a → IsAudited text (view a)
is_audited {A} view text x a h e = subst (λ (y : Result A Refusal). AuditsTable text (result_map_both view (λ r. r) y)) e h

pub not_audited : {A : Type 0} (view : A → Table) (text : List ℕ) (x : Result A Refusal) (r : Refusal) → AuditsTable text (result_map_both view (λ e. e) x) → x ≡ Err r → IsUnaudited text r
not_audited {A} view text x r h e = subst (λ (y : Result A Refusal). AuditsTable text (result_map_both view (λ s. s) y)) e h

-- ---- the results of steps ----

pub is_read : (text : List ℕ) (x : Result (List ListingLine) Refusal) (lines : List ListingLine) → ReadsListing text x → x ≡ Ok lines → IsListing text lines
is_read text x lines h e = subst (ReadsListing text) e h

pub not_read : (text : List ℕ) (x : Result (List ListingLine) Refusal) (r : Refusal) → ReadsListing text x → x ≡ Err r → IsUnread text r
not_read text x r h e = subst (ReadsListing text) e h

pub is_laid : (base : ℕ) (lines : List ListingLine) (x : Result Addresses Refusal) (laid : Addresses) → LaysOut base lines x → x ≡ Ok laid → Layable base lines
is_laid base lines x laid h e = (let l : LaysOut base lines (Ok laid) = subst (LaysOut base lines) e h in l.2)

pub not_laid : (base : ℕ) (lines : List ListingLine) (x : Result Addresses Refusal) (r : Refusal) → LaysOut base lines x → x ≡ Err r → IsUnlaid base lines r
not_laid base lines x r h e = subst (LaysOut base lines) e h
