-- Look-ups of families and of the entries that they raise.
use Rattle.std.proofs.Common.{◌≡◌, ℕ, zero, suc, ◌-◌, ◌≤◌, ◌<◌, ◌+◌, List, Option, Some, None, MatchOption, Result, map, length, refl, sym, ◌∙◌, subst, arith, ap, slice_get}
use Rattle.std.specs.Borrow.{Bor}
use Rattle.std.specs.List.{HoldsAt}
use Rattle.std.specs.Option.{option_map}
use Rattle.std.proofs.lemmas.Option.{slice_get-map, slice_get_past, slice_get-get_or}
use Rattle.rule_table.specs.Table.{Rule, Family, Table}
use Rattle.lrat_check.specs.Proofs.{Answers}
use Rattle.lrat_check.proofs.Turns.{turn_each}
use Rattle.table_audit.specs.declared.errors.AuditError.{AuditError}
use Rattle.table_audit.specs.declared.errors.AuditError.TheVariants.{Memory}
use Rattle.table_audit.specs.declared.errors.AuditError.TheVariants as error
use Rattle.table_audit.specs.declared.errors.FamilyKind.TheVariants as family
use Rattle.table_audit.specs.Canonical.{HasFormula}
use Rattle.table_audit.specs.Acceptance.{EntryVerdict, EntriesVerdict, RaisedVerdict, FamilyVerdict}
use Rattle.table_audit.specs.Costs.{raised_cost, family_cost}
use Rattle.table_audit.specs.Families.{entry_at, entry_of}
use Rattle.table_audit.proofs.Fitting.{formula_fits}

-- what is found at a place
pub found_there : {A B : Type 0} (f : A → B) (xs : List A) (i : ℕ) (r : Option (Bor A)) → MatchOption r (length xs ≤ i) (λ x. (i < length xs) × HoldsAt (λ y. x.now ≡ y) xs i) → option_map (λ x. f x.now) r ≡ slice_get (map f xs) i
found_there f xs i None h = sym (slice_get-map f xs i ∙ ap (option_map f) (slice_get_past xs i h))
found_there f xs i (Some x) h = sym (slice_get-map f xs i ∙ ap (option_map f) (slice_get-get_or xs i x.now h.0) ∙ ap (λ y. Some (f y)) (sym (h.1 x.now)))

-- an entry's number is one above its place
pub entry_there : (es : List Rule) (number : ℕ) → 1 ≤ number → entry_at es number ≡ slice_get es (number - 1)
entry_there es zero h = absurd (omega arith)
entry_there es (suc i) h = ap (slice_get es) (let e : i ≡ suc i - 1 = omega arith in e)

-- the entry that a family raises stands at a place
pub entry_stands : {P : Type 0} (es : List Rule) (number : ℕ) (e : Rule) → entry_at es number ≡ Some e → ((i : ℕ) → slice_get es i ≡ Some e → P) → P
entry_stands es zero e at next = absurd (cc)
entry_stands es (suc i) e at next = next i at

-- where all entries passed, it has a formula
pub raised_fits : (t : Table) (f : Family) (e : Rule) → EntriesVerdict t None → entry_of t f ≡ Some e → HasFormula t.header e
unfolding EntryVerdict
raised_fits t f e passed at = entry_stands t.rules f.entry e at (λ i there. formula_fits t e (turn_each (EntryVerdict t) 1 t.rules i e passed there).0)

-- the verdict and the cost of a family are those with its entry
pub verdict_raised : (t : Table) (n : ℕ) (f : Family) (e : Option Rule) (o : Option AuditError) → entry_of t f ≡ e → FamilyVerdict t n f o → RaisedVerdict t n f e o
unfolding FamilyVerdict
verdict_raised t n f e o at p = subst (λ x. RaisedVerdict t n f x o) at p

pub family_within : (t : Table) (f : Family) (e : Option Rule) (before after : ℕ) → e ≡ entry_of t f → after ≤ before + raised_cost t f e → after ≤ before + family_cost t f
family_within t f e before after at h = subst (λ x. after ≤ before + raised_cost t f x) at h

pub none_raised : (t : Table) (n : ℕ) (f : Family) → None ≡ entry_of t f → FamilyVerdict t n f (Some (error.Family n family.Symbol))
unfolding FamilyVerdict
none_raised t n f at = subst (λ x. RaisedVerdict t n f x (Some (error.Family n family.Symbol))) at refl

pub answer_raised : {A : Type 0} (t : Table) (n : ℕ) (f : Family) (e : Option Rule) (r : Result A AuditError) → e ≡ entry_of t f → Answers Memory r (RaisedVerdict t n f e) → Answers Memory r (FamilyVerdict t n f)
unfolding FamilyVerdict
answer_raised t n f e r at p = subst (λ x. Answers Memory r (RaisedVerdict t n f x)) at p
