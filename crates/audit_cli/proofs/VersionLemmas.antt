-- The audit has the same verdict on a table in another version: `upgrade` and `generalise` rest on it.
use Rattle.std.proofs.Common.{ℕ, ◌+◌, List, [], ◌∷◌, Option, Some, None, inl, inr}
use Rattle.std.specs.Prelude.{◌↔◌}
use Rattle.thumb_instr.specs.declared.instr.Instr.{Instr}
use Rattle.rule_table.specs.Table.{Opened, Rule, Table}
use Rattle.lrat_check.specs.Proofs.{Tests, Then, InTurn}
use Rattle.table_audit.specs.declared.errors.AuditError.{AuditError}
use Rattle.table_audit.specs.declared.errors.AuditError.TheVariants as audit
use Rattle.table_audit.specs.declared.errors.EntryFault.TheVariants as fault
use Rattle.table_audit.specs.Shorter.{SidesFit, IsBelow}
use Rattle.table_audit.specs.Acceptance.{IsUntold, IsFirstUntold, IsRightlyOpen, StatesVerdict, WideVerdict, SidesVerdict, EntryProofVerdict, ToldVerdict, OpensVerdict, OpenTest, EntryVerdict, EntriesVerdict, FamilyVerdict, FamiliesVerdict, TableVerdict}
use Rattle.table_audit.proofs.Growing.{family_in_version}

-- ---- verdicts ----

tests : {F : Type 0} (P Q : Type 0) (e : F) → (P ↔ Q) → (o : Option F) → Tests P e o → Tests Q e o
tests P Q e same None h = same.0 h
tests P Q e same (Some f) h = (h.0, λ q. h.1 (same.1 q))

then : {F : Type 0} (a b c d : Option F → Type 0) → ((o : Option F) → a o → c o) → ((o : Option F) → b o → d o) → (o : Option F) → Then a b o → Then c d o
then a b c d first second None h = (first None h.0, second None h.1)
then a b c d first second (Some f) h = elim h [ inl one ↦ inl (first (Some f) one) | inr two ↦ inr (first None two.0, second (Some f) two.1) ]

in_turn : {X F : Type 0} (a b : ℕ → X → Option F → Type 0) → ((n : ℕ) (x : X) (o : Option F) → a n x o → b n x o) → (n : ℕ) (xs : List X) (o : Option F) → InTurn a n xs o → InTurn b n xs o
in_turn a b each n [] o h = h
in_turn a b each n (x ∷ xs) o h = then (a n x) (InTurn a (n + 1) xs) (b n x) (InTurn b (n + 1) xs) (each n x) (in_turn a b each (n + 1) xs) o h

-- ---- tables of two headers that differ in their versions alone ----

-- the table in this version
abbrev pub in_version : ℕ → Table → Table
in_version v t = record t { header = record t.header { version = v } }

fits : (v : ℕ) (t : Table) (e : Rule) → SidesFit t e → SidesFit (in_version v t) e
fits v t e h = record { canonical = h.canonical; short = h.short; few = h.few; left = h.left; right = h.right; no_longer = h.no_longer; no_dearer = h.no_dearer; mask = h.mask }

stays_below : (v : ℕ) (t : Table) (left side : List Instr) (number : ℕ) (seq : List Instr) → IsBelow t.header left side number seq → IsBelow (in_version v t).header left side number seq
stays_below v t left side number seq h = record { at = h.at; no_longer = h.no_longer; lighter = h.lighter }

stays_open : (v : ℕ) (t : Table) (e : Rule) (o : Opened) → IsRightlyOpen t e o → IsRightlyOpen (in_version v t) e o
stays_open v t e o h = record { seq = h.seq; below = stays_below v t e.left e.right o.number h.seq h.below; untold = h.untold; spent = h.spent }

stays_untold : (v : ℕ) (t : Table) (e : Rule) (q : ℕ) (seq : List Instr) → IsUntold t e q seq → IsUntold (in_version v t) e q seq
stays_untold v t e q seq h = record { below = stays_below v t e.left e.right q seq h.below; unnamed = h.unnamed; untold = h.untold }

-- a sequence that no state distinguishes in the table of this version is such a one in the given table
was_untold : (v : ℕ) (t : Table) (e : Rule) (q : ℕ) (seq : List Instr) → IsUntold (in_version v t) e q seq → IsUntold t e q seq
was_untold v t = stays_untold t.header.version (in_version v t)

stays_first : (v : ℕ) (t : Table) (e : Rule) (number : ℕ) → IsFirstUntold t e number → IsFirstUntold (in_version v t) e number
stays_first v t e number h = record { seq = h.seq; is = stays_untold v t e number h.seq h.is; first = λ q other u. h.first q other (was_untold v t e q other u) }

told : (v : ℕ) (t : Table) (n : ℕ) (e : Rule) (o : Option AuditError) → ToldVerdict t n e o → ToldVerdict (in_version v t) n e o
told v t n e None h = λ q seq u. h q seq (was_untold v t e q seq u)
told v t n e (Some fault) h = (h.0, (stays_first v t e h.0 h.1.0, h.1.1))

entry : (v : ℕ) (t : Table) (n : ℕ) (e : Rule) (o : Option AuditError) → EntryVerdict t n e o → EntryVerdict (in_version v t) n e o
unfolding EntryVerdict
entry v t n e =
    then (SidesVerdict t n e) (Then (EntryProofVerdict t n e) (Then (ToldVerdict t n e) (OpensVerdict t n e)))
    (SidesVerdict (in_version v t) n e) (Then (EntryProofVerdict (in_version v t) n e) (Then (ToldVerdict (in_version v t) n e) (OpensVerdict (in_version v t) n e)))
    (tests (SidesFit t e) (SidesFit (in_version v t) e) (audit.Entry n fault.Sides) (fits v t e, fits t.header.version (in_version v t) e))
    (then (EntryProofVerdict t n e) (Then (ToldVerdict t n e) (OpensVerdict t n e)) (EntryProofVerdict (in_version v t) n e) (Then (ToldVerdict (in_version v t) n e) (OpensVerdict (in_version v t) n e)) (λ o h. h)
    (then (ToldVerdict t n e) (OpensVerdict t n e) (ToldVerdict (in_version v t) n e) (OpensVerdict (in_version v t) n e) (told v t n e)
    (in_turn (OpenTest t n e) (OpenTest (in_version v t) n e) each 0 e.opens)))
  where
    each : (i : ℕ) (o : Opened) (f : Option AuditError) → OpenTest t n e i o f → OpenTest (in_version v t) n e i o f
    each i o = tests (IsRightlyOpen t e o) (IsRightlyOpen (in_version v t) e o) (audit.Entry n (fault.Open o.number)) (stays_open v t e o, stays_open t.header.version (in_version v t) e o)

pub verdict : (v : ℕ) (t : Table) (o : Option AuditError) → TableVerdict t o → TableVerdict (in_version v t) o
verdict v t =
    let u = in_version v t in
    then (StatesVerdict t) (Then (WideVerdict t) (Then (EntriesVerdict t) (FamiliesVerdict t))) (StatesVerdict u) (Then (WideVerdict u) (Then (EntriesVerdict u) (FamiliesVerdict u))) (λ o h. h)
    (then (WideVerdict t) (Then (EntriesVerdict t) (FamiliesVerdict t)) (WideVerdict u) (Then (EntriesVerdict u) (FamiliesVerdict u)) (λ o h. h)
    (then (EntriesVerdict t) (FamiliesVerdict t) (EntriesVerdict u) (FamiliesVerdict u)
    (in_turn (EntryVerdict t) (EntryVerdict u) (entry v t) 1 t.rules)
    (in_turn (FamilyVerdict t) (FamilyVerdict u) (family_in_version v t) 1 t.families)))
