-- An accepted table with one more family is accepted where that family is, and the verdict on a family doesn't depend on the table's version.
use Rattle.std.proofs.Common.{◌≡◌, ℕ, ◌+◌, List, [], ◌∷◌, ◌++◌, Option, None, length, subst, arith}
use Rattle.thumb_instr.specs.declared.instr.Instr.{Instr}
use Rattle.rule_table.specs.Table.{Opened, Rule, Family, Table}
use Rattle.lrat_check.specs.Proofs.{InTurn}
use Rattle.table_audit.specs.declared.errors.AuditError.{AuditError}
use Rattle.table_audit.specs.Shorter.{SidesFit}
use Rattle.table_audit.specs.Acceptance.{IsUntold, IsRightlyOpen, OpenTest, EntryVerdict, FamilyVerdict, TableVerdict}

-- ---- elements in turn that pass ----

all_pass : {X F : Type 0} (a b : ℕ → X → Option F → Type 0) → ((n : ℕ) (x : X) → a n x None → b n x None) → (n : ℕ) (xs : List X) → InTurn a n xs None → InTurn b n xs None
all_pass a b each n [] h = h
all_pass a b each n (x ∷ xs) h = (each n x h.0, all_pass a b each (n + 1) xs h.1)

one_more : {X F : Type 0} (test : ℕ → X → Option F → Type 0) (n : ℕ) (xs : List X) (x : X) → InTurn test n xs None → test (length xs + n) x None → InTurn test n (xs ++ x ∷ []) None
one_more test n [] x h p = let e : 0 + n ≡ n = omega arith in (subst (λ m. test m x None) e p, h)
one_more test n (y ∷ xs) x h p =
    let e : length (y ∷ xs) + n ≡ length xs + (n + 1) = omega arith in
    (h.0, one_more test (n + 1) xs x h.1 (subst (λ m. test m x None) e p))

-- ---- one more family ----

-- the table with these families
abbrev with_families : Table → List Family → Table
with_families t families = record t { families = families }

fits : (t : Table) (families : List Family) (e : Rule) → SidesFit t e → SidesFit (with_families t families) e
fits t families e h = record { canonical = h.canonical; short = h.short; few = h.few; left = h.left; right = h.right; no_longer = h.no_longer; no_dearer = h.no_dearer; mask = h.mask }

stays_open : (t : Table) (families : List Family) (e : Rule) (o : Opened) → IsRightlyOpen t e o → IsRightlyOpen (with_families t families) e o
stays_open t families e o h = record { seq = h.seq; below = h.below; untold = h.untold; spent = h.spent }

stays_untold : (t : Table) (families : List Family) (e : Rule) (q : ℕ) (seq : List Instr) → IsUntold (with_families t families) e q seq → IsUntold t e q seq
stays_untold t families e q seq h = record { below = h.below; unnamed = h.unnamed; untold = h.untold }

entry_passes : (t : Table) (families : List Family) (n : ℕ) (e : Rule) → EntryVerdict t n e None → EntryVerdict (with_families t families) n e None
unfolding EntryVerdict
entry_passes t families n e h =
    (fits t families e h.0, (h.1.0, (λ q seq u. h.1.1.0 q seq (stays_untold t families e q seq u), all_pass (OpenTest t n e) (OpenTest (with_families t families) n e) (λ i o. stays_open t families e o) 0 e.opens h.1.1.1)))

family_passes : (t : Table) (families : List Family) (n : ℕ) (f : Family) (o : Option AuditError) → FamilyVerdict t n f o → FamilyVerdict (with_families t families) n f o
unfolding FamilyVerdict
family_passes t families n f o h = h

pub family_added : (t : Table) (f : Family) → TableVerdict t None → FamilyVerdict t (length t.families + 1) f None → TableVerdict (record t { families = t.families ++ f ∷ [] }) None
family_added t f p q =
    let families = t.families ++ f ∷ [] in
    let u = with_families t families in
    let entries = all_pass (EntryVerdict t) (EntryVerdict u) (entry_passes t families) 1 t.rules p.1.1.0 in
    let before = all_pass (FamilyVerdict t) (FamilyVerdict u) (λ n g. family_passes t families n g None) 1 t.families p.1.1.1 in
    (p.0, (p.1.0, (entries, one_more (FamilyVerdict u) 1 t.families f before (family_passes t families (length t.families + 1) f None q))))

-- ---- another version ----

pub family_in_version : (v : ℕ) (t : Table) (n : ℕ) (f : Family) (o : Option AuditError) → FamilyVerdict t n f o → FamilyVerdict (record t { header = record t.header { version = v } }) n f o
unfolding FamilyVerdict
family_in_version v t n f o h = h
