-- A table with trimmed proofs: the audit accepts it, its text is no longer, it is determined, and trimming it again changes nothing.
use Rattle.std.proofs.Common.{◌≡◌, ◌∙◌, inl, inr, ℕ, zero, suc, ℤ, ◌+◌, ◌≤◌, List, [], ◌∷◌, ◌++◌, Option, Some, None, length, map, refl, sym, ap, ap₂, subst, take, arith, length-append}
use Rattle.std.specs.Prelude.{All}
use Rattle.std.specs.List.{AllZip, flat_map}
use Rattle.std.proofs.lemmas.List.Concat.{flat_map-append}
use Rattle.std.proofs.lemmas.Option.{same_Some}
use Rattle.std.proofs.lemmas.List.Elements.{All-nil, All-cons, All-head, All-tail, All-take, All-contains}
use Rattle.thumb_instr.specs.declared.instr.Instr.{Instr}
use Rattle.clause_model.specs.Clauses.{codes_of}
use Rattle.lrat_check.specs.Text.{Content, addition, deletion, text_of as text_of_line, id_of, IsLine, IsTrimmed, IsShortened, IsUsed}
use Rattle.lrat_check.specs.Runs.{IsRefutation}
use Rattle.lrat_check.specs.Numbers.{IsHint}
use Rattle.lrat_check.proofs.Parts.{trimmed_once, trimmed_refutes, trimmed_again}
use Rattle.rule_table.specs.Header.{Header}
use Rattle.rule_table.specs.Table.{Opened, Rule, Family, Table, IsRule, IsFamily, IsTable}
use Rattle.rule_table.specs.Text.{Item, State, Entry, Left, Right, Mask, Proof, Logged, End, line_of, text_of_items, open_items, rule_items, family_items, header_items, items_of}
use Rattle.rule_table.specs.Text as item
use Rattle.lrat_check.specs.Proofs.{InTurn}
use Rattle.table_audit.specs.declared.errors.EntryFault.TheVariants as fault
use Rattle.table_audit.specs.declared.errors.AuditError.TheVariants as audit
use Rattle.table_audit.specs.Shorter.{SidesFit, formula_of}
use Rattle.table_audit.specs.declared.errors.FamilyKind.TheVariants as kind
use Rattle.table_audit.specs.Acceptance.{IsUntold, IsRightlyOpen, OpenTest, EntryVerdict, RaisedVerdict, FamilyVerdict, IsAccepted}
use Rattle.table_audit.specs.Families.{entry_at, entry_of, raised_formula, IsRaisable}
use Rattle.table_audit.specs.Soundness.{rewriting_rule, instances_of, numbers_of}
use Rattle.table_learn.specs.Learnt.{text_length}
use Rattle.rule_model.specs.Rules as model
use Rattle.window_rewrite.specs.TableRewriting.{setting_by}
use Rattle.audit_cli.specs.Trim.{IsTrimmedRule, IsTrimmedFamily, IsTrimmedTable}
use Rattle.audit_cli.proofs.Refutations.{passed_refutes, refutes_passed}
use Rattle.audit_cli.proofs.DemoLemmas.{none_some}
use Rattle.audit_cli.specs.Ready.{IsRaised}
use Rattle.audit_cli.proofs.TrimLemmas.{IsReady, entry_ready, all_ready, all_raised}
use Rattle.command_laws.specs.Trimming.{TrimmedTablesAreAccepted, TrimmedTablesRewriteAlike, TrimmedTextsAreNoLonger, TrimmingIsOne, TrimmedTablesStay}
use Rattle.command_laws.proofs.ShorterTexts.{bytes_of, trimmed_bytes}

-- the entry with another proof, and the table with other entries and families
abbrev proving : Rule → List Content → Rule
proving e proof = record e { proof = proof }

abbrev raising : Family → List Content → Family
raising f proof = record f { proof = proof }

abbrev holding : Table → List Rule → List Family → Table
holding t rules families = record t { rules = rules; families = families }

-- the trimmed table is the given one with the trimmed table's entries and families
its_own : (t u : Table) → IsTrimmedTable t u → u ≡ holding t u.rules u.families
its_own t u h = λ i. record { header = h.header i; states = h.states i; rules = u.rules; families = u.families }

-- ---- the audit ----

module _ (t : Table) (rules : List Rule) (families : List Family) (e : Rule) (proof : List Content) where
  fits : SidesFit t e → SidesFit (holding t rules families) (proving e proof)
  fits h = record { canonical = h.canonical; short = h.short; few = h.few; left = h.left; right = h.right; no_longer = h.no_longer; no_dearer = h.no_dearer; mask = h.mask }

  stays_open : (o : Opened) → IsRightlyOpen t e o → IsRightlyOpen (holding t rules families) (proving e proof) o
  stays_open o h = record { seq = h.seq; below = record { at = h.below.at; no_longer = h.below.no_longer; lighter = h.below.lighter }; untold = h.untold; spent = h.spent }

  stays_untold : (q : ℕ) (seq : List Instr) → IsUntold (holding t rules families) (proving e proof) q seq → IsUntold t e q seq
  stays_untold q seq u = record { below = record { at = u.below.at; no_longer = u.below.no_longer; lighter = u.below.lighter }; unnamed = u.unnamed; untold = u.untold }

  opens : (n i : ℕ) (os : List Opened) → InTurn (OpenTest t n e) i os None → InTurn (OpenTest (holding t rules families) n (proving e proof)) i os None
  opens n i [] h = h
  opens n i (o ∷ os) h = (stays_open o h.0, opens n (i + 1) os h.1)

  still_accepted : (n : ℕ) → IsTrimmed (codes_of (formula_of t.header e).clauses) e.proof proof → EntryVerdict t n e None → EntryVerdict (holding t rules families) n (proving e proof) None
  unfolding EntryVerdict
  still_accepted n trimmed v =
      let clauses = codes_of (formula_of t.header e).clauses in
      let refutes = trimmed_refutes clauses e.proof proof (entry_ready t n e v).refutes trimmed in
      (fits v.0, (refutes_passed (λ line. audit.Entry n (fault.Proof line)) (audit.Entry n fault.Unfinished) clauses proof refutes, ((λ q seq u. v.1.1.0 q seq (stays_untold q seq u)), opens n 0 e.opens v.1.1.1)))

entries_accepted : (t : Table) (rules : List Rule) (families : List Family) (n : ℕ) (es fs : List Rule) → AllZip (IsTrimmedRule t.header) es fs → InTurn (EntryVerdict t) n es None → InTurn (EntryVerdict (holding t rules families)) n fs None
entries_accepted t rules families n [] [] z h = h
entries_accepted t rules families n [] (f ∷ fs) z h = absurd z
entries_accepted t rules families n (e ∷ es) [] z h = absurd z
entries_accepted t rules families n (e ∷ es) (f ∷ fs) z h = (
  subst (λ (g : Rule). EntryVerdict (holding t rules families) n g None) (sym z.0.same) (still_accepted t rules families e f.proof n z.0.proof h.0),
  entries_accepted t rules families (n + 1) es fs z.1 h.1,
)

-- the trimmed entry of a number
trimmed_at : (h : Header) (es fs : List Rule) (n : ℕ) (e : Rule) → AllZip (IsTrimmedRule h) es fs → entry_at es n ≡ Some e → (f : Rule) × (entry_at fs n ≡ Some f) × IsTrimmedRule h e f
trimmed_at h es fs zero e z at = absurd (none_some None e refl at)
trimmed_at h [] [] (suc n) e z at = absurd (none_some None e refl at)
trimmed_at h [] (f ∷ fs) (suc n) e z at = absurd z
trimmed_at h (x ∷ es) [] (suc n) e z at = absurd z
trimmed_at h (x ∷ es) (f ∷ fs) (suc zero) e z at = (f, refl, subst (λ (y : Rule). IsTrimmedRule h y f) (same_Some x e at) z.0)
trimmed_at h (x ∷ es) (f ∷ fs) (suc (suc n)) e z at = trimmed_at h es fs (suc n) e z.1 at

still_raisable : (pool : List ℕ) (f : Family) (proof : List Content) (left : List Instr) → IsRaisable pool f left → IsRaisable pool (raising f proof) left
still_raisable pool f proof left h = record { pooled = h.pooled; from = h.from; to = h.to; bytes = h.bytes; held = h.held }

module _ (t u : Table) (h : IsTrimmedTable t u) (f g : Family) (z : IsTrimmedFamily t.header t.rules f g) where
  still_raised : (n : ℕ) → RaisedVerdict t n f (Some z.entry) None → FamilyVerdict (holding t u.rules u.families) n g None
  unfolding FamilyVerdict
  still_raised n v =
      let clauses = codes_of (raised_formula t.header f z.entry).clauses in
      let own = trimmed_at t.header t.rules u.rules f.entry z.entry h.rules z.is_entry in
      let refutes = trimmed_refutes clauses f.proof g.proof (passed_refutes (λ line. audit.Family n (kind.Proof line)) (audit.Family n kind.Unfinished) clauses f.proof v.1) z.proof in
      let passed : RaisedVerdict (holding t u.rules u.families) n (raising f g.proof) (Some (proving z.entry own.0.proof)) None =
      (still_raisable t.header.pool f g.proof z.entry.left v.0, refutes_passed (λ line. audit.Family n (kind.Proof line)) (audit.Family n kind.Unfinished) clauses g.proof refutes) in
      let of_own : RaisedVerdict (holding t u.rules u.families) n (raising f g.proof) (entry_at u.rules f.entry) None =
      subst (λ (o : Option Rule). RaisedVerdict (holding t u.rules u.families) n (raising f g.proof) o None) (sym own.1)
      (subst (λ (e : Rule). RaisedVerdict (holding t u.rules u.families) n (raising f g.proof) (Some e) None) (sym own.2.same) passed) in
      subst (λ (x : Family). RaisedVerdict (holding t u.rules u.families) n x (entry_at u.rules x.entry) None) (sym z.same) of_own

  family_accepted : (n : ℕ) → FamilyVerdict t n f None → FamilyVerdict (holding t u.rules u.families) n g None
  unfolding FamilyVerdict
  family_accepted n v = still_raised n (subst (λ (o : Option Rule). RaisedVerdict t n f o None) z.is_entry v)

families_accepted : (t u : Table) → IsTrimmedTable t u → (n : ℕ) (fs gs : List Family) → AllZip (IsTrimmedFamily t.header t.rules) fs gs → InTurn (FamilyVerdict t) n fs None → InTurn (FamilyVerdict (holding t u.rules u.families)) n gs None
families_accepted t u h n [] [] z v = v
families_accepted t u h n [] (g ∷ gs) z v = absurd z
families_accepted t u h n (f ∷ fs) [] z v = absurd z
families_accepted t u h n (f ∷ fs) (g ∷ gs) z v = (family_accepted t u h f g z.0 n v.0, families_accepted t u h (n + 1) fs gs z.1 v.1)

accepted : (t u : Table) → IsAccepted t → IsTrimmedTable t u → IsAccepted u
accepted t u a h =
    subst IsAccepted (sym (its_own t u h)) (a.0, (a.1.0, (entries_accepted t u.rules u.families 1 t.rules u.rules h.rules a.1.1.0, families_accepted t u h 1 t.families u.families h.families a.1.1.1)))

-- ---- texts ----

first_hints : (n : ℕ) (hints : List ℤ) → All IsHint hints → All IsHint (take n hints)
first_hints n hints h = All-take IsHint n hints h

line_shortened : (clauses : List (List ℕ)) (lines : List Content) (line : Content) → All IsLine lines → IsShortened clauses lines line → IsLine line
line_shortened clauses lines (addition id literals hints) all (given, n, is, enough, cut) =
    let good = All-contains IsLine lines (addition id literals given) all is in
    (good.0, (good.1.0, good.1.1, subst (λ (hs : List ℤ). All IsHint hs) (sym cut) (first_hints n given good.1.2)))
line_shortened clauses lines (deletion id ids) all none = absurd none

lines_shortened : (clauses : List (List ℕ)) (lines trimmed : List Content) → All IsLine lines → All (λ line. IsShortened clauses lines line × IsUsed clauses lines (id_of line)) trimmed → All IsLine trimmed
lines_shortened clauses lines [] all h = All-nil IsLine
lines_shortened clauses lines (x ∷ xs) all h =
    All-cons IsLine x xs (line_shortened clauses lines x all (All-head (λ line. IsShortened clauses lines line × IsUsed clauses lines (id_of line)) x xs h).0)
    (lines_shortened clauses lines xs all (All-tail (λ line. IsShortened clauses lines line × IsUsed clauses lines (id_of line)) x xs h))

lines_trimmed : (clauses : List (List ℕ)) (lines trimmed : List Content) → All IsLine lines → IsTrimmed clauses lines trimmed → All IsLine trimmed
lines_trimmed clauses lines trimmed all (inl none) = subst (λ (xs : List Content). All IsLine xs) (sym none.1) (All-nil IsLine)
lines_trimmed clauses lines trimmed all (inr (some, used)) = lines_shortened clauses lines trimmed all used.only

rule_valid : (h : Header) (e f : Rule) → IsRule e → IsTrimmedRule h e f → IsRule f
rule_valid h e f is z =
    let proof = lines_trimmed (codes_of (formula_of h e).clauses) e.proof f.proof is.proof z.proof in
    subst IsRule (sym z.same) (record { some = is.some; few_left = is.few_left; few_right = is.few_right; left = is.left; right = is.right; mask = is.mask; proof = proof; opens = is.opens; ascending = is.ascending })

rules_valid : (h : Header) (es fs : List Rule) → All IsRule es → AllZip (IsTrimmedRule h) es fs → All IsRule fs
rules_valid h [] [] is z = is
rules_valid h [] (f ∷ fs) is z = absurd z
rules_valid h (e ∷ es) [] is z = absurd z
rules_valid h (e ∷ es) (f ∷ fs) is z = All-cons IsRule f fs (rule_valid h e f (All-head IsRule e es is) z.0) (rules_valid h es fs (All-tail IsRule e es is) z.1)

families_valid : (t : Table) (fs gs : List Family) → All IsFamily fs → AllZip (IsTrimmedFamily t.header t.rules) fs gs → All IsFamily gs
families_valid t [] [] is z = is
families_valid t [] (g ∷ gs) is z = absurd z
families_valid t (f ∷ fs) [] is z = absurd z
families_valid t (f ∷ fs) (g ∷ gs) is z =
    let own = All-head IsFamily f fs is in
    let proof = lines_trimmed (codes_of (raised_formula t.header f z.0.entry).clauses) f.proof g.proof own.proof z.0.proof in
    let one : IsFamily g = subst IsFamily (sym z.0.same) (record { entry = own.entry; number = own.number; low = own.low; high = own.high; proof = proof }) in
    All-cons IsFamily g gs one (families_valid t fs gs (All-tail IsFamily f fs is) z.1)

none_trimmed : (t : Table) (fs gs : List Family) → AllZip (IsTrimmedFamily t.header t.rules) fs gs → fs ≡ [] → gs ≡ []
none_trimmed t [] [] z e = refl
none_trimmed t [] (g ∷ gs) z e = absurd z
none_trimmed t (f ∷ fs) gs z e = let bad : f ∷ fs ≡ [] = e in cc

pub trimmed_accepted : TrimmedTablesAreAccepted
trimmed_accepted t u valid a h = (
  subst IsTable (sym (its_own t u h)) (record {
    header = valid.header;
    states = valid.states;
    rules = rules_valid t.header t.rules u.rules valid.rules h.rules;
    families = families_valid t t.families u.families valid.families h.families;
    none_before = λ early. none_trimmed t t.families u.families h.families (valid.none_before early);
  }),
  accepted t u a h,
)

room : List Item → ℕ
room items = length (text_of_items items)

room-append : (a b : List Item) → room (a ++ b) ≡ room a + room b
unfolding room
room-append a b = ap (λ (xs : List ℕ). length xs) (flat_map-append (λ (i : Item). line_of i ++ 10 ∷ []) a b) ∙ length-append (text_of_items a) (text_of_items b)

room-cons : (i : Item) (is : List Item) → room (i ∷ is) ≡ length (line_of i ++ 10 ∷ []) + room is
unfolding room
room-cons i is = length-append (line_of i ++ 10 ∷ []) (text_of_items is)

room_logged : (lines : List Content) → room (map Logged lines) ≡ bytes_of lines
unfolding room
room_logged [] = refl
room_logged (line ∷ lines) =
    let a = room-cons (Logged line) (map Logged lines) in
    let b = length-append (text_of_line line) (10 ∷ []) in
    let c = room_logged lines in
    omega arith

-- how many bytes the lines of an entry take, without those of its proof
apart : Rule → ℕ
apart e = room (Entry ∷ map Left e.left) + (room (map Right e.right) + (room (Mask e.mask ∷ Proof ∷ []) + room (flat_map open_items e.opens)))

rule_bytes : (e : Rule) → room (rule_items e) ≡ apart e + bytes_of e.proof
unfolding apart
rule_bytes e =
    let numbers : List Item = flat_map open_items e.opens in
    let logs : List Item = map Logged e.proof in
    let rights : List Item = map Right e.right in
    let a = room-append (Entry ∷ map Left e.left) (rights ++ Mask e.mask ∷ Proof ∷ (logs ++ numbers)) in
    let b = room-append rights (Mask e.mask ∷ Proof ∷ (logs ++ numbers)) in
    let c = room-append (Mask e.mask ∷ Proof ∷ []) (logs ++ numbers) in
    let d = room-append logs numbers in
    let f = room_logged e.proof in
    omega arith

same_apart : (h : Header) (e f : Rule) → IsTrimmedRule h e f → apart f ≡ apart e
unfolding apart
same_apart h e f z = subst (λ (g : Rule). apart g ≡ apart e) (sym z.same) refl

rule_room : (h : Header) (e f : Rule) → IsReady h e → IsTrimmedRule h e f → room (rule_items f) ≤ room (rule_items e)
rule_room h e f ready z =
    let less = trimmed_bytes (codes_of (formula_of h e).clauses) e.proof f.proof ready.refutes z.proof in
    let a = rule_bytes e in
    let b = rule_bytes f in
    let c = same_apart h e f z in
    omega arith

rules_room : (h : Header) (es fs : List Rule) → All (IsReady h) es → AllZip (IsTrimmedRule h) es fs → room (flat_map rule_items fs) ≤ room (flat_map rule_items es)
rules_room h [] [] ready z = omega arith
rules_room h [] (f ∷ fs) ready z = absurd z
rules_room h (e ∷ es) [] ready z = absurd z
rules_room h (e ∷ es) (f ∷ fs) ready z =
    let here = rule_room h e f (All-head (IsReady h) e es ready) z.0 in
    let rest = rules_room h es fs (All-tail (IsReady h) e es ready) z.1 in
    let a = room-append (rule_items e) (flat_map rule_items es) in
    let b = room-append (rule_items f) (flat_map rule_items fs) in
    omega arith

family_bytes : (f : Family) → room (family_items f) ≡ room (item.Family f.entry f.number f.low f.high ∷ Proof ∷ []) + bytes_of f.proof
family_bytes f =
    let a = room-append (item.Family f.entry f.number f.low f.high ∷ Proof ∷ []) (map Logged f.proof) in
    let b = room_logged f.proof in
    omega arith

family_room : (t : Table) (f g : Family) → IsRaised t.header t.rules f → IsTrimmedFamily t.header t.rules f g → room (family_items g) ≤ room (family_items f)
family_room t f g raised z =
    let clauses = codes_of (raised_formula t.header f z.entry).clauses in
    let same : raised.entry ≡ z.entry = same_Some raised.entry z.entry (sym raised.is_entry ∙ z.is_entry) in
    let refutes = subst (λ (e : Rule). IsRefutation (codes_of (raised_formula t.header f e).clauses) f.proof) same raised.refutes in
    let less = trimmed_bytes clauses f.proof g.proof refutes z.proof in
    let a = family_bytes f in
    let b = family_bytes g in
    let c : room (item.Family g.entry g.number g.low g.high ∷ Proof ∷ []) ≡ room (item.Family f.entry f.number f.low f.high ∷ Proof ∷ []) =
    subst (λ (x : Family). room (item.Family x.entry x.number x.low x.high ∷ Proof ∷ []) ≡ room (item.Family f.entry f.number f.low f.high ∷ Proof ∷ [])) (sym z.same) refl in
    omega arith

families_room : (t : Table) (fs gs : List Family) → All (IsRaised t.header t.rules) fs → AllZip (IsTrimmedFamily t.header t.rules) fs gs → room (flat_map family_items gs) ≤ room (flat_map family_items fs)
families_room t [] [] raised z = omega arith
families_room t [] (g ∷ gs) raised z = absurd z
families_room t (f ∷ fs) [] raised z = absurd z
families_room t (f ∷ fs) (g ∷ gs) raised z =
    let here = family_room t f g (All-head (IsRaised t.header t.rules) f fs raised) z.0 in
    let rest = families_room t fs gs (All-tail (IsRaised t.header t.rules) f fs raised) z.1 in
    let a = room-append (family_items f) (flat_map family_items fs) in
    let b = room-append (family_items g) (flat_map family_items gs) in
    omega arith

whole_room : (t : Table) → text_length t ≡ room (items_of t)
unfolding room
whole_room t = refl

-- how many bytes all lines of a table take
table_room : (t : Table) → text_length t ≡ room (header_items t.header) + (room (map State t.states) + (room (flat_map rule_items t.rules) + (room (flat_map family_items t.families) + room (End ∷ []))))
table_room t =
    let families : List Item = flat_map family_items t.families in
    let a = room-append (header_items t.header) (map State t.states ++ (flat_map rule_items t.rules ++ (families ++ End ∷ []))) in
    let b = room-append (map State t.states) (flat_map rule_items t.rules ++ (families ++ End ∷ [])) in
    let c = room-append (flat_map rule_items t.rules) (families ++ End ∷ []) in
    let d = room-append families (End ∷ []) in
    let e = whole_room t in
    omega (arith, a, b, c, d, e)

pub trimmed_no_longer : TrimmedTextsAreNoLonger
trimmed_no_longer t u a h =
    let less = rules_room t.header t.rules u.rules (all_ready t a) h.rules in
    let fewer = families_room t t.families u.families (all_raised t a) h.families in
    let b = table_room t in
    let c = table_room u in
    let d = ap (λ (x : Header). room (header_items x)) h.header in
    let e = ap (λ (ss : _). room (map State ss)) h.states in
    omega arith

-- ---- one table is left ----

rule_once : (h : Header) (e f g : Rule) → IsTrimmedRule h e f → IsTrimmedRule h e g → f ≡ g
rule_once h e f g y z =
    let same = trimmed_once (codes_of (formula_of h e).clauses) e.proof f.proof g.proof y.proof z.proof in
    y.same ∙ (ap (λ (p : List Content). proving e p) same ∙ sym z.same)

rules_once : (h : Header) (es fs gs : List Rule) → AllZip (IsTrimmedRule h) es fs → AllZip (IsTrimmedRule h) es gs → fs ≡ gs
rules_once h [] [] [] y z = refl
rules_once h [] [] (g ∷ gs) y z = absurd z
rules_once h [] (f ∷ fs) gs y z = absurd y
rules_once h (e ∷ es) [] gs y z = absurd y
rules_once h (e ∷ es) (f ∷ fs) [] y z = absurd z
rules_once h (e ∷ es) (f ∷ fs) (g ∷ gs) y z = ap₂ (λ (r : Rule) (rs : List Rule). r ∷ rs) (rule_once h e f g y.0 z.0) (rules_once h es fs gs y.1 z.1)

family_once : (t : Table) (f g h : Family) → IsTrimmedFamily t.header t.rules f g → IsTrimmedFamily t.header t.rules f h → g ≡ h
family_once t f g h y z =
    let entry : z.entry ≡ y.entry = same_Some z.entry y.entry (sym z.is_entry ∙ y.is_entry) in
    let proof = subst (λ (e : Rule). IsTrimmed (codes_of (raised_formula t.header f e).clauses) f.proof h.proof) entry z.proof in
    let same = trimmed_once (codes_of (raised_formula t.header f y.entry).clauses) f.proof g.proof h.proof y.proof proof in
    y.same ∙ (ap (λ (p : List Content). raising f p) same ∙ sym z.same)

families_once : (t : Table) (fs gs hs : List Family) → AllZip (IsTrimmedFamily t.header t.rules) fs gs → AllZip (IsTrimmedFamily t.header t.rules) fs hs → gs ≡ hs
families_once t [] [] [] y z = refl
families_once t [] [] (h ∷ hs) y z = absurd z
families_once t [] (g ∷ gs) hs y z = absurd y
families_once t (f ∷ fs) [] hs y z = absurd y
families_once t (f ∷ fs) (g ∷ gs) [] y z = absurd z
families_once t (f ∷ fs) (g ∷ gs) (h ∷ hs) y z = ap₂ (λ (x : Family) (xs : List Family). x ∷ xs) (family_once t f g h y.0 z.0) (families_once t fs gs hs y.1 z.1)

pub trimming_once : TrimmingIsOne
trimming_once t a b y z =
    let rules = rules_once t.header t.rules a.rules b.rules y.rules z.rules in
    let families = families_once t t.families a.families b.families y.families z.families in
    its_own t a y ∙ (ap₂ (holding t) rules families ∙ sym (its_own t b z))

-- a trimmed entry, trimmed again, stays as it is
rule_again : (h : Header) (e f : Rule) → IsReady h e → IsTrimmedRule h e f → IsTrimmedRule h f f
rule_again h e f ready z =
    let again = trimmed_again (codes_of (formula_of h e).clauses) e.proof f.proof ready.refutes z.proof in
    let same : formula_of h f ≡ formula_of h e = ap (formula_of h) z.same in
    record { same = refl; proof = subst (λ clauses. IsTrimmed clauses f.proof f.proof) (ap (λ c. codes_of c.clauses) (sym same)) again }

rules_again : (h : Header) (es fs : List Rule) → All (IsReady h) es → AllZip (IsTrimmedRule h) es fs → AllZip (IsTrimmedRule h) fs fs
rules_again h [] [] ready z = tt
rules_again h [] (f ∷ fs) ready z = absurd z
rules_again h (e ∷ es) [] ready z = absurd z
rules_again h (e ∷ es) (f ∷ fs) ready z = (rule_again h e f (All-head (IsReady h) e es ready) z.0, rules_again h es fs (All-tail (IsReady h) e es ready) z.1)

family_again : (t u : Table) → IsTrimmedTable t u → (f g : Family) → IsRaised t.header t.rules f → IsTrimmedFamily t.header t.rules f g → IsTrimmedFamily u.header u.rules g g
family_again t u h f g raised z =
    let clauses = codes_of (raised_formula t.header f z.entry).clauses in
    let entry : raised.entry ≡ z.entry = same_Some raised.entry z.entry (sym raised.is_entry ∙ z.is_entry) in
    let refutes = subst (λ (e : Rule). IsRefutation (codes_of (raised_formula t.header f e).clauses) f.proof) entry raised.refutes in
    let again = trimmed_again clauses f.proof g.proof refutes z.proof in
    let own = trimmed_at t.header t.rules u.rules f.entry z.entry h.rules z.is_entry in
    let at : entry_of u g ≡ Some own.0 = ap (λ (x : Family). entry_at u.rules x.entry) z.same ∙ own.1 in
    let same : raised_formula u.header g own.0 ≡ raised_formula t.header f z.entry =
    ap (λ (x : Header). raised_formula x g own.0) h.header ∙ (ap (λ (x : Family). raised_formula t.header x own.0) z.same ∙ ap (λ (e : Rule). raised_formula t.header f e) own.2.same) in
    record { same = refl; entry = own.0; is_entry = at; proof = subst (λ clauses. IsTrimmed clauses g.proof g.proof) (ap (λ c. codes_of c.clauses) (sym same)) again }

families_again : (t u : Table) → IsTrimmedTable t u → (fs gs : List Family) → All (IsRaised t.header t.rules) fs → AllZip (IsTrimmedFamily t.header t.rules) fs gs → AllZip (IsTrimmedFamily u.header u.rules) gs gs
families_again t u h [] [] raised z = tt
families_again t u h [] (g ∷ gs) raised z = absurd z
families_again t u h (f ∷ fs) [] raised z = absurd z
families_again t u h (f ∷ fs) (g ∷ gs) raised z = (family_again t u h f g (All-head (IsRaised t.header t.rules) f fs raised) z.0, families_again t u h fs gs (All-tail (IsRaised t.header t.rules) f fs raised) z.1)

pub trimmed_stay : TrimmedTablesStay
trimmed_stay t u a h = record {
  header = refl;
  states = refl;
  rules = subst (λ (x : Header). AllZip (IsTrimmedRule x) u.rules u.rules) (sym h.header) (rules_again t.header t.rules u.rules (all_ready t a) h.rules);
  families = families_again t u h t.families u.families (all_raised t a) h.families;
}

-- ---- rewriting ----

rewriting_alike : (h : Header) (es fs : List Rule) → AllZip (IsTrimmedRule h) es fs → map rewriting_rule fs ≡ map rewriting_rule es
rewriting_alike h [] [] z = refl
rewriting_alike h [] (f ∷ fs) z = absurd z
rewriting_alike h (e ∷ es) [] z = absurd z
rewriting_alike h (e ∷ es) (f ∷ fs) z = ap₂ (λ (r : model.Rule) (rs : List model.Rule). r ∷ rs) (ap rewriting_rule z.0.same) (rewriting_alike h es fs z.1)

-- a family's instances depend only on its entry's sides
instances_alike : (t u : Table) → IsTrimmedTable t u → (f g : Family) → IsTrimmedFamily t.header t.rules f g → instances_of g (entry_at u.rules g.entry) ≡ instances_of f (entry_at t.rules f.entry)
instances_alike t u h f g z =
    let own = trimmed_at t.header t.rules u.rules f.entry z.entry h.rules z.is_entry in
    let same : entry_at u.rules f.entry ≡ Some (proving z.entry own.0.proof) = own.1 ∙ ap Some own.2.same in
    ap (λ (x : Family). instances_of x (entry_at u.rules x.entry)) z.same
    ∙ ap (instances_of (raising f g.proof)) same
    ∙ ap (instances_of f) (sym z.is_entry)

families_alike : (t u : Table) → IsTrimmedTable t u → (fs gs : List Family) → AllZip (IsTrimmedFamily t.header t.rules) fs gs
    → map (λ f. instances_of f (entry_at u.rules f.entry)) gs ≡ map (λ f. instances_of f (entry_at t.rules f.entry)) fs
families_alike t u h [] [] z = refl
families_alike t u h [] (g ∷ gs) z = absurd z
families_alike t u h (f ∷ fs) [] z = absurd z
families_alike t u h (f ∷ fs) (g ∷ gs) z = ap₂ (λ (is : List model.Rule) (rest : List (List model.Rule)). is ∷ rest) (instances_alike t u h f g z.0) (families_alike t u h fs gs z.1)

pub trimmed_rewrite_alike : TrimmedTablesRewriteAlike
trimmed_rewrite_alike t u base h =
    ap (λ (x : Header). setting_by x.costs base (numbers_of u)) h.header
    ∙ ap₂ (λ (rules : List model.Rule) (instances : List (List model.Rule)). setting_by t.header.costs base (model.alone rules ++ instances)) (rewriting_alike t.header t.rules u.rules h.rules) (families_alike t u h t.families u.families h.families)
