-- Texts determine outcomes, since tables, listings, layouts, rewritings and images are each determined, and so is the first cause for which one is refused.
use Rattle.std.proofs.Common.{◌≡◌, ◌∙◌, ◌≤◌, ◌<◌, ◌⊎◌, inl, inr, ℕ, zero, suc, List, [], ◌∷◌, ◌++◌, length, refl, sym, ap, subst, arith, Option, Some, None}
use Rattle.std.specs.Prelude.{nat_le, nat_lt, false}
use Rattle.std.proofs.lemmas.Bool.{cases_Bool, leb-true, leb-false, le-ltb}
use Rattle.std.proofs.lemmas.Option.{slice_get_within, same_Some}
use Rattle.thumb_model.specs.Listing.{ListingLine}
use Rattle.thumb_model.specs.Layout.{Fault, Layable}
use Rattle.rule_model.specs.Rewriting.{Replacement}
use Rattle.rule_model.proofs.Unique.{is_determined}
use Rattle.listing_parser.specs.Parsing.{IsListing, text_of_lines}
use Rattle.listing_parser.proofs.MadeLemmas.{one_listing}
use Rattle.listing_parser.proofs.VerdictLemmas.{one_verdict}
use Rattle.label_layout.specs.Refusals.{first_fault}
use Rattle.seq_enum.specs.Costs.{IsCostText}
use Rattle.seq_enum.proofs.CostReading.{one_meaning}
use Rattle.seq_enum.proofs.CostReading as cost
use Rattle.rule_table.specs.Table.{Rule, Family, Table}
use Rattle.rule_table.specs.Refused.{IsText}
use Rattle.rule_table.proofs.Progress.{one_table, refused_once, not_both}
use Rattle.table_audit.specs.declared.errors.AuditError.{AuditError}
use Rattle.table_audit.specs.declared.errors.AuditError.TheVariants as audit
use Rattle.table_audit.specs.Acceptance.{TableVerdict, width_of}
use Rattle.table_audit.specs.Shorter.{SidesFit}
use Rattle.table_audit.specs.Families.{entry_at, entry_of, family_at, raised_formula, IsRaisable}
use Rattle.table_audit.proofs.Determined.{table_same}
use Rattle.table_learn.specs.Learnt.{Settings, Window, Learnt}
use Rattle.window_rewrite.specs.TableRewriting.{setting}
use Rattle.thumb_assembler.specs.Bytes.{first_flaw}
use Rattle.command_runs.specs.Plans.{Outcome, Refuses, Does}
use Rattle.audit_cli.specs.Printed.{refusal_line, unlaid_refusal, report_of, image_line, entries_line, IsUnlisted, unlisted, IsUnaudited, no_table, other_state, too_wide, bad_entry, bad_family, IsUnread, unread, IsUnlaid, unlaid, HasNoImage, no_address, inside, IsAudited}
use Rattle.audit_cli.specs.Rewrite.{Destination, Counts, Leaves, alone, pair, no_image, IsRewriting, instruction_count}
use Rattle.audit_cli.specs.Rewrite as rewriting
use Rattle.audit_cli.specs.Tables.{ExportArguments, exported}
use Rattle.audit_cli.specs.Tables as tables
use Rattle.audit_cli.specs.Upgrade as upgrading
use Rattle.audit_cli.specs.Trim as trimming
use Rattle.command_laws.proofs.TrimLemmas.{trimming_once}
use Rattle.audit_cli.specs.Learn.{LearnArguments, IsUnlearnt, LinesLearn, Learns, LearnsByCosts, priced, unpriced_at}
use Rattle.audit_cli.specs.Learn as learning
use Rattle.command_laws.specs.Once.{IsOne, AreOfOneListing, LearningIsOneButForTables, LearningByCostsIsOneButForTables}
use Rattle.audit_cli.proofs.DemoLemmas.{never_unaudited, none_some, never_without_image}
use Rattle.command_laws.proofs.ImageLemmas.{image_once}

-- the domain of a predicate: a way to name the type of refusals, which has no name outside its crate
abbrev pub Domain : {A : Type 0} → (A → Type 0) → Type 0
Domain {A} P = A

abbrev pub Cause : Type 0
Cause = Domain (IsUnlisted [])

pub refuses_same : (r s : Cause) → r ≡ s → Refuses (refusal_line r) ≡ Refuses (refusal_line s)
refuses_same r s e = ap (λ (x : Cause). Refuses (refusal_line x)) e

-- ---- tables ----

unlisted_once : (text : List ℕ) (r s : Cause) → IsUnlisted text r → IsUnlisted text s → r ≡ s
unlisted_once text _ _ (unlisted n h) (unlisted m k) = let same : n ≡ m = refused_once text n m h k in cc

pub never_unlisted : (text : List ℕ) (t : Table) (r : Cause) → IsText text t → IsUnlisted text r → ⊥
never_unlisted text t _ is (unlisted line h) = not_both text t line is h

-- a text has one table, and that one verdict
errors_same : (text : List ℕ) (t u : Table) (e f : AuditError) → IsText text t → IsText text u → TableVerdict t (Some e) → TableVerdict u (Some f) → e ≡ f
errors_same text t u e f is are v w = same_Some e f (table_same t (Some e) (Some f) v (subst (λ (x : Table). TableVerdict x (Some f)) (one_table text u t are is) w))

pub unaudited_once : (text : List ℕ) (r s : Cause) → IsUnaudited text r → IsUnaudited text s → r ≡ s
unaudited_once text _ _ (no_table r h) (no_table s k) = unlisted_once text r s h k
unaudited_once text _ _ (no_table r h) (other_state t is place v) = absurd (never_unlisted text t r is h)
unaudited_once text _ _ (no_table r h) (too_wide t is count v) = absurd (never_unlisted text t r is h)
unaudited_once text _ _ (no_table r h) (bad_entry t is number k v) = absurd (never_unlisted text t r is h)
unaudited_once text _ _ (no_table r h) (bad_family t is number k v) = absurd (never_unlisted text t r is h)
unaudited_once text _ _ (bad_family t is number h v) (no_table s k) = absurd (never_unlisted text t s is k)
unaudited_once text _ _ (other_state t is place v) (no_table s k) = absurd (never_unlisted text t s is k)
unaudited_once text _ _ (too_wide t is count v) (no_table s k) = absurd (never_unlisted text t s is k)
unaudited_once text _ _ (bad_entry t is number h v) (no_table s k) = absurd (never_unlisted text t s is k)
unaudited_once text _ _ (other_state t is p v) (other_state u are q w) = let e : audit.States p ≡ audit.States q = errors_same text t u _ _ is are v w in cc
unaudited_once text _ _ (other_state t is p v) (too_wide u are q w) = absurd (let e : audit.States p ≡ audit.Wide q = errors_same text t u _ _ is are v w in cc)
unaudited_once text _ _ (other_state t is p v) (bad_entry u are q k w) = absurd (let e : audit.States p ≡ audit.Entry q k = errors_same text t u _ _ is are v w in cc)
unaudited_once text _ _ (other_state t is p v) (bad_family u are q k w) = absurd (let e : audit.States p ≡ audit.Family q k = errors_same text t u _ _ is are v w in cc)
unaudited_once text _ _ (too_wide t is p v) (bad_family u are q k w) = absurd (let e : audit.Wide p ≡ audit.Family q k = errors_same text t u _ _ is are v w in cc)
unaudited_once text _ _ (bad_entry t is p h v) (bad_family u are q k w) = absurd (let e : audit.Entry p h ≡ audit.Family q k = errors_same text t u _ _ is are v w in cc)
unaudited_once text _ _ (bad_family t is p h v) (other_state u are q w) = absurd (let e : audit.Family p h ≡ audit.States q = errors_same text t u _ _ is are v w in cc)
unaudited_once text _ _ (bad_family t is p h v) (too_wide u are q w) = absurd (let e : audit.Family p h ≡ audit.Wide q = errors_same text t u _ _ is are v w in cc)
unaudited_once text _ _ (bad_family t is p h v) (bad_entry u are q k w) = absurd (let e : audit.Family p h ≡ audit.Entry q k = errors_same text t u _ _ is are v w in cc)
unaudited_once text _ _ (bad_family t is p h v) (bad_family u are q k w) = let e : audit.Family p h ≡ audit.Family q k = errors_same text t u _ _ is are v w in cc
unaudited_once text _ _ (too_wide t is p v) (other_state u are q w) = absurd (let e : audit.Wide p ≡ audit.States q = errors_same text t u _ _ is are v w in cc)
unaudited_once text _ _ (too_wide t is p v) (too_wide u are q w) = let e : audit.Wide p ≡ audit.Wide q = errors_same text t u _ _ is are v w in cc
unaudited_once text _ _ (too_wide t is p v) (bad_entry u are q k w) = absurd (let e : audit.Wide p ≡ audit.Entry q k = errors_same text t u _ _ is are v w in cc)
unaudited_once text _ _ (bad_entry t is p h v) (other_state u are q w) = absurd (let e : audit.Entry p h ≡ audit.States q = errors_same text t u _ _ is are v w in cc)
unaudited_once text _ _ (bad_entry t is p h v) (too_wide u are q w) = absurd (let e : audit.Entry p h ≡ audit.Wide q = errors_same text t u _ _ is are v w in cc)
unaudited_once text _ _ (bad_entry t is p h v) (bad_entry u are q k w) = let e : audit.Entry p h ≡ audit.Entry q k = errors_same text t u _ _ is are v w in cc

pub one_audited : (text : List ℕ) (t u : Table) → IsAudited text t → IsAudited text u → u ≡ t
one_audited text t u h k = one_table text u t k.is h.is

-- ---- listings ----

pub unread_once : (text : List ℕ) (r s : Cause) → IsUnread text r → IsUnread text s → r ≡ s
unread_once text _ _ (unread n k h) (unread m j g) = let both = one_verdict.refused_once text n m k j h g in let line : n ≡ m = both.0 in let kind : k ≡ j = both.1 in cc

pub never_unread_listing : (text : List ℕ) (lines : List ListingLine) (r : Cause) → IsListing text lines → IsUnread text r → ⊥
never_unread_listing text lines _ is (unread n k h) = one_verdict.not_both text lines n k is h

pub unlaid_once : (base : ℕ) (lines : List ListingLine) (r s : Cause) → IsUnlaid base lines r → IsUnlaid base lines s → r ≡ s
unlaid_once base lines _ _ (unlaid n f h) (unlaid m g k) = ap (λ (x : ℕ × Fault). unlaid_refusal x.0 x.1) (let both : Some (n, f) ≡ Some (m, g) = sym h ∙ k in same_Some (n, f) (m, g) both)

pub never_unlaid : (base : ℕ) (lines : List ListingLine) (r : Cause) → Layable base lines → IsUnlaid base lines r → ⊥
never_unlaid base lines _ laid (unlaid n f h) = none_some (first_fault base lines) (n, f) laid h

-- ---- images ----

numbers_same : {A : Type 0} (o : Option (ℕ × A)) (n m : ℕ) (f g : A) → o ≡ Some (n, f) → o ≡ Some (m, g) → n ≡ m
numbers_same {A} o n m f g h k = ap (λ (x : ℕ × A). x.0) (same_Some (n, f) (m, g) (sym h ∙ k))

flaws_same : {A : Type 0} (o : Option (ℕ × A)) (n m : ℕ) (f g : A) → o ≡ Some (n, f) → o ≡ Some (m, g) → f ≡ g
flaws_same {A} o n m f g h k = ap (λ (x : ℕ × A). x.1) (same_Some (n, f) (m, g) (sym h ∙ k))

without_image_once : (base : ℕ) (lines : List ListingLine) (r s : Cause) → HasNoImage base lines r → HasNoImage base lines s → r ≡ s
without_image_once base lines _ _ (no_address n h) (no_address m k) = let same : n ≡ m = numbers_same (first_flaw base lines) n m _ _ h k in cc
without_image_once base lines _ _ (no_address n h) (inside m k) = absurd (let bad = flaws_same (first_flaw base lines) n m _ _ h k in cc)
without_image_once base lines _ _ (inside n h) (no_address m k) = absurd (let bad = flaws_same (first_flaw base lines) n m _ _ h k in cc)
without_image_once base lines _ _ (inside n h) (inside m k) = let same : n ≡ m = numbers_same (first_flaw base lines) n m _ _ h k in cc

-- ---- `rewrite` ----

leaves_once : (to : Destination) (lines : List ListingLine) (c : Counts) (o p : Outcome) → Leaves to lines c o → Leaves to lines c p → o ≡ p
leaves_once to lines c _ _ (alone n) (alone m) = refl
leaves_once to lines c _ _ (alone n) (pair some bytes made) = absurd (some n)
leaves_once to lines c _ _ (alone n) (no_image some r h) = absurd (some n)
leaves_once to lines c _ _ (pair some bytes made) (alone n) = absurd (some n)
leaves_once to lines c _ _ (pair some bytes made) (pair other others too) =
    ap (λ (bs : List ℕ). Does ((to.out, text_of_lines lines) ∷ (to.image, bs) ∷ []) (report_of c.replaced c.before c.after ++ image_line (length bs))) (image_once to.base lines bytes others made.image too.image)
leaves_once to lines c _ _ (pair some bytes made) (no_image other r h) = absurd (never_without_image to.base lines r made.sound h)
leaves_once to lines c _ _ (no_image some r h) (alone n) = absurd (some n)
leaves_once to lines c _ _ (no_image some r h) (pair other bytes made) = absurd (never_without_image to.base lines r made.sound h)
leaves_once to lines c _ _ (no_image some r h) (no_image other s k) = refuses_same r s (without_image_once to.base lines r s h k)

rewriting_once : (to : Destination) (t : Table) (given : List ListingLine) (o p : Outcome) → IsRewriting to t given o → IsRewriting to t given p → o ≡ p
rewriting_once to t given o p h k =
    let d = is_determined (setting to.base t) given h.sound.sound h.replacements k.replacements h.lines k.lines h.rewritten k.rewritten in
    let replacements : k.replacements ≡ h.replacements = sym d.0 in
    let lines : k.lines ≡ h.lines = sym d.1 in
    let left : Leaves to h.lines (record { replaced = length h.replacements; before = instruction_count given; after = instruction_count h.lines }) p =
    subst (λ (x : List Replacement × List ListingLine). Leaves to x.1 (record { replaced = length x.0; before = instruction_count given; after = instruction_count x.1 }) p) (λ i. (replacements i, lines i)) k.left in
    leaves_once to h.lines _ o p h.left left

lines_rewrite_once : (to : Destination) (t : Table) (given : List ListingLine) (o p : Outcome) → rewriting.LinesRewrite to t given o → rewriting.LinesRewrite to t given p → o ≡ p
lines_rewrite_once to t given _ _ (rewriting.unlaid r h) (rewriting.unlaid s k) = refuses_same r s (unlaid_once to.base given r s h k)
lines_rewrite_once to t given _ p (rewriting.unlaid r h) (rewriting.rewritten layable p' k) = absurd (never_unlaid to.base given r layable h)
lines_rewrite_once to t given o _ (rewriting.rewritten layable o' h) (rewriting.unlaid s k) = absurd (never_unlaid to.base given s layable k)
lines_rewrite_once to t given _ _ (rewriting.rewritten layable o h) (rewriting.rewritten other p k) = rewriting_once to t given o p h k

rewrites_once : (to : Destination) (t : Table) (text : List ℕ) (o p : Outcome) → rewriting.Rewrites to t text o → rewriting.Rewrites to t text p → o ≡ p
rewrites_once to t text _ _ (rewriting.unread r h) (rewriting.unread s k) = refuses_same r s (unread_once text r s h k)
rewrites_once to t text _ _ (rewriting.unread r h) (rewriting.read lines is p k) = absurd (never_unread_listing text lines r is h)
rewrites_once to t text _ _ (rewriting.read lines is o h) (rewriting.unread s k) = absurd (never_unread_listing text lines s is k)
rewrites_once to t text _ _ (rewriting.read lines is o h) (rewriting.read others are p k) =
    lines_rewrite_once to t lines o p h (subst (λ (ls : List ListingLine). rewriting.LinesRewrite to t ls p) (one_listing text others lines are is) k)

comes_once : (to : Destination) (table listing : List ℕ) (o p : Outcome) → rewriting.Comes to table listing o → rewriting.Comes to table listing p → o ≡ p
comes_once to table listing _ _ (rewriting.unaudited r h) (rewriting.unaudited s k) = refuses_same r s (unaudited_once table r s h k)
comes_once to table listing _ _ (rewriting.unaudited r h) (rewriting.audited t is p k) = absurd (never_unaudited table t r is.is is.accepted h)
comes_once to table listing _ _ (rewriting.audited t is o h) (rewriting.unaudited s k) = absurd (never_unaudited table t s is.is is.accepted k)
comes_once to table listing _ _ (rewriting.audited t is o h) (rewriting.audited u are p k) =
    rewrites_once to t listing o p h (subst (λ (x : Table). rewriting.Rewrites to x listing p) (one_audited table t u is are) k)

-- ---- one text or two ----

pub first_same : (a b : List ℕ) (xs ys : List (List ℕ)) → (let l : List (List ℕ) = a ∷ xs in l) ≡ b ∷ ys → a ≡ b
first_same a b xs ys e = ap (λ (l : List (List ℕ)). first l) e where
  first : List (List ℕ) → List ℕ
  first [] = a
  first (x ∷ rest) = x

pub second_same : (a b c d : List ℕ) (xs ys : List (List ℕ)) → (let l : List (List ℕ) = a ∷ b ∷ xs in l) ≡ c ∷ d ∷ ys → b ≡ d
second_same a b c d xs ys e = ap (λ (l : List (List ℕ)). second l) e where
  second : List (List ℕ) → List ℕ
  second [] = b
  second (x ∷ []) = b
  second (x ∷ (y ∷ rest)) = y

-- if one text has at most one outcome, so has a list of one text
pub one_text : (Comes : List ℕ → Outcome → Type 0) → ((text : List ℕ) (o p : Outcome) → Comes text o → Comes text p → o ≡ p) → IsOne (λ texts o. (text : List ℕ) × (texts ≡ text ∷ []) × Comes text o)
one_text Comes once texts o p (text, is, h) (other, are, k) =
    let same : other ≡ text = first_same other text [] [] (sym are ∙ is) in
    once text o p h (subst (λ (t : List ℕ). Comes t p) same k)

pub rewrite_once : (to : Destination) → IsOne (rewriting.RewriteComesTo to)
rewrite_once to texts o p (table, listing, is, h) (other, another, are, k) =
    let e : (let l : List (List ℕ) = other ∷ another ∷ [] in l) ≡ table ∷ listing ∷ [] = sym are ∙ is in
    let first : other ≡ table = first_same other table (another ∷ []) (listing ∷ []) e in
    let second : another ≡ listing = second_same other another table listing [] [] e in
    comes_once to table listing o p h (subst (λ (x : List ℕ × List ℕ). rewriting.Comes to x.0 x.1 p) (λ i. (first i, second i)) k)

-- ---- `audit` and `export` ----

audits_once : (text : List ℕ) (o p : Outcome) → tables.Audits text o → tables.Audits text p → o ≡ p
audits_once text _ _ (tables.unaudited r h) (tables.unaudited s k) = refuses_same r s (unaudited_once text r s h k)
audits_once text _ _ (tables.unaudited r h) (tables.accepted t is) = absurd (never_unaudited text t r is.is is.accepted h)
audits_once text _ _ (tables.accepted t is) (tables.unaudited s k) = absurd (never_unaudited text t s is.is is.accepted k)
audits_once text _ _ (tables.accepted t is) (tables.accepted u are) = ap (λ (x : Table). Does [] (entries_line (length x.rules) (tables.opens_of x))) (sym (one_audited text t u is are))

pub audit_once : IsOne tables.AuditComesTo
audit_once = one_text tables.Audits audits_once

-- no number is both that of an entry and that of a family
pub apart : (t : Table) (n : ℕ) (e : Rule) (f : Family) → entry_at t.rules n ≡ Some e → family_at t n ≡ Some f → ⊥
apart t zero e f h k = none_some (entry_at t.rules zero) e refl h
apart t (suc n) e f h k =
    let low : n < length t.rules = slice_get_within t.rules n e h in
    let within : nat_lt (length t.rules) (suc n) ≡ false = le-ltb (length t.rules) (suc n) low in
    let none : family_at t (suc n) ≡ None = rw within refl in
    none_some (family_at t (suc n)) f none k

entries_once : (to : ExportArguments) (t : Table) (e : Rule) (o p : Outcome) → tables.ExportsEntry to t e o → tables.ExportsEntry to t e p → o ≡ p
entries_once to t e _ _ (tables.unfit h) (tables.unfit k) = refl
entries_once to t e _ _ (tables.unfit h) (tables.found k) = absurd (h k)
entries_once to t e _ _ (tables.found h) (tables.unfit k) = absurd (k h)
entries_once to t e _ _ (tables.found h) (tables.found k) = refl

-- a family raises one entry
raised_same : (t : Table) (f : Family) (e x : Rule) → entry_of t f ≡ Some e → entry_of t f ≡ Some x → e ≡ x
raised_same t f e x h k = same_Some e x (sym h ∙ k)

families_once : (to : ExportArguments) (t : Table) (f : Family) (o p : Outcome) → tables.ExportsFamily to t f o → tables.ExportsFamily to t f p → o ≡ p
families_once to t f _ _ (tables.raises_none h) (tables.raises_none k) = refl
families_once to t f _ _ (tables.raises_none h) (tables.raises_unfit x k m) = absurd (none_some (entry_of t f) x h k)
families_once to t f _ _ (tables.raises_none h) (tables.unraisable x k s m) = absurd (none_some (entry_of t f) x h k)
families_once to t f _ _ (tables.raises_none h) (tables.raised x k s m) = absurd (none_some (entry_of t f) x h k)
families_once to t f _ _ (tables.raises_unfit e h n) (tables.raises_none k) = absurd (none_some (entry_of t f) e k h)
families_once to t f _ _ (tables.raises_unfit e h n) (tables.raises_unfit x k m) = refl
families_once to t f _ _ (tables.raises_unfit e h n) (tables.unraisable x k s m) = absurd (n (subst (SidesFit t) (raised_same t f x e k h) s))
families_once to t f _ _ (tables.raises_unfit e h n) (tables.raised x k s m) = absurd (n (subst (SidesFit t) (raised_same t f x e k h) s))
families_once to t f _ _ (tables.unraisable e h r n) (tables.raises_none k) = absurd (none_some (entry_of t f) e k h)
families_once to t f _ _ (tables.unraisable e h r n) (tables.raises_unfit x k m) = absurd (m (subst (SidesFit t) (raised_same t f e x h k) r))
families_once to t f _ _ (tables.unraisable e h r n) (tables.unraisable x k s m) = refl
families_once to t f _ _ (tables.unraisable e h r n) (tables.raised x k s m) = absurd (n (subst (λ (y : Rule). IsRaisable t.header.pool f y.left) (raised_same t f x e k h) m))
families_once to t f _ _ (tables.raised e h r n) (tables.raises_none k) = absurd (none_some (entry_of t f) e k h)
families_once to t f _ _ (tables.raised e h r n) (tables.raises_unfit x k m) = absurd (m (subst (SidesFit t) (raised_same t f e x h k) r))
families_once to t f _ _ (tables.raised e h r n) (tables.unraisable x k s m) = absurd (m (subst (λ (y : Rule). IsRaisable t.header.pool f y.left) (raised_same t f e x h k) n))
families_once to t f _ _ (tables.raised e h r n) (tables.raised x k s m) = ap (λ (y : Rule). exported to (raised_formula t.header f y) f.proof) (raised_same t f e x h k)

-- two tables of one text have the same entry with a number
pub entry_moved : (to : ExportArguments) (text : List ℕ) (t u : Table) (o : Option Rule) → IsText text t → IsText text u → entry_at t.rules to.entry ≡ o → entry_at u.rules to.entry ≡ o
entry_moved to text t u o is are h = subst (λ (x : Table). entry_at x.rules to.entry ≡ o) (one_table text t u is are) h

pub family_moved : (to : ExportArguments) (text : List ℕ) (t u : Table) (o : Option Family) → IsText text t → IsText text u → family_at t to.entry ≡ o → family_at u to.entry ≡ o
family_moved to text t u o is are h = subst (λ (x : Table). family_at x to.entry ≡ o) (one_table text t u is are) h

exports_once : (to : ExportArguments) (text : List ℕ) (o p : Outcome) → tables.Exports to text o → tables.Exports to text p → o ≡ p
exports_once to text _ _ (tables.refused r h) (tables.refused s k) = refuses_same r s (unlisted_once text r s h k)
exports_once to text _ _ (tables.refused r h) (tables.absent t is a b) = absurd (never_unlisted text t r is h)
exports_once to text _ _ (tables.refused r h) (tables.entry t is e k p c) = absurd (never_unlisted text t r is h)
exports_once to text _ _ (tables.refused r h) (tables.of_family t is f k p c) = absurd (never_unlisted text t r is h)
exports_once to text _ _ (tables.absent t is a b) (tables.refused s k) = absurd (never_unlisted text t s is k)
exports_once to text _ _ (tables.absent t is a b) (tables.absent u are c d) = refl
exports_once to text _ _ (tables.absent t is a b) (tables.entry u are e k p c) = absurd (none_some (entry_at u.rules to.entry) e (entry_moved to text t u None is are a) k)
exports_once to text _ _ (tables.absent t is a b) (tables.of_family u are f k p c) = absurd (none_some (family_at u to.entry) f (family_moved to text t u None is are b) k)
exports_once to text _ _ (tables.entry t is e h o c) (tables.refused s k) = absurd (never_unlisted text t s is k)
exports_once to text _ _ (tables.entry t is e h o c) (tables.absent u are a b) = absurd (none_some (entry_at t.rules to.entry) e (entry_moved to text u t None are is a) h)
exports_once to text _ _ (tables.entry t is e h o c) (tables.entry u are x k p d) =
    let same : x ≡ e = same_Some x e (sym (entry_moved to text u t (Some x) are is k) ∙ h) in
    let moved : tables.ExportsEntry to t x p = subst (λ (y : Table). tables.ExportsEntry to y x p) (one_table text u t are is) d in
    entries_once to t e o p c (subst (λ (y : Rule). tables.ExportsEntry to t y p) same moved)
exports_once to text _ _ (tables.entry t is e h o c) (tables.of_family u are f k p d) = absurd (apart t to.entry e f h (family_moved to text u t (Some f) are is k))
exports_once to text _ _ (tables.of_family t is f h o c) (tables.refused s k) = absurd (never_unlisted text t s is k)
exports_once to text _ _ (tables.of_family t is f h o c) (tables.absent u are a b) = absurd (none_some (family_at t to.entry) f (family_moved to text u t None are is b) h)
exports_once to text _ _ (tables.of_family t is f h o c) (tables.entry u are e k p d) = absurd (apart t to.entry e f (entry_moved to text u t (Some e) are is k) h)
exports_once to text _ _ (tables.of_family t is f h o c) (tables.of_family u are g k p d) =
    let same : g ≡ f = same_Some g f (sym (family_moved to text u t (Some g) are is k) ∙ h) in
    let moved : tables.ExportsFamily to t g p = subst (λ (y : Table). tables.ExportsFamily to y g p) (one_table text u t are is) d in
    families_once to t f o p c (subst (λ (x : Family). tables.ExportsFamily to t x p) same moved)

pub export_once : (to : ExportArguments) → IsOne (tables.ExportComesTo to)
export_once to = one_text (tables.Exports to) (exports_once to)

-- ---- `upgrade` ----

kept_once : (out : List ℕ) (t : Table) (line : List ℕ) (o p : Outcome) → upgrading.IsKept out t line o → upgrading.IsKept out t line p → o ≡ p
kept_once out t line _ _ (upgrading.kept fits) (upgrading.kept short) = refl
kept_once out t line _ _ (upgrading.kept fits) (upgrading.full long) = absurd (omega (arith, fits, long))
kept_once out t line _ _ (upgrading.full long) (upgrading.kept fits) = absurd (omega (arith, fits, long))
kept_once out t line _ _ (upgrading.full long) (upgrading.full longer) = refl

upgrades_once : (out text : List ℕ) (o p : Outcome) → upgrading.Upgrades out text o → upgrading.Upgrades out text p → o ≡ p
upgrades_once out text _ _ (upgrading.unaudited r h) (upgrading.unaudited s k) = refuses_same r s (unaudited_once text r s h k)
upgrades_once out text _ _ (upgrading.unaudited r h) (upgrading.accepted t is p k) = absurd (never_unaudited text t r is.is is.accepted h)
upgrades_once out text _ _ (upgrading.accepted t is o h) (upgrading.unaudited s k) = absurd (never_unaudited text t s is.is is.accepted k)
upgrades_once out text _ _ (upgrading.accepted t is o h) (upgrading.accepted u are p k) =
    kept_once out (upgrading.upgraded t) (entries_line (length t.rules) (tables.opens_of t)) o p h
    (subst (λ (x : Table). upgrading.IsKept out (upgrading.upgraded x) (entries_line (length x.rules) (tables.opens_of x)) p) (one_audited text t u is are) k)

pub upgrade_once : (out : List ℕ) → IsOne (upgrading.UpgradeComesTo out)
upgrade_once out = one_text (upgrading.Upgrades out) (upgrades_once out)

-- ---- `trim` ----

trim_of_once : (out : List ℕ) (t : Table) (o p : Outcome) → trimming.IsTrimOf out t o → trimming.IsTrimOf out t p → o ≡ p
trim_of_once out t o p h k = h.is ∙ (ap (λ (u : Table). trimming.trimmed_outcome out u (trimming.lines_in t)) (trimming_once t h.trimmed k.trimmed h.are k.are) ∙ sym k.is)

trims_once : (out text : List ℕ) (o p : Outcome) → trimming.Trims out text o → trimming.Trims out text p → o ≡ p
trims_once out text _ _ (trimming.unaudited r h) (trimming.unaudited s k) = refuses_same r s (unaudited_once text r s h k)
trims_once out text _ _ (trimming.unaudited r h) (trimming.accepted t is p k) = absurd (never_unaudited text t r is.is is.accepted h)
trims_once out text _ _ (trimming.accepted t is o h) (trimming.unaudited s k) = absurd (never_unaudited text t s is.is is.accepted k)
trims_once out text _ _ (trimming.accepted t is o h) (trimming.accepted u are p k) =
    trim_of_once out t o p h (subst (λ (x : Table). trimming.IsTrimOf out x p) (one_audited text t u is are) k)

pub trim_once : (out : List ℕ) → IsOne (trimming.TrimComesTo out)
trim_once out = one_text (trimming.Trims out) (trims_once out)

-- ---- `learn` ----

-- a table that is learnt has no more than 5,000,000 sequences below its longest windows, since the audit accepts it
narrow_learnt : (s : Settings) (windows : List Window) (t : Table) → Learnt s windows t → width_of s ≤ 5000000
narrow_learnt s windows t h =
    let width : width_of t.header ≤ 5000000 = h.accepted.1.0 in
    subst (λ (x : Settings). width_of x ≤ 5000000) h.header width

-- if there are more, that is the only cause of a refusal
wide_causes : (s : Settings) (lines : List ListingLine) (r q : Cause) → 5000000 < width_of s → IsUnlearnt s lines r → IsUnlearnt s lines q → r ≡ q
wide_causes s lines _ _ many (learning.too_wide w) (learning.too_wide v) = refl
wide_causes s lines _ q many (learning.too_long windows are t bytes full) k = absurd (let few = narrow_learnt s _ t full.learnt in omega (arith, few, many))
wide_causes s lines r _ many h (learning.too_long windows are t bytes full) = absurd (let few = narrow_learnt s _ t full.learnt in omega (arith, few, many))

wide : (to : LearnArguments) (lines : List ListingLine) (o p : Outcome) → 5000000 < width_of to.settings → LinesLearn to lines o → LinesLearn to lines p → o ≡ p
wide to lines _ _ many (learning.unlearnt r h) (learning.unlearnt s k) = refuses_same r s (wide_causes to.settings lines r s many h k)
wide to lines _ p many (learning.learnt t h) k = absurd (let few = narrow_learnt to.settings h.windows t h.learnt in omega (arith, few, many))
wide to lines o _ many h (learning.learnt t k) = absurd (let few = narrow_learnt to.settings k.windows t k.learnt in omega (arith, few, many))

lines_learn_once : (to : LearnArguments) (text : List ℕ) (lines : List ListingLine) (o p : Outcome) → IsListing text lines → LinesLearn to lines o → LinesLearn to lines p → (o ≡ p) ⊎ AreOfOneListing to text o p
lines_learn_once to text lines o p is h k = elim (cases_Bool (nat_le (width_of to.settings) 5000000)) [
  | inl few ↦ inr (record { lines = lines; listing = is; narrow = leb-true (width_of to.settings) 5000000 few; first = h; second = k })
  | inr many ↦ inl (let w = leb-false (width_of to.settings) 5000000 many in wide to lines o p w h k)
]

learns_once : (to : LearnArguments) (text : List ℕ) (o p : Outcome) → Learns to text o → Learns to text p → (o ≡ p) ⊎ AreOfOneListing to text o p
learns_once to text _ _ (learning.unread r h) (learning.unread s k) = inl (refuses_same r s (unread_once text r s h k))
learns_once to text _ _ (learning.unread r h) (learning.read lines is p k) = absurd (never_unread_listing text lines r is h)
learns_once to text _ _ (learning.read lines is o h) (learning.unread s k) = absurd (never_unread_listing text lines s is k)
learns_once to text _ _ (learning.read lines is o h) (learning.read others js p k) =
    lines_learn_once to text lines o p is h (subst (λ (ls : List ListingLine). LinesLearn to ls p) (one_listing text others lines js is) k)

pub learning_once : LearningIsOneButForTables
learning_once to texts o p (text, is, h) (other, are, k) =
    let same : other ≡ text = first_same other text [] [] (sym are ∙ is) in
    elim (learns_once to text o p h (subst (λ (t : List ℕ). Learns to t p) same k)) [
      | inl one ↦ inl one
      | inr tables ↦ inr (text, is, tables)
    ]

-- with costs: their text determines them, or the line at which it is refused
by_costs_once : (to : LearnArguments) (texts : List (List ℕ)) (text costs : List ℕ) (o p : Outcome) → texts ≡ text ∷ costs ∷ [] → LearnsByCosts to text costs o → LearnsByCosts to text costs p
    → (o ≡ p) ⊎ ((t bytes cs : List ℕ) × (texts ≡ t ∷ bytes ∷ []) × IsCostText bytes cs × AreOfOneListing (priced cs to) t o p)
by_costs_once to texts text costs _ _ are (learning.unpriced n h) (learning.unpriced m k) = inl (ap unpriced_at (cost.refused_once costs n m h k))
by_costs_once to texts text costs _ _ are (learning.unpriced n h) (learning.priced_so cs is p k) = absurd (cost.not_both costs cs n is h)
by_costs_once to texts text costs _ _ are (learning.priced_so cs is o h) (learning.unpriced m k) = absurd (cost.not_both costs cs m is k)
by_costs_once to texts text costs _ _ are (learning.priced_so cs is o h) (learning.priced_so ds js p k) =
    elim (learns_once (priced cs to) text o p h (subst (λ (xs : List ℕ). Learns (priced xs to) text p) (one_meaning costs ds cs js is) k)) [
      | inl one ↦ inl one
      | inr tables ↦ inr (text, costs, cs, are, is, tables)
    ]

pub learning_by_costs_once : LearningByCostsIsOneButForTables
learning_by_costs_once to texts o p (text, costs, is, h) (other, another, are, k) =
    let e : (let l : List (List ℕ) = other ∷ another ∷ [] in l) ≡ text ∷ costs ∷ [] = sym are ∙ is in
    let first : other ≡ text = first_same other text (another ∷ []) (costs ∷ []) e in
    let second : another ≡ costs = second_same other another text costs [] [] e in
    by_costs_once to texts text costs o p is h (subst (λ (x : List ℕ × List ℕ). LearnsByCosts to x.0 x.1 p) (λ i. (first i, second i)) k)
