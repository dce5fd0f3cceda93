-- Commands with fit texts aren't refused, except that the text of a table which is learnt or gets a family may be too long.
use Rattle.std.proofs.Common.{◌≡◌, ◌∙◌, ◌≤◌, ◌⊎◌, inl, inr, ℕ, List, [], ◌∷◌, true≢false, refl, sym, subst, arith, Option, Some, None, length}
use Rattle.std.specs.Prelude.{IsSome}
use Rattle.thumb_model.specs.Listing.{ListingLine, code_of, place_of}
use Rattle.thumb_model.specs.Layout.{Layable}
use Rattle.thumb_model.specs.Effect.{Equal}
use Rattle.bit_blast.specs.Slots.{instance}
use Rattle.listing_parser.specs.Parsing.{IsListing}
use Rattle.listing_parser.proofs.MadeLemmas.{one_listing}
use Rattle.seq_enum.proofs.CostReading as cost
use Rattle.rule_table.specs.Table.{Rule, Family, Table}
use Rattle.rule_table.proofs.Progress.{one_table}
use Rattle.table_audit.specs.Shorter.{SidesFit}
use Rattle.table_audit.specs.Soundness.{items_in}
use Rattle.table_learn.specs.Learnt.{Settings, text_length}
use Rattle.table_audit.specs.Acceptance.{width_of}
use Rattle.window_rewrite.specs.TableRewriting.{setting}
use Rattle.thumb_assembler.specs.Bytes.{first_flaw}
use Rattle.command_line.specs.CommandLine.{Request, rewrite, audit, learn, export, trace, demo, upgrade, trim, tidy, generalise}
use Rattle.command_runs.specs.Plans.{Outcome, Refuses, Does}
use Rattle.audit_cli.specs.Printed.{refusal_line, entries_line, families_line, IsAudited}
use Rattle.audit_cli.specs.Rewrite.{Destination, Counts, Leaves, alone, pair, no_image, WantsNone, LinesRewrite, Rewrites, Comes}
use Rattle.audit_cli.specs.Rewrite as rewriting
use Rattle.audit_cli.specs.Tables.{ExportArguments}
use Rattle.table_audit.specs.Families.{entry_at, entry_of, family_at, IsRaisable}
use Rattle.audit_cli.specs.Tables as tables
use Rattle.audit_cli.specs.Learn.{LearnArguments}
use Rattle.audit_cli.specs.Learn as learning
use Rattle.audit_cli.specs.Trace.{TraceArguments}
use Rattle.audit_cli.specs.Trace as tracing
use Rattle.audit_cli.specs.Demo as showing
use Rattle.audit_cli.specs.Upgrade as upgrading
use Rattle.audit_cli.specs.Trim as trimming
use Rattle.audit_cli.specs.Tidy as tidying
use Rattle.audit_cli.specs.Generalise.{wanted}
use Rattle.audit_cli.specs.Generalise as generalising
use Rattle.audit_cli.proofs.GeneraliseLemmas.{not_none, not_unraisable, same_entry}
use Rattle.audit_cli.specs.Peep.{plan_of}
use Rattle.command_laws.specs.Once.{AsksSolver}
use Rattle.audit_cli.specs.Complete.{TellsFull}
use Rattle.command_laws.specs.Fit.{HasFitEntry, HasFitFamily, FitRewriting, FitExport, FitTrace, FitTidying, FitLearningByCosts, FitUpgrade, FitGeneralising, AreFit}
use Rattle.command_laws.proofs.AddressLemmas.{still_flawless}
use Rattle.audit_cli.proofs.DemoLemmas.{never_unaudited, none_some, never_without_image}
use Rattle.command_laws.proofs.OnceLemmas.{Cause, one_audited, never_unlisted, first_same, second_same, never_unread_listing, never_unlaid, apart, entry_moved, family_moved}
use Rattle.std.proofs.lemmas.Option.{same_Some}

-- the outcome is a refusal
IsRefusing : Outcome → Type 0
IsRefusing (Refuses line) = Unit {0}
IsRefusing (Does keeps lines) = ⊥

-- ---- `rewrite` ----

leaves_something : (to : Destination) (lines : List ListingLine) (c : Counts) (o : Outcome) → ((WantsNone to → ⊥) → first_flaw to.base lines ≡ None) → Leaves to lines c o → IsRefusing o → ⊥
unfolding IsRefusing
leaves_something to lines c _ none (alone n) r = r
leaves_something to lines c _ none (pair some bytes made) r = r
leaves_something to lines c _ none (no_image some cause h) r = never_without_image to.base lines cause (none some) h

lines_fit : (to : Destination) (t : Table) (given : List ListingLine) (o : Outcome) → Layable to.base given → ((WantsNone to → ⊥) → first_flaw to.base given ≡ None) → LinesRewrite to t given o → IsRefusing o → ⊥
lines_fit to t given _ laid none (rewriting.unlaid cause h) r = never_unlaid to.base given cause laid h
lines_fit to t given _ laid none (rewriting.rewritten too o h) r =
    leaves_something to h.lines _ o (λ some. still_flawless (setting to.base t) given h.replacements h.lines h.sound.sound h.rewritten (none some)) h.left r

module _ (to : Destination) (texts : List (List ℕ)) (fit : FitRewriting to.image to.base texts) where
  text_fit : (t : Table) (o : Outcome) → Rewrites to t fit.listing_text o → IsRefusing o → ⊥
  text_fit t _ (rewriting.unread cause h) r = never_unread_listing fit.listing_text fit.given cause fit.is_listing h
  text_fit t _ (rewriting.read lines is o h) r =
      lines_fit to t fit.given o fit.layable fit.addresses (subst (λ (ls : List ListingLine). LinesRewrite to t ls o) (one_listing fit.listing_text lines fit.given is fit.is_listing) h) r

  table_fit : (o : Outcome) → Comes to fit.table_text fit.listing_text o → IsRefusing o → ⊥
  table_fit _ (rewriting.unaudited cause h) r = never_unaudited fit.table_text fit.rules cause fit.is_table fit.accepted h
  table_fit _ (rewriting.audited t is o h) r = text_fit t o h r

  rewriting_fit : (o : Outcome) → rewriting.RewriteComesTo to texts o → IsRefusing o → ⊥
  rewriting_fit o (table, listing, are, h) r =
      let e : (let l : List (List ℕ) = table ∷ listing ∷ [] in l) ≡ fit.table_text ∷ fit.listing_text ∷ [] = sym are ∙ fit.are in
      let first : table ≡ fit.table_text = first_same table fit.table_text (listing ∷ []) (fit.listing_text ∷ []) e in
      let second : listing ≡ fit.listing_text = second_same table listing fit.table_text fit.listing_text [] [] e in
      table_fit o (subst (λ (x : List ℕ × List ℕ). Comes to x.0 x.1 o) (λ i. (first i, second i)) h) r

-- ---- of one text ----

by_text : (P : List ℕ → Outcome → Type 0) (texts : List (List ℕ)) (text : List ℕ) (o : Outcome) → texts ≡ text ∷ [] → (t : List ℕ) × (texts ≡ t ∷ []) × P t o → P text o
by_text P texts text o is (t, are, h) = let e : (let l : List (List ℕ) = t ∷ [] in l) ≡ text ∷ [] = sym are ∙ is in subst (λ (x : List ℕ). P x o) (first_same t text [] [] e) h

audits_fit : (text : List ℕ) (t : Table) (o : Outcome) → IsAudited text t → tables.Audits text o → IsRefusing o → ⊥
unfolding IsRefusing
audits_fit text t _ is (tables.unaudited cause h) r = never_unaudited text t cause is.is is.accepted h
audits_fit text t _ is (tables.accepted u are) r = r

trims_fit : (out text : List ℕ) (t : Table) (o : Outcome) → IsAudited text t → trimming.Trims out text o → IsRefusing o → ⊥
unfolding IsRefusing
trims_fit out text t _ is (trimming.unaudited cause h) r = never_unaudited text t cause is.is is.accepted h
trims_fit out text t o is (trimming.accepted u are _ h) r = subst IsRefusing h.is r

module _ (out : List ℕ) (texts : List (List ℕ)) (fit : FitUpgrade texts) where
  kept_fit : (line : List ℕ) (o : Outcome) → upgrading.IsKept out (upgrading.upgraded fit.rules) line o → IsRefusing o → ⊥
  unfolding IsRefusing
  kept_fit line _ (upgrading.kept fits) r = r
  kept_fit line _ (upgrading.full long) r = omega (arith, fit.short, long)

  upgrades_fit : (o : Outcome) → upgrading.Upgrades out fit.text o → IsRefusing o → ⊥
  upgrades_fit _ (upgrading.unaudited cause h) r = never_unaudited fit.text fit.rules cause fit.is_table fit.accepted h
  upgrades_fit _ (upgrading.accepted t is o h) r =
      let same : t ≡ fit.rules = one_table fit.text t fit.rules is.is fit.is_table in
      kept_fit (entries_line (length t.rules) (tables.opens_of t)) o (subst (λ (u : Table). upgrading.IsKept out (upgrading.upgraded u) (entries_line (length t.rules) (tables.opens_of t)) o) same h) r

module _ (to : ExportArguments) (t : Table) where
  never_absent : HasFitEntry t to.entry ⊎ HasFitFamily t to.entry → entry_at t.rules to.entry ≡ None → family_at t to.entry ≡ None → ⊥
  never_absent (inl has) h k = none_some (entry_at t.rules to.entry) has.entry h has.is_entry
  never_absent (inr has) h k = none_some (family_at t to.entry) has.family k has.is_family

  entry_fit : HasFitEntry t to.entry ⊎ HasFitFamily t to.entry → (e : Rule) → entry_at t.rules to.entry ≡ Some e → SidesFit t e
  entry_fit (inl has) e at = subst (SidesFit t) (same_Some has.entry e (sym has.is_entry ∙ at)) has.fit
  entry_fit (inr has) e at = absurd (apart t to.entry e has.family at has.is_family)

  its_family : HasFitEntry t to.entry ⊎ HasFitFamily t to.entry → (f : Family) → family_at t to.entry ≡ Some f → (e : Rule) × (entry_of t f ≡ Some e) × SidesFit t e × IsRaisable t.header.pool f e.left
  its_family (inl has) f at = absurd (apart t to.entry has.entry f has.is_entry at)
  its_family (inr has) f at =
      subst (λ (g : Family). (e : Rule) × (entry_of t g ≡ Some e) × SidesFit t e × IsRaisable t.header.pool g e.left) (same_Some has.family f (sym has.is_family ∙ at)) (has.entry, has.is_entry, has.fit, has.raisable)

  entry_exported : (e : Rule) → SidesFit t e → (o : Outcome) → tables.ExportsEntry to t e o → IsRefusing o → ⊥
  unfolding IsRefusing
  entry_exported e fit _ (tables.unfit not) r = not fit
  entry_exported e fit _ (tables.found so) r = r

  family_exported : (f : Family) → (e : Rule) × (entry_of t f ≡ Some e) × SidesFit t e × IsRaisable t.header.pool f e.left → (o : Outcome) → tables.ExportsFamily to t f o → IsRefusing o → ⊥
  unfolding IsRefusing
  family_exported f (e, at, fits, can) _ (tables.raises_none none) r = none_some (entry_of t f) e none at
  family_exported f (e, at, fits, can) _ (tables.raises_unfit x there not) r = not (subst (SidesFit t) (same_Some e x (sym at ∙ there)) fits)
  family_exported f (e, at, fits, can) _ (tables.unraisable x there its not) r = not (subst (λ (y : Rule). IsRaisable t.header.pool f y.left) (same_Some e x (sym at ∙ there)) can)
  family_exported f (e, at, fits, can) _ (tables.raised x there its so) r = r

module _ (to : ExportArguments) (texts : List (List ℕ)) (fit : FitExport to.entry texts) where
  exports_fit : (o : Outcome) → tables.Exports to fit.text o → IsRefusing o → ⊥
  exports_fit _ (tables.refused cause h) r = never_unlisted fit.text fit.rules cause fit.is_table h
  exports_fit _ (tables.absent t is a b) r = never_absent to fit.rules fit.has (entry_moved to fit.text t fit.rules None is fit.is_table a) (family_moved to fit.text t fit.rules None is fit.is_table b)
  exports_fit _ (tables.entry t is e at o h) r =
      entry_exported to fit.rules e (entry_fit to fit.rules fit.has e (entry_moved to fit.text t fit.rules (Some e) is fit.is_table at)) o (subst (λ (x : Table). tables.ExportsEntry to x e o) (one_table fit.text t fit.rules is fit.is_table) h) r
  exports_fit _ (tables.of_family t is f at o h) r =
      family_exported to fit.rules f (its_family to fit.rules fit.has f (family_moved to fit.text t fit.rules (Some f) is fit.is_table at)) o (subst (λ (x : Table). tables.ExportsFamily to x f o) (one_table fit.text t fit.rules is fit.is_table) h) r

module _ (asked : TraceArguments) (texts : List (List ℕ)) (fit : FitTrace asked.label texts) where
  no_label : (o : Option ℕ) → IsSome o → o ≡ None → ⊥
  no_label None s e = absurd (true≢false (sym s))
  no_label (Some p) s e = absurd (let bad : Some p ≡ None = e in cc)

  traces_lines : (o : Outcome) → tracing.LinesTrace asked fit.lines o → IsRefusing o → ⊥
  unfolding IsRefusing
  traces_lines _ (tracing.unlaid cause h) r = never_unlaid 0 fit.lines cause fit.layable h
  traces_lines _ (tracing.unlabelled laid none) r = no_label (place_of (code_of fit.lines) asked.label) fit.labelled none
  traces_lines _ (tracing.ran laid p at names is n s run) r = r

  traces_fit : (o : Outcome) → tracing.Traces asked fit.text o → IsRefusing o → ⊥
  traces_fit _ (tracing.unread cause h) r = never_unread_listing fit.text fit.lines cause fit.is_listing h
  traces_fit _ (tracing.read lines is o h) r = traces_lines o (subst (λ (ls : List ListingLine). tracing.LinesTrace asked ls o) (one_listing fit.text lines fit.lines is fit.is_listing) h) r

module _ (base : ℕ) (out : List ℕ) (texts : List (List ℕ)) (fit : FitTidying base texts) where
  tidies_lines : (o : Outcome) → tidying.LinesTidy base out fit.lines o → IsRefusing o → ⊥
  unfolding IsRefusing
  tidies_lines _ (tidying.unlaid cause h) r = never_unlaid base fit.lines cause fit.layable h
  tidies_lines _ (tidying.tidied laid o h) r = subst IsRefusing h.is r

  tidies_fit : (o : Outcome) → tidying.Tidies base out fit.text o → IsRefusing o → ⊥
  tidies_fit _ (tidying.unread cause h) r = never_unread_listing fit.text fit.lines cause fit.is_listing h
  tidies_fit _ (tidying.read lines is o h) r = tidies_lines o (subst (λ (ls : List ListingLine). tidying.LinesTidy base out ls o) (one_listing fit.text lines fit.lines is fit.is_listing) h) r

-- ---- all that learn no table ----

fit_unrefused : (r : Request) (texts : List (List ℕ)) (o : Outcome) → (AsksSolver r → ⊥) → AreFit r texts → (plan_of r).comes texts o → IsRefusing o → ⊥
fit_unrefused (rewrite table listing out image base) texts o plain fit h = rewriting_fit (record { out = out; image = image; base = base }) texts fit o h
fit_unrefused (audit table) texts o plain fit h = audits_fit fit.text fit.rules o (record { is = fit.is_table; accepted = fit.accepted }) (by_text tables.Audits texts fit.text o fit.is_text h)
fit_unrefused (learn listing out costs settings) texts o plain fit h = absurd (plain tt)
fit_unrefused (export table entry cnf lrat) texts o plain fit h =
    let to : ExportArguments = record { entry = entry; cnf = cnf; lrat = lrat } in
    exports_fit to texts fit o (by_text (tables.Exports to) texts fit.text o fit.is_text h)
fit_unrefused (trace listing label steps) texts o plain fit h =
    let asked : TraceArguments = record { label = label; most = steps } in
    traces_fit asked texts fit o (by_text (tracing.Traces asked) texts fit.text o fit.is_text h)
fit_unrefused (demo windows) texts o plain fit h = absurd (plain tt)
fit_unrefused (generalise table entry number low high out) texts o plain fit h = absurd (plain tt)
fit_unrefused (trim table out) texts o plain fit h = trims_fit out fit.text fit.rules o (record { is = fit.is_table; accepted = fit.accepted }) (by_text (trimming.Trims out) texts fit.text o fit.is_text h)
fit_unrefused (tidy listing out base) texts o plain fit h = tidies_fit base out texts fit o (by_text (tidying.Tidies base out) texts fit.text o fit.is_text h)
fit_unrefused (upgrade table out) texts o plain fit h = upgrades_fit out texts fit o (by_text (upgrading.Upgrades out) texts fit.text o fit.is_text h)

pub never_refuses : (r : Request) (texts : List (List ℕ)) (line : List ℕ) → (AsksSolver r → ⊥) → AreFit r texts → (plan_of r).comes texts (Refuses line) → ⊥
unfolding IsRefusing
never_refuses r texts line plain fit h = fit_unrefused r texts (Refuses line) plain fit h tt

-- ---- where a table is learnt ----

-- if the outcome is a refusal, it is that of a text that is too long
TellsFullIf : Outcome → Type 0
TellsFullIf (Refuses line) = TellsFull line
TellsFullIf (Does keeps lines) = Unit {0}

none_so : (o : Outcome) → (IsRefusing o → ⊥) → TellsFullIf o
unfolding IsRefusing TellsFullIf
none_so (Refuses line) h = absurd (h tt)
none_so (Does keeps lines) h = tt

unlearnt_full : (s : Settings) (lines : List ListingLine) (cause : Cause) → width_of s ≤ 5000000 → learning.IsUnlearnt s lines cause → TellsFull (refusal_line cause)
unlearnt_full s lines _ narrow (learning.too_wide wide) = absurd (omega (arith, narrow, wide))
unlearnt_full s lines _ narrow (learning.too_long windows are t bytes full) = (bytes, refl)

module _ (to : LearnArguments) (text : List ℕ) (given : List ListingLine) (listing : IsListing text given) (narrow : width_of to.settings ≤ 5000000) where
  learns_lines : (o : Outcome) → learning.LinesLearn to given o → TellsFullIf o
  unfolding TellsFullIf
  learns_lines _ (learning.unlearnt cause h) = unlearnt_full to.settings given cause narrow h
  learns_lines _ (learning.learnt t h) = tt

  learns_fit : (o : Outcome) → learning.Learns to text o → TellsFullIf o
  learns_fit _ (learning.unread cause h) = absurd (never_unread_listing text given cause listing h)
  learns_fit _ (learning.read lines is o h) = learns_lines o (subst (λ (ls : List ListingLine). learning.LinesLearn to ls o) (one_listing text lines given is listing) h)

module _ (to : LearnArguments) (texts : List (List ℕ)) (fit : FitLearningByCosts to.settings texts) where
  by_costs_fit : (o : Outcome) → learning.LearnsByCosts to fit.text fit.cost_text o → TellsFullIf o
  by_costs_fit _ (learning.unpriced line h) = absurd (cost.not_both fit.cost_text fit.costs line fit.are_costs h)
  by_costs_fit _ (learning.priced_so cs is o h) =
      learns_fit (learning.priced fit.costs to) fit.text fit.lines fit.is_listing fit.narrow o
      (subst (λ (xs : List ℕ). learning.Learns (learning.priced xs to) fit.text o) (cost.one_meaning fit.cost_text cs fit.costs is fit.are_costs) h)

  both_fit : (o : Outcome) → learning.LearnByCostsComesTo to texts o → TellsFullIf o
  both_fit o (text, costs, are, h) =
      let e : (let l : List (List ℕ) = text ∷ costs ∷ [] in l) ≡ fit.text ∷ fit.cost_text ∷ [] = sym are ∙ fit.are in
      let first : text ≡ fit.text = first_same text fit.text (costs ∷ []) (fit.cost_text ∷ []) e in
      let second : costs ≡ fit.cost_text = second_same text costs fit.text fit.cost_text [] [] e in
      by_costs_fit o (subst (λ (x : List ℕ × List ℕ). learning.LearnsByCosts to x.0 x.1 o) (λ i. (first i, second i)) h)

shows_full : (n : ℕ) (o : Outcome) → showing.DemoComesTo n o → TellsFullIf o
unfolding TellsFullIf
shows_full n _ (showing.shown told h) = tt
shows_full n _ (showing.too_long lines is windows are t bytes full) = (bytes, refl)

-- ---- where a family is added ----

module _ (out : List ℕ) (f : Family) (texts : List (List ℕ)) (fit : FitGeneralising f texts) where
  audited : IsAudited fit.text fit.rules
  audited = record { is = fit.is_table; accepted = fit.accepted }

  never_unraised : (r : Cause) → generalising.IsUnraised fit.rules f r → ⊥
  never_unraised _ (generalising.no_entry none) = not_none fit.rules f fit.entry fit.raisable.is_entry none
  never_unraised _ (generalising.unraisable not) = not_unraisable fit.rules f fit.entry fit.raisable not
  never_unraised _ (generalising.differ e can x within other) = other (subst (λ (y : Rule). Equal (instance f.number y.left x) (instance f.number y.right x) (items_in y.mask)) (same_entry fit.rules f fit.entry e fit.raisable can) (fit.equal x within))
  never_unraised _ (generalising.spent log h) = fit.unspent log h

  kept_full : (t : Table) (line : List ℕ) (o : Outcome) → upgrading.IsKept out t line o → TellsFullIf o
  unfolding TellsFullIf
  kept_full t line _ (upgrading.kept fits) = tt
  kept_full t line _ (upgrading.full long) = (text_length t, refl)

  generalises_fit : (o : Outcome) → generalising.Generalises out f fit.text o → TellsFullIf o
  generalises_fit _ (generalising.unaudited cause h) = absurd (never_unaudited fit.text fit.rules cause fit.is_table fit.accepted h)
  generalises_fit _ (generalising.unraised t is cause h) = absurd (never_unraised cause (subst (λ (x : Table). generalising.IsUnraised x f cause) (one_audited fit.text fit.rules t audited is) h))
  generalises_fit _ (generalising.generalised t is raised h o kept) = kept_full raised (families_line (length raised.families) (length h.proof)) o kept

tells_full : (r : Request) (texts : List (List ℕ)) (o : Outcome) → AreFit r texts → (plan_of r).comes texts o → TellsFullIf o
tells_full (rewrite table listing out image base) texts o fit h = none_so o (fit_unrefused (rewrite table listing out image base) texts o (λ x. x) fit h)
tells_full (audit table) texts o fit h = none_so o (fit_unrefused (audit table) texts o (λ x. x) fit h)
tells_full (export table entry cnf lrat) texts o fit h = none_so o (fit_unrefused (export table entry cnf lrat) texts o (λ x. x) fit h)
tells_full (trace listing label steps) texts o fit h = none_so o (fit_unrefused (trace listing label steps) texts o (λ x. x) fit h)
tells_full (learn listing out None s) texts o fit h =
    let to : LearnArguments = record { out = out; settings = s } in
    learns_fit to fit.text fit.lines fit.is_listing fit.narrow o (by_text (learning.Learns to) texts fit.text o fit.is_text h)
tells_full (learn listing out (Some costs) s) texts o fit h = both_fit (record { out = out; settings = s }) texts fit o h
tells_full (demo windows) texts o fit h = shows_full windows o h
tells_full (generalise table entry number low high out) texts o fit h =
    let f : Family = wanted entry number low high in
    generalises_fit out f texts fit o (by_text (generalising.Generalises out f) texts fit.text o fit.is_text h)
tells_full (trim table out) texts o fit h = none_so o (fit_unrefused (trim table out) texts o (λ x. x) fit h)
tells_full (tidy listing out base) texts o fit h = none_so o (fit_unrefused (tidy listing out base) texts o (λ x. x) fit h)
tells_full (upgrade table out) texts o fit h = none_so o (fit_unrefused (upgrade table out) texts o (λ x. x) fit h)

pub fit_full : (r : Request) (texts : List (List ℕ)) (line : List ℕ) → AreFit r texts → (plan_of r).comes texts (Refuses line) → TellsFull line
unfolding TellsFullIf
fit_full r texts line fit h = tells_full r texts (Refuses line) fit h
