-- What `demo` prints is what its definition says, and nothing is refused except a table whose text is too long.
use Rattle.std.proofs.Common.{◌≡◌, ◌∙◌, ℕ, ◌≤◌, List, [], ◌∷◌, ◌++◌, append_assoc, length, refl, sym, subst, arith, Option, Some, None, leb-true}
use Rattle.thumb_model.specs.Listing.{ListingLine}
use Rattle.rule_model.specs.Rewriting.{Replacement, AreRewritten}
use Rattle.seq_enum.specs.Alphabet.{is_pool, ascends_from, numbers_from, those_within, grid2, grid3, rows, members, alphabet, words}
use Rattle.listing_parser.specs.Parsing.{IsListing}
use Rattle.listing_parser.proofs.MadeLemmas.{one_listing}
use Rattle.listing_parser.proofs.VerdictLemmas.{one_verdict}
use Rattle.rule_table.specs.Table.{Table}
use Rattle.rule_table.specs.Refused.{IsText}
use Rattle.rule_table.proofs.Beginnings.{is_learnt_header}
use Rattle.rule_table.proofs.Progress.{one_table, not_both}
use Rattle.table_audit.specs.declared.errors.AuditError.{AuditError}
use Rattle.table_audit.specs.declared.errors.AuditError.TheVariants as audit
use Rattle.table_audit.specs.Acceptance.{TableVerdict, IsAccepted, width_of}
use Rattle.table_audit.specs.Shorter.{sequences_below}
use Rattle.table_audit.proofs.Determined.{table_same}
use Rattle.table_learn.specs.Given.{AreInLimits}
use Rattle.window_rewrite.specs.TableRewriting.{setting}
use Rattle.thumb_assembler.specs.Bytes.{first_flaw}
use Rattle.thumb_assembler.specs.Runs.{IsAssembled}
use Rattle.command_runs.specs.Plans.{Outcome, Refuses, Does}
use Rattle.audit_cli.specs.declared.refusal.Refusal.{Refusal}
use Rattle.audit_cli.specs.Printed.{refusal_line, demo_line, learnt_line, report_of, image_line, IsUnread, unread, IsUnlisted, unlisted, IsUnaudited, no_table, other_state, too_wide as wide_table, bad_family, bad_entry, HasNoImage, no_address, inside}
use Rattle.audit_cli.specs.Tables.{opens_of}
use Rattle.audit_cli.specs.Learn.{IsUnlearnt, IsLearnt, too_wide, too_long as long_text}
use Rattle.audit_cli.specs.Rewrite.{instruction_count}
use Rattle.audit_cli.specs.Demo.{demo_text, demo_settings, IsRewritingTold, IsDemo, DemoComesTo, shown, too_long}
use Rattle.audit_cli.specs.Answers.{IsDemoListing}
use Rattle.audit_cli.proofs.MuteLines.{AreMute}
use Rattle.audit_cli.proofs.DemoLines.{demo_lines, demo_listed, demo_mute}

-- ---- refusals that can't happen ----

pub never_unread : (n : ℕ) (r : Refusal) → n ≤ 20000 → IsUnread (demo_text n) r → ⊥
never_unread n _ few (unread line k h) = one_verdict.not_both (demo_text n) (demo_lines n) line k (demo_listed n few) h

never_unlisted : (text : List ℕ) (t : Table) (r : Refusal) → IsText text t → IsUnlisted text r → ⊥
never_unlisted text t _ is (unlisted line h) = not_both text t line is h

-- one text has one table, and a table one verdict
two_verdicts : (text : List ℕ) (t u : Table) (e : AuditError) → IsText text t → IsAccepted t → IsText text u → TableVerdict u (Some e) → ⊥
two_verdicts text t u e is accepted other verdict =
    let same : u ≡ t = one_table text u t other is in
    let both : None ≡ Some e = table_same t None (Some e) accepted (subst (λ (x : Table). TableVerdict x (Some e)) same verdict) in
    absurd (cc)

pub never_unaudited : (text : List ℕ) (t : Table) (r : Refusal) → IsText text t → IsAccepted t → IsUnaudited text r → ⊥
never_unaudited text t _ is accepted (no_table r h) = never_unlisted text t r is h
never_unaudited text t _ is accepted (other_state u other place verdict) = two_verdicts text t u (audit.States place) is accepted other verdict
never_unaudited text t _ is accepted (wide_table u other count verdict) = two_verdicts text t u (audit.Wide count) is accepted other verdict
never_unaudited text t _ is accepted (bad_entry u other number k verdict) = two_verdicts text t u (audit.Entry number k) is accepted other verdict
never_unaudited text t _ is accepted (bad_family u other number k verdict) = two_verdicts text t u (audit.Family number k) is accepted other verdict

pub none_some : {A : Type 0} (o : Option A) (a : A) → o ≡ None → o ≡ Some a → ⊥
none_some {A} o a e f = (let bad : None ≡ Some a = sym e ∙ f in absurd (cc))

pub never_without_image : (base : ℕ) (lines : List ListingLine) (r : Refusal) → first_flaw base lines ≡ None → HasNoImage base lines r → ⊥
never_without_image base lines _ none (no_address line h) = none_some (first_flaw base lines) _ none h
never_without_image base lines _ none (inside line h) = none_some (first_flaw base lines) _ none h

-- few sequences are shorter than two instructions
narrow : width_of demo_settings ≤ 5000000
unfolding sequences_below alphabet rows members words those_within numbers_from grid2 grid3
narrow = leb-true (width_of demo_settings) 5000000 refl

-- ---- lines ----

pub made_mute : (lines : List ListingLine) → IsDemoListing lines → AreMute lines
made_mute lines (n, few, is) = subst AreMute (one_listing (demo_text n) (demo_lines n) lines (demo_listed n few) is) (demo_mute n)

-- ---- the report ----

pub is_rewriting_told : (t : Table) (given lines : List ListingLine) (rs : List Replacement) (bytes : List ℕ) (replaced before after size : ℕ) (told : List ℕ)
    → AreRewritten (setting 0 t) given rs lines → IsAssembled 0 lines bytes
    → replaced ≡ length rs → before ≡ instruction_count given → after ≡ instruction_count lines → size ≡ length bytes
    → told ≡ report_of replaced before after ++ image_line size → IsRewritingTold t given told
is_rewriting_told t given lines rs bytes replaced before after size told rewritten image r b a s is = record {
  replacements = rs;
  lines = lines;
  rewritten = rewritten;
  bytes = bytes;
  image = image;
  are_told = is ∙ (λ i. report_of (r i) (b i) (a i) ++ image_line (s i));
}

pub is_demo : (n : ℕ) (lines : List ListingLine) (t u : Table) (rewriting told : List ℕ) → IsListing (demo_text n) lines → IsLearnt demo_settings lines t → u ≡ t → IsRewritingTold u lines rewriting
    → told ≡ (demo_line n ++ learnt_line (length t.rules) (opens_of t) (length t.states)) ++ rewriting → IsDemo n told
is_demo n lines t u rewriting told listing learnt same rewritten is = record {
  lines = lines;
  listing = listing;
  table = t;
  learnt = learnt;
  rewriting = rewriting;
  rewritten = subst (λ (x : Table). IsRewritingTold x lines rewriting) same rewritten;
  are_told = is ∙ append_assoc (demo_line n) (learnt_line (length t.rules) (opens_of t) (length t.states)) rewriting;
}

-- ---- outcomes ----

full_alone : (n : ℕ) (lines : List ListingLine) (r : Refusal) → IsListing (demo_text n) lines → IsUnlearnt demo_settings lines r → DemoComesTo n (Refuses (refusal_line r))
full_alone n lines _ listing (too_wide wide) = absurd (let few = narrow in omega arith)
full_alone n lines _ listing (long_text windows are t bytes full) = too_long lines listing windows are t bytes full

pub is_full : (n : ℕ) (lines : List ListingLine) (r : Refusal) (o : Outcome) → IsListing (demo_text n) lines → IsUnlearnt demo_settings lines r → o ≡ Refuses (refusal_line r) → DemoComesTo n o
is_full n lines r o listing h is = subst (DemoComesTo n) (sym is) (full_alone n lines r listing h)

pub is_shown : (n : ℕ) (told : List ℕ) (o : Outcome) → IsDemo n told → o ≡ Does [] told → DemoComesTo n o
is_shown n told o h is = subst (DemoComesTo n) (sym is) (shown told h)

-- ---- settings ----

pub demo_limits : AreInLimits demo_settings
unfolding is_pool ascends_from
demo_limits = record {
  header = is_learnt_header 1 2 20000 42 0 (1 ∷ 24 ∷ []) None (omega arith, omega arith) (omega arith, omega arith) (omega arith, omega arith) (omega arith, omega arith) (omega arith, omega arith) refl tt;
  version = λ three. omega (arith, three);
}
