-- What is kept of a rewritten listing is what the headline says.
use Rattle.std.proofs.Common.{◌≡◌, ℕ, List, [], ◌∷◌, ◌++◌, length, sym, ap, subst, Option, None}
use Rattle.thumb_model.specs.Listing.{ListingLine}
use Rattle.thumb_model.specs.Layout.{Layable}
use Rattle.rule_model.specs.Rewriting.{Replacement, AreRewritten}
use Rattle.rule_model.specs.Laws.{CostsOne}
use Rattle.rule_model.proofs.LinesKept.{lines_same, none_left, all_applied, no_more_lines, still_layable}
use Rattle.seq_enum.specs.Costs.{cost_under}
use Rattle.rule_table.specs.Table.{Table}
use Rattle.table_audit.specs.Soundness.{IsSound}
use Rattle.listing_parser.specs.Parsing.{IsListing, text_of_lines}
use Rattle.listing_parser.proofs.Literals.{literals_stand}
use Rattle.window_rewrite.specs.TableRewriting.{setting}
use Rattle.thumb_assembler.specs.Runs.{IsAssembled}
use Rattle.thumb_assembler.proofs.Meeting.{images_follow, images_follow_given}
use Rattle.command_runs.specs.Plans.{Outcome, Does, Refuses}
use Rattle.audit_cli.specs.declared.refusal.Refusal.{Refusal}
use Rattle.audit_cli.specs.Printed.{refusal_line, report_of, image_line, HasNoImage}
use Rattle.audit_cli.specs.Rewrite.{Destination, Counts, WantsNone, Leaves, alone, pair, no_image, IsRewriting, instruction_count}
use Rattle.audit_cli.proofs.WellFormed.{still_reads}

-- the listing alone
pub kept_alone : (to : Destination) (lines : List ListingLine) (c : Counts) (o : Outcome) → WantsNone to → o ≡ Does ((to.out, text_of_lines lines) ∷ []) (report_of c.replaced c.before c.after) → Leaves to lines c o
kept_alone to lines c o none e = subst (Leaves to lines c) (sym e) (alone none)

-- the listing and its image
pub kept_pair : (to : Destination) (lines : List ListingLine) (c : Counts) (bytes : List ℕ) (o : Outcome) → (WantsNone to → ⊥) → IsAssembled to.base lines bytes
    → o ≡ Does ((to.out, text_of_lines lines) ∷ (to.image, bytes) ∷ []) (report_of c.replaced c.before c.after ++ image_line (length bytes)) → Leaves to lines c o
kept_pair to lines c bytes o some i e = subst (Leaves to lines c) (sym e) (pair some bytes i)

-- no image
pub kept_none : (to : Destination) (lines : List ListingLine) (c : Counts) (r : Refusal) (o : Outcome) → (WantsNone to → ⊥) → HasNoImage to.base lines r → o ≡ Refuses (refusal_line r) → Leaves to lines c o
kept_none to lines c r o some h e = subst (Leaves to lines c) (sym e) (no_image some r h)

-- if a table has no costs, each instruction costs 1
costs_one : (base : ℕ) (t : Table) → t.header.costs ≡ None → CostsOne (setting base t)
costs_one base t none i = ap (λ (costs : Option (List ℕ)). cost_under costs i) none

-- rewriting by its definition gives what the headline says
pub is_rewriting : (to : Destination) (t : Table) (given lines : List ListingLine) (replacements : List Replacement) (c : Counts) (o : Outcome) → IsSound t → IsListing (text_of_lines given) given → Layable to.base given
    → AreRewritten (setting to.base t) given replacements lines → c ≡ record { replaced = length replacements; before = instruction_count given; after = instruction_count lines } → Leaves to lines c o
    → IsRewriting to t given o
is_rewriting to t given lines replacements c o sound is laid r e k =
    let s = setting to.base t in
    let same = lines_same s given replacements lines sound.sound (literals_stand (text_of_lines given) given is) r in
    record {
      replacements = replacements;
      lines = lines;
      rewritten = r;
      listed = still_reads to.base t (text_of_lines given) given replacements lines sound.sound r is;
      no_longer = λ none. no_more_lines s given replacements lines (costs_one to.base t none) r;
      layable = still_layable s given replacements lines laid r;
      same = same;
      runs = λ bytes assembled. record {
        as_left = λ set is_set fits. images_follow to.base set lines bytes assembled is_set fits;
        as_given = λ set is_set fits fits_given. images_follow_given to.base set lines given bytes assembled is_set fits fits_given same;
      };
      finished = none_left s given replacements lines r;
      applied = all_applied s given replacements lines r;
      sound = sound;
      left = subst (λ (x : Counts). Leaves to lines x o) e k;
    }
