-- A run of `rewrite` that ends as Done has done what the headline says, field by field.
use Rattle.std.proofs.Common.{◌≡◌, ℕ, List, [], ◌∷◌, ◌++◌, Option, Some, None, refl, sym, subst}
use Rattle.std.proofs.lemmas.List.{append-nil}
use Rattle.std.specs.Prelude.{Ok}
use Rattle.thumb_model.specs.Listing.{ListingLine}
use Rattle.thumb_model.specs.Layout.{Layable}
use Rattle.listing_parser.specs.Parsing.{IsListing, text_of_lines}
use Rattle.rule_table.specs.Table.{Table}
use Rattle.command_line.specs.CommandLine.{Request, rewrite}
use Rattle.command_line.proofs.Usage.{asks_once}
use Rattle.outer_store.specs.Outside.{Putting, Seen, Sunk}
use Rattle.command_runs.specs.Plans.{Outcome, Refuses, Does, keeps_of, due, fetchings, keepings, AreTexts}
use Rattle.command_runs.specs.Runs.{IsDone}
use Rattle.audit_cli.specs.Printed.{IsAudited, report_of}
use Rattle.thumb_assembler.specs.Runs.{IsAssembled}
use Rattle.audit_cli.specs.Rewrite.{Destination, Counts, Leaves, alone, pair, no_image, RunsAsPromised, IsRewriting, LinesRewrite, unlaid, rewritten, Rewrites, unread, read, Comes, unaudited, audited}
use Rattle.audit_cli.specs.Peep.{plan_of}
use Rattle.audit_cli.specs.Headline.{IsHeadline, IsImage, RewritesAsPromised, image_kept, image_told}

-- the outcome is no refusal
unfoldable pub IsAct : Outcome → Type 0
IsAct (Refuses line) = ⊥
IsAct (Does keeps lines) = Unit {0}

-- what a run that isn't refused found: an accepted table, and the lines of a listing, which were rewritten
record Found (to : Destination) (table listing : List ℕ) (o : Outcome) : Type 0 where
  rules : Table
  is : IsAudited table rules
  given : List ListingLine
  listed : IsListing listing given
  layable : Layable to.base given
  done : IsRewriting to rules given o

found_lines : (to : Destination) (table listing : List ℕ) (t : Table) (given : List ListingLine) (o : Outcome) → IsAudited table t → IsListing listing given → LinesRewrite to t given o → IsAct o → Found to table listing o
unfolding IsAct
found_lines to table listing t given _ is listed (unlaid r h) act = absurd act
found_lines to table listing t given _ is listed (rewritten layable o h) act = record { rules = t; is = is; given = given; listed = listed; layable = layable; done = h }

found_text : (to : Destination) (table listing : List ℕ) (t : Table) (o : Outcome) → IsAudited table t → Rewrites to t listing o → IsAct o → Found to table listing o
unfolding IsAct
found_text to table listing t _ is (unread r h) act = absurd act
found_text to table listing t _ is (read given listed o h) act = found_lines to table listing t given o is listed h act

found : (to : Destination) (table listing : List ℕ) (o : Outcome) → Comes to table listing o → IsAct o → Found to table listing o
unfolding IsAct
found to table listing _ (unaudited r h) act = absurd act
found to table listing _ (audited t is o h) act = found_text to table listing t o is h act

-- what was kept and printed: the listing, its image if one is asked for, and the counts
record Handed (to : Destination) (given lines : List ListingLine) (c : Counts) (o : Outcome) : Type 0 where
  image : Option (List ℕ)
  is : IsImage to given lines image
  keeps : keeps_of o ≡ (to.out, text_of_lines lines) ∷ image_kept to.image image
  told : due o ≡ report_of c.replaced c.before c.after ++ image_told image

handed : (to : Destination) (given lines : List ListingLine) (c : Counts) (o : Outcome) → ((bytes : List ℕ) → IsAssembled to.base lines bytes → RunsAsPromised to.base given lines bytes) → Leaves to lines c o → IsAct o → Handed to given lines c o
unfolding IsAct
handed to given lines c _ runs (alone none) act = record { image = None; is = none; keeps = refl; told = sym (append-nil (report_of c.replaced c.before c.after)) }
handed to given lines c _ runs (pair some bytes made) act = record { image = Some bytes; is = (some, made, runs bytes made); keeps = refl; told = refl }
handed to given lines c _ runs (no_image some r h) act = absurd act

module _ (table listing out image : List ℕ) (base : ℕ) (old new : Seen) (before after : Sunk) where
  flat : IsDone (plan_of (rewrite table listing out image base)) old new before after → IsHeadline table listing (record { out = out; image = image; base = base }) old new before after
  unfolding IsAct
  flat done =
      let comes = done.outcome.comes in
      let texts : done.outcome.texts ≡ comes.0 ∷ comes.1 ∷ [] = comes.2 in
      let read : AreTexts old (table ∷ listing ∷ []) (comes.0 ∷ comes.1 ∷ []) = subst (λ (ts : List (List ℕ)). AreTexts old (table ∷ listing ∷ []) ts) texts done.outcome.read in
      let f = found (record { out = out; image = image; base = base }) comes.0 comes.1 (Does done.keeps done.lines) comes.3 tt in
      let r = f.done in
      let h = handed (record { out = out; image = image; base = base }) f.given r.lines _ (Does done.keeps done.lines) r.runs r.left tt in record {
        table_text = comes.0;
        listing_text = comes.1;
        table_held = read.0.1;
        listing_held = read.1.0.1;
        rules = f.rules;
        is_table = f.is.is;
        accepted = f.is.accepted;
        given = f.given;
        is_listing = f.listed;
        given_layable = f.layable;
        lines = r.lines;
        replacements = r.replacements;
        rewritten = r.rewritten;
        same = r.same;
        finished = r.finished;
        applied = r.applied;
        sound = r.sound;
        no_longer = r.no_longer;
        layable = r.layable;
        read_again = r.listed;
        image = h.image;
        is_image = h.is;
        keeps = done.keeps;
        kept_are = h.keeps;
        asked = subst (λ (ts : List (List ℕ)). new.events ≡ old.events ++ (fetchings (table ∷ listing ∷ []) ts ++ keepings done.keeps)) texts done.calls;
        held = done.kept;
        put = subst (λ (told : List ℕ). after.events ≡ before.events ++ Putting told (Ok tt) ∷ []) h.told done.put;
      }

pub as_promised : RewritesAsPromised
as_promised words table listing out image base old new before after text asks h =
    let same : h.0 ≡ rewrite table listing out image base = asks_once words text h.0 (rewrite table listing out image base) h.1 asks in
    flat table listing out image base old new before after (subst (λ (r : Request). IsDone (plan_of r) old new before after) same h.2)
