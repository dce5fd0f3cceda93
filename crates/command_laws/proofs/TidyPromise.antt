-- A run of `tidy` that ends as Done has done what its theorem says, field by field.
use Rattle.std.proofs.Common.{◌≡◌, ◌∙◌, ℕ, List, [], ◌∷◌, ◌++◌, length, ap, subst}
use Rattle.std.specs.Prelude.{Ok}
use Rattle.thumb_model.specs.Listing.{ListingLine}
use Rattle.thumb_model.specs.Layout.{Layable}
use Rattle.listing_parser.specs.Parsing.{IsListing, text_of_lines}
use Rattle.flow_tidy.specs.Tidying.{setting}
use Rattle.flow_tidy.proofs.Ends.{tidying_ends}
use Rattle.flow_tidy.proofs.Unique.{all_possible}
use Rattle.command_line.specs.CommandLine.{Request, tidy}
use Rattle.command_line.proofs.Usage.{asks_once}
use Rattle.outer_store.specs.Outside.{Putting, Seen, Sunk}
use Rattle.command_runs.specs.Plans.{Outcome, Does, Keep, Kept, keeps_of, due, fetchings, keepings, AreTexts}
use Rattle.command_runs.specs.Runs.{IsDone}
use Rattle.audit_cli.specs.Printed.{tidied_report}
use Rattle.audit_cli.specs.Rewrite.{instruction_count}
use Rattle.audit_cli.specs.Tidy.{IsTidying, LinesTidy, unlaid, tidied, Tidies, unread, read}
use Rattle.audit_cli.specs.Peep.{plan_of}
use Rattle.audit_cli.proofs.HeadlineLemmas.{IsAct}
use Rattle.command_laws.specs.Tidying.{HasTidied, TidiesAsPromised}

-- what a run that isn't refused found: the lines of a listing, which were tidied
record Found (base : ℕ) (out text : List ℕ) (o : Outcome) : Type 0 where
  given : List ListingLine
  listed : IsListing text given
  layable : Layable base given
  done : IsTidying base out given o

found_lines : (base : ℕ) (out text : List ℕ) (given : List ListingLine) (o : Outcome) → IsListing text given → LinesTidy base out given o → IsAct o → Found base out text o
unfolding IsAct
found_lines base out text given _ listed (unlaid r h) act = absurd act
found_lines base out text given _ listed (tidied layable o h) act = record { given = given; listed = listed; layable = layable; done = h }

found : (base : ℕ) (out text : List ℕ) (o : Outcome) → Tidies base out text o → IsAct o → Found base out text o
unfolding IsAct
found base out text _ (unread r h) act = absurd act
found base out text _ (read given listed o h) act = found_lines base out text given o listed h act

module _ (listing out : List ℕ) (base : ℕ) (old new : Seen) (before after : Sunk) where
  flat : IsDone (plan_of (tidy listing out base)) old new before after → HasTidied listing out base old new before after
  unfolding IsAct
  flat done =
      let comes = done.outcome.comes in
      let texts : done.outcome.texts ≡ comes.0 ∷ [] = comes.1 in
      let held : AreTexts old (listing ∷ []) (comes.0 ∷ []) = subst (λ (ts : List (List ℕ)). AreTexts old (listing ∷ []) ts) texts done.outcome.read in
      let f = found base out comes.0 (Does done.keeps done.lines) comes.2 tt in
      let r = f.done in
      let changes = r.tidied.changes in
      let ends = tidying_ends (setting base) f.given changes r.lines r.tidied.are in
      let keeps : done.keeps ≡ (out, text_of_lines r.lines) ∷ [] = ap keeps_of r.is in
      let told : done.lines ≡ tidied_report (length changes) (instruction_count f.given) (instruction_count r.lines) =
      ap due r.is ∙ ap (λ (n : ℕ). tidied_report n (instruction_count f.given) (instruction_count r.lines)) r.tidied.counted in record {
        text = comes.0;
        text_held = held.0.1;
        given = f.given;
        is_listing = f.listed;
        given_layable = f.layable;
        lines = r.lines;
        changes = changes;
        tidied = r.tidied.are;
        same = r.same;
        finished = r.finished;
        possible = all_possible (setting base) f.given changes r.lines r.tidied.are;
        few = ends.0;
        no_more = ends.1;
        layable = r.layable;
        asked =
            subst (λ (x : List (List ℕ) × List Keep). new.events ≡ old.events ++ (fetchings (listing ∷ []) x.0 ++ keepings x.1)) (λ i. (texts i, keeps i)) done.calls;
        held = subst (λ (ks : List Keep). Kept ks old new) keeps done.kept;
        put = subst (λ (line : List ℕ). after.events ≡ before.events ++ Putting line (Ok tt) ∷ []) told done.put;
      }

pub as_promised : TidiesAsPromised
as_promised words listing out base old new before after text asks h =
    let same : h.0 ≡ tidy listing out base = asks_once words text h.0 (tidy listing out base) h.1 asks in
    flat listing out base old new before after (subst (λ (r : Request). IsDone (plan_of r) old new before after) same h.2)
