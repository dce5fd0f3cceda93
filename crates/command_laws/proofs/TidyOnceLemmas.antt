-- A text determines the outcome of `tidy`: the changes and the tidied lines are determined.
use Rattle.std.proofs.Common.{◌≡◌, ◌∙◌, ℕ, List, length, sym, ap, subst}
use Rattle.thumb_model.specs.Listing.{ListingLine}
use Rattle.listing_parser.proofs.MadeLemmas.{one_listing}
use Rattle.flow_tidy.specs.Tidying.{Change, setting}
use Rattle.flow_tidy.proofs.Unique.{is_determined}
use Rattle.command_runs.specs.Plans.{Outcome}
use Rattle.audit_cli.specs.Tidy.{IsTidying, LinesTidy, unlaid, tidied, Tidies, unread, read, TidyComesTo, tidied_outcome}
use Rattle.command_laws.specs.Once.{IsOne}
use Rattle.command_laws.proofs.OnceLemmas.{refuses_same, unread_once, never_unread_listing, unlaid_once, never_unlaid, one_text}

tidying_once : (base : ℕ) (out : List ℕ) (given : List ListingLine) (o p : Outcome) → IsTidying base out given o → IsTidying base out given p → o ≡ p
tidying_once base out given o p h k =
    let d = is_determined (setting base) given h.tidied.changes k.tidied.changes h.lines k.lines h.tidied.are k.tidied.are in
    let changes : h.changes ≡ k.changes = h.tidied.counted ∙ (ap (λ (cs : List Change). length cs) d.0 ∙ sym k.tidied.counted) in
    let lines : h.lines ≡ k.lines = d.1 in
    h.is ∙ (ap (λ (x : List ListingLine × ℕ). tidied_outcome out given x.0 x.1) (λ i. (lines i, changes i)) ∙ sym k.is)

lines_tidy_once : (base : ℕ) (out : List ℕ) (given : List ListingLine) (o p : Outcome) → LinesTidy base out given o → LinesTidy base out given p → o ≡ p
lines_tidy_once base out given _ _ (unlaid r h) (unlaid s k) = refuses_same r s (unlaid_once base given r s h k)
lines_tidy_once base out given _ p (unlaid r h) (tidied layable p' k) = absurd (never_unlaid base given r layable h)
lines_tidy_once base out given o _ (tidied layable o' h) (unlaid s k) = absurd (never_unlaid base given s layable k)
lines_tidy_once base out given _ _ (tidied layable o h) (tidied other p k) = tidying_once base out given o p h k

tidies_once : (base : ℕ) (out text : List ℕ) (o p : Outcome) → Tidies base out text o → Tidies base out text p → o ≡ p
tidies_once base out text _ _ (unread r h) (unread s k) = refuses_same r s (unread_once text r s h k)
tidies_once base out text _ _ (unread r h) (read lines is p k) = absurd (never_unread_listing text lines r is h)
tidies_once base out text _ _ (read lines is o h) (unread s k) = absurd (never_unread_listing text lines s is k)
tidies_once base out text _ _ (read lines is o h) (read others are p k) =
    lines_tidy_once base out lines o p h (subst (λ (ls : List ListingLine). LinesTidy base out ls p) (one_listing text others lines are is) k)

pub tidy_once : (base : ℕ) (out : List ℕ) → IsOne (TidyComesTo base out)
tidy_once base out = one_text (Tidies base out) (tidies_once base out)
