use Rattle.std.proofs.Common.{◌≡◌, ◌∙◌, ◌+◌, ◌<◌, ◌^◌, ℕ, Bool, List, length, Option, ap, sym, subst, arith}
use Rattle.std.specs.Prelude.{IfNone, IfSome}
use Rattle.thumb_model.specs.Listing.{code_of, places_of, ListingLine}
use Rattle.code_flow.specs.Marks.{AreMarks}
use Rattle.listing_draft.specs.Drafted.{lines_now, unchanged, Drafted}
use Rattle.listing_draft.specs.Invariant.{IsDraft}
use Rattle.flow_tidy.specs.Made.{AreMadeBy}
use Rattle.flow_tidy.specs.Tidying.{setting, NonePossible}
use Rattle.flow_tidy.proofs.Draftings.{quick_first}
use Rattle.flow_tidy.proofs.Handing.{all_fit, handed_over}
use Rattle.flow_tidy.proofs.Rounds.{all_made}
use Rattle.flow_tidy.proofs.Safes.{safe_first}
use Rattle.flow_tidy.proofs.tidying.tidied_by_places.Goals as goal

-- a draft has as many places as its listing
as_many : (ls : List ListingLine) (d : Drafted) (n : ℕ) → d ≡ unchanged ls → IsDraft d → n ≡ length d.gone → n ≡ length (places_of ls)
as_many ls d n is h e = e ∙ h.marks ∙ ap (λ (x : Drafted). length (places_of x.given)) is

pub change_by_places-requires-clause-quick : goal.change_by_places-requires-clause-quick
change_by_places-requires-clause-quick c =
    quick_first c.args.listing c.in_ok-draft.draft c.args.reached.now c.args.due.now c.in_ok-draft.ensures.is c.in_ok-draft.ensures.lines c.requires.reached c.requires.due

pub change_by_places-requires-clause-safe : goal.change_by_places-requires-clause-safe
change_by_places-requires-clause-safe c =
    safe_first c.args.widest.now c.args.listing c.in_ok-draft.draft c.in_ok-draft.ensures.is c.in_ok-draft.ensures.lines c.place_count-places.ensures.draft c.requires.widest c.requires.sure

-- the changes that were made lead from the listing to the one that is left
made_of : (base : ℕ) (given first last new : List ListingLine) (count : ℕ) → first ≡ given → new ≡ last → AreMadeBy (setting base) first last count → AreMadeBy (setting base) given new count
made_of base given first last new count e f m =
    subst (λ (l : List ListingLine). AreMadeBy (setting base) given l count) (sym f) (subst (λ (l : List ListingLine). AreMadeBy (setting base) l last count) e m)

pub returns-in-None : goal.returns-in-None
returns-in-None c =
    let base = c.args.widest.now.base in
    let new = c.in_ok-listing.listing in
    let ls = lines_now c.change_by_places.new.draft in
    let count = c.in_ok-progress.progress.changes in
    let made = made_of base c.args.listing (lines_now c.in_ok-draft.draft) ls new count c.in_ok-draft.ensures.lines c.in_ok-listing.ensures c.in_ok-progress.ensures.made in
    let none = subst (λ (o : Option (List Bool)). IfNone o (NonePossible (setting base) ls)) c.in-None.is c.in_ok-progress.ensures.done in
    all_made base c.args.listing new count made (subst (NonePossible (setting base)) (sym c.in_ok-listing.ensures) none)

pub overflow_add-result : goal.overflow_add-result
overflow_add-result c =
    let base = c.args.widest.now.base in
    let new = c.in_ok-listing.listing in
    let count = c.in_ok-progress.progress.changes in
    let rest = c.in_ok-rest-in-Some.rest in
    let made = made_of base c.args.listing (lines_now c.in_ok-draft.draft) (lines_now c.change_by_places.new.draft) new count c.in_ok-draft.ensures.lines c.in_ok-listing.ensures c.in_ok-progress.ensures.made in
    let many = as_many c.args.listing c.in_ok-draft.draft c.place_count-places.result c.in_ok-draft.ensures.is c.place_count-places.ensures.draft c.place_count-places.ensures.count in
    let few : length (places_of c.args.listing) < 2 ^ 32 = omega (arith, many, c.place_count-places.type_inv) in
    let fits : count + rest.changes < 2 ^ 64 = all_fit base c.args.listing rest.listing (count + rest.changes) (handed_over base c.args.listing new rest.listing count rest.changes made c.in_ok-rest-in-Some.ensures) few in
    omega arith

pub returns-in_ok-rest-in-Some : goal.returns-in_ok-rest-in-Some
returns-in_ok-rest-in-Some c =
    let base = c.args.widest.now.base in
    let new = c.in_ok-listing.listing in
    let count = c.in_ok-progress.progress.changes in
    let rest = c.in_ok-rest-in-Some.rest in
    let made = made_of base c.args.listing (lines_now c.in_ok-draft.draft) (lines_now c.change_by_places.new.draft) new count c.in_ok-draft.ensures.lines c.in_ok-listing.ensures c.in_ok-progress.ensures.made in
    handed_over base c.args.listing new rest.listing count rest.changes made c.in_ok-rest-in-Some.ensures

pub tidied_from-requires-clause-reached : goal.tidied_from-requires-clause-reached
tidied_from-requires-clause-reached c =
    let ls = lines_now c.change_by_places.new.draft in
    let marks = subst (λ (o : Option (List Bool)). IfSome o (AreMarks (code_of ls))) c.in-Some.is c.in_ok-progress.ensures.marks in
    subst (λ (l : List ListingLine). AreMarks (code_of l) c.in-Some.marks) (sym c.in_ok-listing.ensures) marks
