use Rattle.std.proofs.Common.{◌∙◌, ◌<◌, ◌≡◌, ◌↔◌, List, true, ap, arith, length, refl, subst, sym, ℕ}
use Rattle.std.specs.Prelude.{slice_get, nat_lt}
use Rattle.std.proofs.lemmas.Option.{slice_get_read}
use Rattle.thumb_model.specs.Listing.{ListingLine, labels_from, places_of}
use Rattle.edited_listing.specs.Known.{HasLabelIn}
use Rattle.edited_listing.proofs.Tables.{labels_many, label_between}
use Rattle.edited_listing.proofs.given.GivenListing.has_label.Goals as goal

pub index-requires : goal.index-requires
index-requires c = omega (arith, c.requires, ap (λ (ls : List ListingLine). length (places_of ls)) c.self.view_is, labels_many c.self.inside.listing 0 0, ap (λ (bs : List ℕ). length bs) c.self.invariant.labels)

pub returns : goal.returns
returns c =
    let within : c.args.to < length c.self.inside.labels.items = omega (arith, c.requires, ap (λ (ls : List ListingLine). length (places_of ls)) c.self.view_is, labels_many c.self.inside.listing 0 0, ap (λ (bs : List ℕ). length bs) c.self.invariant.labels) in
    let at = slice_get_read c.self.inside.labels.items (length c.self.inside.labels.items) c.args.to c.index.result.now refl within c.index.ensures in
    subst (λ (ls : List ListingLine). (nat_lt c.args.from c.index.result.now ≡ true) ↔ HasLabelIn (labels_from 0 ls) c.args.from c.args.to) c.self.view_is
    (label_between c.self.inside.listing c.args.from c.args.to c.index.result.now (ap (λ (bs : List ℕ). slice_get bs c.args.to) (sym c.self.invariant.labels) ∙ at))
