use Rattle.std.proofs.Common.{◌<◌, ◌∙◌, List, Some, ap, refl, length, arith}
use Rattle.std.proofs.lemmas.Option.{slice_get_read}
use Rattle.std.specs.Prelude.{slice_get}
use Rattle.thumb_model.specs.Listing.{ListingLine, places_of}
use Rattle.edited_listing.specs.Edited.{Edited, instr_in, padded}
use Rattle.edited_listing.proofs.Instrs.{instr_given, instr_gone, instr_new}
use Rattle.edited_listing.proofs.listing.EditedListing.instr.Goals as goal

pub returns-in-Given : goal.returns-in-Given
returns-in-Given c =
    let within : c.args.place < length c.self.inside.stands.items = omega (arith, c.requires, ap (λ (e : Edited). length e.stands) c.self.view_is) in
    let at = slice_get_read c.self.inside.stands.items (length c.self.inside.stands.items) c.args.place c.index.result.now refl within c.index.ensures ∙ ap (λ s. Some s) c.in-Given.is in
    c.instr_in.ensures ∙ ap instr_in (c.place.ensures ∙ ap (λ (ls : List ListingLine). slice_get (places_of ls) c.args.place) c.listing.ensures) ∙ instr_given c.self.inside.stands.items (places_of c.self.inside.listing) c.args.place c.self.invariant.edited.as_many at ∙ ap (λ (e : Edited). instr_in (slice_get (padded e).places c.args.place)) c.self.view_is

pub returns-in-Gone : goal.returns-in-Gone
returns-in-Gone c =
    let within : c.args.place < length c.self.inside.stands.items = omega (arith, c.requires, ap (λ (e : Edited). length e.stands) c.self.view_is) in
    let at = slice_get_read c.self.inside.stands.items (length c.self.inside.stands.items) c.args.place c.index.result.now refl within c.index.ensures ∙ ap (λ s. Some s) c.in-Gone.is in
    instr_gone c.self.inside.stands.items (places_of c.self.inside.listing) c.args.place c.self.invariant.edited.as_many at ∙ ap (λ (e : Edited). instr_in (slice_get (padded e).places c.args.place)) c.self.view_is

pub returns-in-New : goal.returns-in-New
returns-in-New c =
    let within : c.args.place < length c.self.inside.stands.items = omega (arith, c.requires, ap (λ (e : Edited). length e.stands) c.self.view_is) in
    let at = slice_get_read c.self.inside.stands.items (length c.self.inside.stands.items) c.args.place c.index.result.now refl within c.index.ensures ∙ ap (λ s. Some s) c.in-New.is in
    c.window_instr.ensures ∙ instr_new c.self.inside.stands.items (places_of c.self.inside.listing) c.args.place c.in-New.instr c.in-New.home c.self.invariant.edited.as_many at ∙ ap (λ (e : Edited). instr_in (slice_get (padded e).places c.args.place)) c.self.view_is
