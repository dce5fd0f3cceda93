use Rattle.std.proofs.Common.{◌∙◌, ◌<◌, List, false, ap, arith, length, refl, sym}
use Rattle.std.specs.Prelude.{slice_get}
use Rattle.std.proofs.lemmas.Option.{slice_get_read}
use Rattle.thumb_model.specs.Listing.{ListingLine, places_of}
use Rattle.window_runs.specs.declared.rows.WindowPlace.{WindowPlace}
use Rattle.window_runs.proofs.Lengths.{rows_length}
use Rattle.edited_listing.specs.Edited.{instr_in}
use Rattle.edited_listing.proofs.Joins.{row_instr}
use Rattle.edited_listing.proofs.given.GivenListing.instr.Goals as goal

pub index-requires : goal.index-requires
index-requires c = omega (arith, c.requires, ap (λ (ls : List ListingLine). length (places_of ls)) c.self.view_is, rows_length false c.self.inside.listing, ap (λ (rs : List WindowPlace). length rs) c.self.invariant.rows)

pub returns : goal.returns
returns c =
    let within : c.args.place < length c.self.inside.rows.items = omega (arith, c.requires, ap (λ (ls : List ListingLine). length (places_of ls)) c.self.view_is, rows_length false c.self.inside.listing, ap (λ (rs : List WindowPlace). length rs) c.self.invariant.rows) in
    let at = slice_get_read c.self.inside.rows.items (length c.self.inside.rows.items) c.args.place c.index.result.now refl within c.index.ensures in
    row_instr c.self.inside.listing c.index.result.now false c.args.place (ap (λ (rs : List WindowPlace). slice_get rs c.args.place) (sym c.self.invariant.rows) ∙ at)
    ∙ ap (λ (ls : List ListingLine). instr_in (slice_get (places_of ls) c.args.place)) c.self.view_is
