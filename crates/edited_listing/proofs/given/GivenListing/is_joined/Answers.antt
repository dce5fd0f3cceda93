use Rattle.std.proofs.Common.{◌∙◌, ◌<◌, ◌-◌, List, suc, false, ap, arith, length, refl, sym, ℕ}
use Rattle.std.specs.Prelude.{slice_get}
use Rattle.std.proofs.lemmas.Option.{slice_get_read}
use Rattle.thumb_model.specs.Listing.{ListingLine, places_of}
use Rattle.window_runs.specs.Rows.{rows_from}
use Rattle.window_runs.proofs.Lengths.{rows_length}
use Rattle.edited_listing.specs.Known.{all_from, joined_at}
use Rattle.edited_listing.proofs.Tables.{breaks_many, joined_between}
use Rattle.edited_listing.proofs.given.GivenListing.is_joined.Goals as goal

pub index-requires : goal.index-requires
index-requires c =
    omega (arith, c.requires.within, ap (λ (ls : List ListingLine). length (places_of ls)) c.self.view_is, rows_length false c.self.inside.listing, breaks_many (rows_from false c.self.inside.listing) 0 0, ap (λ (bs : List ℕ). length bs) c.self.invariant.breaks)

pub returns : goal.returns
returns c =
    let within : c.args.to < length c.self.inside.breaks.items =
    omega (arith, c.requires.within, ap (λ (ls : List ListingLine). length (places_of ls)) c.self.view_is, rows_length false c.self.inside.listing, breaks_many (rows_from false c.self.inside.listing) 0 0, ap (λ (bs : List ℕ). length bs) c.self.invariant.breaks) in
    let at = slice_get_read c.self.inside.breaks.items (length c.self.inside.breaks.items) c.args.to c.index.result.now refl within c.index.ensures in
    joined_between (rows_from false c.self.inside.listing) c.args.from c.args.to c.index.result.now c.requires.order (ap (λ (bs : List ℕ). slice_get bs c.args.to) (sym c.self.invariant.breaks) ∙ at)
    ∙ ap (λ (ls : List ListingLine). all_from (joined_at (rows_from false ls)) (suc c.args.from) (c.args.to - c.args.from)) c.self.view_is
