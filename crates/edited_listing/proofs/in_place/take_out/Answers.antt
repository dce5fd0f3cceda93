use Rattle.std.proofs.Common.{◌∙◌, [], ◌∷◌, ap, sym}
use Rattle.listing_parser.specs.Views.{line_view}
use Rattle.edited_listing.proofs.Progress.{taken}
use Rattle.edited_listing.proofs.in_place.take_out.Goals as goal

pub returns-clause-taken : goal.returns-clause-taken
returns-clause-taken c = taken c.args.lines.now.items c.args.at c.index_mut.result.now c.requires c.index_mut.ensures.value ∙ ap (λ x. line_view x ∷ []) (sym c.replace.ensures.value)
