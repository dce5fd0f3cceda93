use Rattle.std.proofs.Common.{◌∙◌, map, refl}
use Rattle.listing_parser.specs.Views.{line_view}
use Rattle.edited_listing.proofs.Progress.{waits}
use Rattle.edited_listing.proofs.in_place.InPlace.give_way.Goals as goal

pub returns-clause-lines : goal.returns-clause-lines
returns-clause-lines c =
    c.settle.ensures
    ∙ waits c.self.inside.lines.items c.self.inside.lines.items c.self.inside.waiting.items c.args.new.now.items c.append.new.self.items (map line_view c.args.new.now.items) c.self.inside.done c.self.inside.next c.args.self.now c.self.view_is
    c.self.invariant.before refl refl c.in_ok-append.ensures.items refl
