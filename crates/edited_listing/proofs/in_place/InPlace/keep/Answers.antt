use Rattle.std.proofs.Common.{◌∙◌, [], ◌∷◌, map, take, ap, rules, sym}
use Rattle.std.proofs.lemmas.List.{nil_from_length}
use Rattle.listing_parser.specs.Views.{line_view}
use Rattle.edited_listing.specs.Progress.{Progress}
use Rattle.edited_listing.proofs.Progress.{stays_here, waits}
use Rattle.edited_listing.proofs.in_place.InPlace.keep.Goals as goal

pub returns-then-is_empty : goal.returns-then-is_empty
returns-then-is_empty c =
    stays_here (map line_view c.self.inside.lines.items) (map line_view c.move_down.new.lines.items) c.self.inside.waiting.items c.self.inside.done c.self.inside.next c.args.self.now c.self.view_is
    (nil_from_length c.self.inside.waiting.items (search rules)) c.move_down.ensures.moved c.move_down.ensures.behind

pub returns : goal.returns
returns c =
    c.settle.ensures
    ∙ waits c.self.inside.lines.items c.take_out-line.new.lines.items c.self.inside.waiting.items (c.take_out-line.result ∷ []) c.push.new.self.items (take 1 c.args.self.now.left) c.self.inside.done c.self.inside.next c.args.self.now c.self.view_is
    c.self.invariant.before c.take_out-line.ensures.before c.take_out-line.ensures.behind c.in_ok-push.ensures.items (sym c.take_out-line.ensures.taken ∙ ap (λ (p : Progress). take 1 p.left) c.self.view_is)
