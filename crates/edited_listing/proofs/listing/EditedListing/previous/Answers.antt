use Rattle.std.proofs.Common.{◌≡◌, ◌<◌, ◌∙◌, List, Bool, ap, false, subst, suc}
use Rattle.std.specs.Prelude.{IfNone, IfSome}
use Rattle.kept_places.specs.Marks.{is_gone, rank}
use Rattle.edited_listing.specs.Edited.{marks}
use Rattle.edited_listing.proofs.listing.EditedListing.previous.Goals as goal

pub returns-clause-some : goal.returns-clause-some
returns-clause-some c =
    subst (λ (ms : List Bool). IfSome c.previous.result (λ q. (q < c.args.place) × (is_gone ms q ≡ false) × (suc (rank ms q) ≡ rank ms c.args.place)))
    (c.self.invariant.marks ∙ ap marks c.self.view_is) c.previous.ensures.some

pub returns-clause-none : goal.returns-clause-none
returns-clause-none c = subst (λ (ms : List Bool). IfNone c.previous.result (rank ms c.args.place ≡ 0)) (c.self.invariant.marks ∙ ap marks c.self.view_is) c.previous.ensures.none
