use Rattle.std.proofs.Common.{◌≡◌, ◌<◌, false, subst, suc}
use Rattle.std.specs.Prelude.{IfNone, IfSome}
use Rattle.kept_places.specs.Marks.{is_gone, rank}
use Rattle.listing_draft.specs.Drafted.{Drafted}
use Rattle.listing_draft.proofs.draft.Draft.previous.Goals as goal

pub returns-clause-some : goal.returns-clause-some
returns-clause-some c =
    subst (λ (d : Drafted). IfSome c.previous.result (λ q. (q < c.args.place) × (is_gone d.gone q ≡ false) × (suc (rank d.gone q) ≡ rank d.gone c.args.place))) c.self.view_is c.previous.ensures.some

pub returns-clause-none : goal.returns-clause-none
returns-clause-none c = subst (λ (d : Drafted). IfNone c.previous.result (rank d.gone c.args.place ≡ 0)) c.self.view_is c.previous.ensures.none
