use Rattle.std.proofs.Common.{ap}
use Rattle.edited_listing.specs.Progress.{Progress}
use Rattle.edited_listing.proofs.Progress.{next_is}
use Rattle.edited_listing.proofs.in_place.InPlace.next.Goals as goal

pub returns : goal.returns
returns c = next_is c.self.inside.lines.items c.self.inside.next c.index.result.now c.args.self.now.left (ap (λ (p : Progress). p.left) c.self.view_is) c.requires c.index.ensures
