use Rattle.std.proofs.Common.{◌∙◌, true}
use Rattle.std.proofs.lemmas.Bool.{lt-ltb}
use Rattle.kept_places.proofs.Members.{marks_alike}
use Rattle.kept_places.proofs.set.PlaceSet.full.Goals as goal

pub returns : goal.returns
returns c = marks_alike c.args.count c.in_ok-words.words.items true (λ p h. c.in_ok-words.ensures.all p ∙ lt-ltb p c.args.count h)
