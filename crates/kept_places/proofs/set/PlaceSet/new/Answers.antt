use Rattle.std.proofs.Common.{◌/◌, ◌+◌, false}
use Rattle.kept_places.proofs.Bits.{none_set}
use Rattle.kept_places.proofs.Members.{marks_alike}
use Rattle.kept_places.proofs.set.PlaceSet.new.Goals as goal

pub returns : goal.returns
returns c = marks_alike c.args.count c.in_ok-words.words.items false (λ p h. none_set (c.args.count / 64 + 1) c.in_ok-words.words.items (c.in_ok-words.ensures.items_if_clones_equal (λ y e. e)) p)
