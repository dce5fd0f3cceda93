use Rattle.std.proofs.Common.{◌++◌, List, map, take}
use Rattle.thumb_model.specs.Listing.{Name}
use Rattle.thumb_machine.specs.Words.{AreFixed}
use Rattle.thumb_machine.proofs.laying.add_names.Given as goal

abbrev pub invariant-loop-name : goal.invariant-loop-name
invariant-loop-name l = (known : List Name) → AreFixed l.layout.base l.listing known l.initial.words.entries → AreFixed l.layout.base l.listing (known ++ map (λ name. name.items) (take l.name-index l.names)) l.words.entries
