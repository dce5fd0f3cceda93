use Rattle.std.proofs.Common.{take}
use Rattle.thumb_model.specs.Listing.{call_count, places_of}
use Rattle.thumb_machine.specs.Returns.{AreReturns}
use Rattle.thumb_machine.proofs.laying.returns.Given as goal

abbrev pub invariant-loop-place : goal.invariant-loop-place
invariant-loop-place l = AreReturns l.layout.base l.listing (call_count (take l.place (places_of l.listing))) l.words.items
