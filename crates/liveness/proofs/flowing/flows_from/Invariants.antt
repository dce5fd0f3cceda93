use Rattle.std.proofs.Common.{◌≡◌, ◌+◌, length}
use Rattle.thumb_model.specs.Listing.{code_of}
use Rattle.liveness.specs.Kept.{AreFlowsFrom}
use Rattle.liveness.proofs.flowing.flows_from.Given as goal

abbrev pub invariant-loop-at : goal.invariant-loop-at
invariant-loop-at l = record { len : l.place + length l.flows.items ≡ l.at; flows : AreFlowsFrom (code_of l.listing) l.place l.flows.items }
