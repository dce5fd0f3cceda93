use Rattle.std.proofs.Common.{◌≡◌, None, replicate}
use Rattle.listing_draft.specs.Invariant.{names_of}
use Rattle.listing_draft.proofs.draft.none_aimed.Given as goal

abbrev pub invariant-loop-place : goal.invariant-loop-place
invariant-loop-place l = names_of l.aims.items ≡ replicate l._place None
