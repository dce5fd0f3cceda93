use Rattle.std.proofs.Common.{inl, inr}
use Rattle.thumb_model.specs.Listing.{code_of}
use Rattle.liveness.proofs.Jumps.{leads_told}
use Rattle.liveness.proofs.Waits.{more_on}
use Rattle.liveness.proofs.settling.tell_leading.Goals as goal

pub returns-clause-more : goal.returns-clause-more
returns-clause-more c = more_on c.args.waiting.now c.tell_before.new.waiting c.tell_callers.new.waiting c.in_ok-tell_before.ensures.more c.in_ok-tell_callers.ensures.more

pub returns-clause-told : goal.returns-clause-told
returns-clause-told c = λ q h. elim (leads_told (code_of c.args._listing.now) c.args.ways.now c.args.place q c.requires.ways h) [
  | inl e ↦ c.in_ok-tell_callers.ensures.more.kept q (c.in_ok-tell_before.ensures.told q e h)
  | inr j ↦ c.in_ok-tell_callers.ensures.told q j
]
