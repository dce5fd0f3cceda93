use Rattle.window_harvest.specs.LimitsOf.{limits_of}
use Rattle.std.proofs.Common.{◌∙◌}
use Rattle.window_harvest.proofs.Pairs.{none_given, none_lies}
use Rattle.window_harvest.proofs.Counts.{counted}
use Rattle.window_harvest.proofs.adding.pair_at.Goals as goal

pub returns-in-None : goal.returns-in-None
returns-in-None c = λ lines spot s. none_given (limits_of c.args.limits) lines spot c.args.window.now c.args.items.bits c.in-None.ensures s

pub returns-in-None-key_of : goal.returns-in-None-key_of
returns-in-None-key_of c = λ lines spot s.
    none_lies (limits_of c.args.limits) lines spot c.args.window.now c.args.items.bits c.in-Some.seq c.in-Some.map c.in-Some.mask.items.bits c.in-Some.ensures.0 c.in-Some.ensures.1 c.in-None-key_of.ensures s

pub key_of-requires-clause-count : goal.key_of-requires-clause-count
key_of-requires-clause-count c =
    c.len.ensures ∙ counted c.args.window.now c.args.items.bits c.in-Some.seq c.in-Some.map c.in-Some.mask.items.bits c.in-Some.ensures.0 c.in-Some.ensures.1
