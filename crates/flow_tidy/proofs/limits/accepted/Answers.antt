use Rattle.std.proofs.Common.{refl, subst}
use Rattle.listing_parser.specs.Grammar.{longest_line, most_lines}
use Rattle.flow_tidy.specs.Made.{AreWithin}
use Rattle.flow_tidy.proofs.limits.accepted.Goals as goal

pub returns-in-Ok : goal.returns-in-Ok
returns-in-Ok c =
    let within = subst (AreWithin most_lines longest_line) c.lines.ensures (c.are_within_limits.ensures.0 c.if-not-are_within_limits.false) in
    (record { layable = c.in-Ok.ensures.verdict; few = within.0; short = within.1 }, (refl, (c.in-Ok.ensures.laid, c.in-Ok.ensures.base)))
