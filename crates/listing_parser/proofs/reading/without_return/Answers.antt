use Rattle.std.proofs.Common.{◌∙◌, ap, sym}
use Rattle.listing_parser.specs.Grammar.{without_return}
use Rattle.listing_parser.proofs.ReadingLemmas.{last_return, last_other}
use Rattle.listing_parser.proofs.reading.without_return.Goals as goal

pub returns-then-last-eq13 : goal.returns-then-last-eq13
returns-then-last-eq13 c = sym (ap without_return c.in-Some.ensures.cases.0 ∙ last_return c.in-Some.front.now c.in-Some.last.now c.if-last-eq13.true)

pub returns-else-last-eq13 : goal.returns-else-last-eq13
returns-else-last-eq13 c = c.in-Some.ensures.cases.0 ∙ sym (ap without_return c.in-Some.ensures.cases.0 ∙ last_other c.in-Some.front.now c.in-Some.last.now c.if-last-eq13.false)
