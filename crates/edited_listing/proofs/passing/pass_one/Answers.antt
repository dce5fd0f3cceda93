use Rattle.std.proofs.Common.{subst, Bool, List}
use Rattle.kept_places.specs.Marks.{IsNode}
use Rattle.edited_listing.proofs.Rest.{pass_kept, pass_end}
use Rattle.edited_listing.proofs.passing.pass_one.Goals as goal

pub returns-then-place-stands-clause-rest : goal.returns-then-place-stands-clause-rest
returns-then-place-stands-clause-rest c =
    pass_kept c.args.from c.node-place.result c.args.stands.now (subst (λ (ms : List Bool). IsNode ms c.args.from c.node-place.result) c.requires.marks c.node-place.ensures.node) c.if-place-stands.true

pub returns-else-place-stands-clause-rest : goal.returns-else-place-stands-clause-rest
returns-else-place-stands-clause-rest c =
    pass_end c.args.from c.node-place.result c.args.stands.now (subst (λ (ms : List Bool). IsNode ms c.args.from c.node-place.result) c.requires.marks c.node-place.ensures.node) c.if-place-stands.false
