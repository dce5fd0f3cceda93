use Rattle.std.proofs.lemmas.Result.{IfOk-weaker}
use Rattle.flow_tidy.specs.Tidying.{lines_without, ToNext, setting}
use Rattle.flow_tidy.specs.Made.{IsAccepted, IsMade}
use Rattle.flow_tidy.proofs.Making.{made}
use Rattle.flow_tidy.proofs.changing.without_branch.Goals as goal

pub returns : goal.returns
returns c =
    let s = setting c.args.base in
    let here = c.goes_to_next.ensures.0 c.if-not-goes_to_next.false in
    IfOk-weaker c.without.result (IsAccepted s (lines_without s c.args.place c.args.listing.now)) (IsMade s c.args.place 0 c.args.listing.now)
    (λ r a. made s c.args.place ToNext c.args.listing.now r here a) c.without.ensures
