use Rattle.std.proofs.Common.{◌≡◌, false, arith, rules}
use Rattle.thumb_model.specs.Naming.{ends_in_call}
use Rattle.listing_parser.specs.Views.{statement_view}
use Rattle.thumb_machine.proofs.Walked.{calls_of}
use Rattle.thumb_machine.proofs.walking.next_call.Goals as goal

pub returns-else-ends_in_call : goal.returns-else-ends_in_call
returns-else-ends_in_call c =
    let none : ends_in_call (statement_view c.args.line.now.statement) ≡ false = search rules in
    let calls = calls_of (statement_view c.args.line.now.statement) false none in
    omega arith
