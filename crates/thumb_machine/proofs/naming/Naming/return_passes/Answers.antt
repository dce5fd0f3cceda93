use Rattle.std.proofs.Common.{◌≡◌, false, refl, rules}
use Rattle.thumb_model.specs.Naming.{ends_in_call}
use Rattle.listing_parser.specs.Views.{statement_view}
use Rattle.thumb_machine.specs.Naming.{naming_of}
use Rattle.thumb_machine.proofs.Walked.{return_of}
use Rattle.thumb_machine.proofs.naming.Naming.return_passes.Goals as goal

pub returns-then-not-ends_in_call : goal.returns-then-not-ends_in_call
returns-then-not-ends_in_call g c = λ rest.
    let none : ends_in_call (statement_view c.args.line.now.statement) ≡ false = search rules in
    rw (return_of (naming_of c.args.self.now) c.args.call c.args.place (statement_view c.args.line.now.statement) false none) refl
