use Rattle.std.proofs.Common.{◌∙◌, arith, sym}
use Rattle.thumb_model.specs.Listing.{code_of, places_of}
use Rattle.thumb_model.specs.Naming.{points}
use Rattle.thumb_machine.specs.Naming.{naming_of}
use Rattle.thumb_machine.specs.Walking.{points_from}
use Rattle.thumb_machine.proofs.RisingLemmas.{apart_all, rising_apart}
use Rattle.thumb_machine.proofs.Walked.{walked}
use Rattle.thumb_machine.proofs.naming.Naming.rises.Goals as goal

pub returns : goal.returns
returns c = λ up.
    let names = naming_of c.args.self.now in
    let lines = c.args.listing.now in
    apart_all (points names (code_of lines)) (points_from names (places_of lines) 0 0 lines) (λ f. walked f names lines)
    ∙ rising_apart _ (points_from names (places_of lines) 0 0 lines) (omega arith) (sym c.points_pass.ensures ∙ up)
