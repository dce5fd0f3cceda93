use Rattle.std.proofs.Common.{◌≡◌, true, false, map, refl, rules}
use Rattle.std.specs.Prelude.{slice_get}
use Rattle.thumb_model.specs.Listing.{is_op_place, places_of}
use Rattle.thumb_machine.specs.Naming.{naming_of}
use Rattle.thumb_machine.proofs.PointsMade.{labels_code, labels_data}
use Rattle.thumb_machine.proofs.naming.Naming.labels_pass.Goals as goal

pub returns-then-not-is_op : goal.returns-then-not-is_op
returns-then-not-is_op g c = λ rest.
    let none : is_op_place (slice_get (places_of c.args.listing.now) c.args.place) ≡ false = search rules in
    rw (labels_data (naming_of c.args.self.now) (places_of c.args.listing.now) c.args.place (map (λ name. name.items) c.args.names.now) none) refl

pub returns : goal.returns
returns g c =
    let code : is_op_place (slice_get (places_of c.args.listing.now) c.args.place) ≡ true = search rules in
    rw (labels_code (naming_of c.args.self.now) (places_of c.args.listing.now) c.args.place (map (λ name. name.items) c.args.names.now) code) c.names_pass.ensures
