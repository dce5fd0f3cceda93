use Rattle.std.proofs.Common.{◌≡◌, drop}
use Rattle.std.specs.List.{list_all}
use Rattle.thumb_model.specs.Listing.{labels_from, places_of}
use Rattle.thumb_machine.specs.Fitting.{is_outside}
use Rattle.thumb_machine.specs.Laid.{place_name}
use Rattle.thumb_machine.specs.Naming.{naming_of}
use Rattle.thumb_machine.proofs.naming.Naming.are_outside.Given as goal

abbrev pub invariant-loop-place : goal.invariant-loop-place
invariant-loop-place l = list_all (λ x. is_outside (naming_of l.self) (labels_from 0 l.listing) (place_name x)) (drop l.place (places_of l.listing))
    ≡ list_all (λ x. is_outside (naming_of l.self) (labels_from 0 l.listing) (place_name x)) (places_of l.listing)
