use Rattle.std.proofs.Common.{◌∙◌, ◌+◌, ◌&&◌, drop, sym, ap}
use Rattle.std.specs.List.{list_all}
use Rattle.thumb_model.specs.Listing.{Place, labels_from, places_of}
use Rattle.listing_parser.specs.Views.{place_view}
use Rattle.thumb_machine.specs.Fitting.{is_outside}
use Rattle.thumb_machine.specs.Laid.{place_name}
use Rattle.thumb_machine.specs.Naming.{naming_of}
use Rattle.thumb_machine.proofs.FitLemmas.{tests_more}
use Rattle.thumb_machine.proofs.naming.Naming.are_outside.Goals as goal

pub returns-then-not-mentions_outside : goal.returns-then-not-mentions_outside
returns-then-not-mentions_outside c =
    let out = λ (x : Place). is_outside (naming_of c.args.self.now) (labels_from 0 c.args.listing.now) (place_name x) in
    let all = list_all out (drop (c.loop-place.place + 1) (places_of c.args.listing.now)) in
    let more = tests_more out (places_of c.args.listing.now) c.loop-place.place (place_view c.in-Some.found) (sym c.in-Some.ensures) in
    ap (λ b. b && all) (sym c.if-not-mentions_outside.true ∙ c.mentions_outside.ensures) ∙ sym more ∙ c.loop-place.invariant

pub loop-place-preserved : goal.loop-place-preserved
loop-place-preserved c =
    let out = λ (x : Place). is_outside (naming_of c.args.self.now) (labels_from 0 c.args.listing.now) (place_name x) in
    let all = list_all out (drop (c.loop-place.place + 1) (places_of c.args.listing.now)) in
    let more = tests_more out (places_of c.args.listing.now) c.loop-place.place (place_view c.in-Some.found) (sym c.in-Some.ensures) in
    ap (λ b. b && all) (sym c.if-not-mentions_outside.false ∙ c.mentions_outside.ensures) ∙ sym more ∙ c.loop-place.invariant
