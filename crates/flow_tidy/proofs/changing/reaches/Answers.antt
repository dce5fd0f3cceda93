use Rattle.std.proofs.Common.{◌≡◌, ◌∙◌, ◌<◌, ◌↔◌, not, Bool, true, false, length, Option, Some, None, refl, sym, ap, arith}
use Rattle.std.specs.Prelude.{is_some, option_map, slice_get}
use Rattle.std.proofs.lemmas.Option.{slice_get_within}
use Rattle.thumb_model.specs.Listing.{places_of}
use Rattle.thumb_model.specs.Layout.{aim_fault, lies_in}
use Rattle.label_layout.specs.Addresses.{addresses_from}
use Rattle.label_layout.specs.Refusals.{fault_of}
use Rattle.label_layout.specs.declared.errors.LayoutFault.{LayoutFault}
use Rattle.label_layout.proofs.Sums.{places_counted}
use Rattle.listing_parser.specs.Parsing.{line_mentioning}
use Rattle.listing_parser.specs.Views.{place_view}
use Rattle.flow_tidy.proofs.Aims.{aims_within}
use Rattle.flow_tidy.proofs.changing.reaches.Goals as goal

none_is : (o : Option LayoutFault) (b : Bool) → is_some o ≡ not b → (b ≡ true) ↔ (option_map fault_of o ≡ None)
none_is None true e = (λ t. refl, λ t. refl)
none_is None false e = absurd (cc)
none_is (Some k) true e = absurd (cc)
none_is (Some k) false e = (λ t. absurd (cc), λ t. absurd (cc))

pub address-requires : goal.address-requires
address-requires c =
    let ls = c.args.listing.now in
    let within : c.args.place < length (places_of ls) = slice_get_within (places_of ls) c.args.place _ (sym c.in-Some-Op.ensures) in
    let same : length c.args.laid.now.places ≡ length (places_of ls) = ap length c.requires.laid.places ∙ places_counted c.args.laid.now.base ls in
    omega arith

pub returns : goal.returns
returns c =
    let ls = c.args.listing.now in
    let base = c.args.laid.now.base in
    let at : slice_get (addresses_from base ls) c.args.place ≡ Some c.address.result = ap (λ xs. slice_get xs c.args.place) (sym c.requires.laid.places) ∙ c.address.ensures.value in
    let stands = sym c.in-Some-Op.ensures ∙ ap (λ x. Some (place_view x)) c.in-Some-Op.field-0-is in
    let within = aims_within line_mentioning c.args.label.now base c.args.place ls _ _ c.address.result stands at c.requires.layable in
    let none = none_is c.aim_fault.result c.is_none.result c.is_none.ensures in
    let same : option_map fault_of c.aim_fault.result ≡ aim_fault c.address.result c.in-Some-Op.instr (lies_in base ls c.args.label.now) 0 = c.aim_fault.ensures ∙ ap (λ to. aim_fault c.address.result c.in-Some-Op.instr to 0) c.target-to.ensures in
    (λ t. within.0 (sym same ∙ none.0 t), λ l. none.1 (same ∙ within.1 l))
