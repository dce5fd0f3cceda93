use Rattle.std.proofs.Common.{◌∙◌, Some, ap, option_map, sym}
use Rattle.thumb_model.specs.Listing.{Place, is_call}
use Rattle.listing_parser.specs.Views.{mention_view, place_view}
use Rattle.thumb_machine.specs.Returns.{is_call_place}
use Rattle.thumb_machine.proofs.ReturnLemmas.{call_returns, has_address}
use Rattle.thumb_machine.proofs.laying.return_word.Goals as goal

pub address-requires : goal.address-requires
address-requires c = has_address c.args.listing.now c.args.layout.now c.args.place c.requires.addresses c.requires.place

pub returns-then-is_call : goal.returns-then-is_call
returns-then-is_call c =
    let same = ap place_view c.in-Some-Op.field-0-is in (
      ap is_call_place (sym c.in-Some-Op.ensures) ∙ ap is_call same ∙ sym c.if-is_call.ensures,
      call_returns c.args.listing.now c.args.layout.now c.args.place c.address.result c.instr_size.result c.in-Some-Op.instr (option_map (λ r. mention_view r.now) c.in-Some-Op.field-0-1) c.requires.addresses
          (ap (λ (x : Place). Some x) (sym same) ∙ c.in-Some-Op.ensures) (sym c.if-is_call.ensures) c.address.ensures.value c.instr_size.ensures,
    )
