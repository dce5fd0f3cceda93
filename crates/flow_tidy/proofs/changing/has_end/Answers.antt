use Rattle.std.proofs.Common.{◌≡◌, ◌↔◌, ◌∙◌, Bool, true, sym, subst}
use Rattle.std.specs.Prelude.{option_map}
use Rattle.thumb_model.specs.Listing.{code_of}
use Rattle.flow_tidy.specs.DuePlaces.{HasEnd}
use Rattle.flow_tidy.proofs.Making.{has_end_is, same_some}
use Rattle.flow_tidy.proofs.changing.has_end.Goals as goal

pub returns : goal.returns
returns c =
    let code = code_of c.args.listing.now in
    let is = has_end_is code c.args.place c.in-Some.label.now (option_map (λ r. r.now) c.chain_end.result) (sym c.in-Some.ensures) c.chain_end.ensures in
    subst (λ (b : Bool). (b ≡ true) ↔ HasEnd code c.args.place) (same_some (λ r. r.now) c.chain_end.result ∙ sym c.is_some.ensures) is
