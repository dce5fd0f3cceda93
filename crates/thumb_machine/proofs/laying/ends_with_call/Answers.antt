use Rattle.std.proofs.Common.{◌≡◌, ◌∙◌, ◌-◌, ℕ, length, ap}
use Rattle.std.specs.Prelude.{slice_get}
use Rattle.thumb_model.specs.Listing.{places_of}
use Rattle.thumb_machine.specs.Returns.{is_call_place}
use Rattle.thumb_machine.proofs.ReturnLemmas.{last_at}
use Rattle.thumb_machine.proofs.laying.ends_with_call.Goals as goal

pub returns : goal.returns
returns c =
    let last : c.saturating_sub.result ≡ length (places_of c.args.listing.now) - 1 = c.saturating_sub.ensures ∙ ap (λ (n : ℕ). n - 1) c.place_count.ensures in
    c.is_call_at.ensures ∙ ap (λ (n : ℕ). is_call_place (slice_get (places_of c.args.listing.now) n)) last ∙ last_at (places_of c.args.listing.now)
