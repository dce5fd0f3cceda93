use Rattle.std.proofs.Common.{◌≡◌, ◌∙◌, true, false, refl, sym}
use Rattle.thumb_model.specs.Listing.{code_of}
use Rattle.flow_tidy.specs.Tidying.{ToNext, ToEnd}
use Rattle.flow_tidy.proofs.Making.{caused_idle}
use Rattle.flow_tidy.proofs.searching.is_caused.Goals as goal

pub returns-then-goes_to_next : goal.returns-then-goes_to_next
returns-then-goes_to_next c = (λ e. record { cause = ToNext; is = c.goes_to_next.ensures.0 c.if-goes_to_next.true }, λ k. refl)

pub returns-then-has_end : goal.returns-then-has_end
returns-then-has_end c = (λ e. let end = c.has_end.ensures.0 c.if-has_end.true in record { cause = ToEnd end.label; is = end.goes }, λ k. refl)

pub returns : goal.returns
returns c =
    caused_idle (code_of c.args.listing.now) c.args.place c.is_idle.result (λ k. let no : true ≡ false = sym (c.goes_to_next.ensures.1 k) ∙ c.if-goes_to_next.false in absurd (cc))
    (λ k. let no : true ≡ false = sym (c.has_end.ensures.1 k) ∙ c.if-has_end.false in absurd (cc)) c.is_idle.ensures
