use Rattle.std.proofs.Common.{◌∙◌, eqb-true, sym, true≢false}
use Rattle.thumb_model.specs.Listing.{code_of}
use Rattle.thumb_machine.specs.Naming.{naming_of}
use Rattle.thumb_machine.proofs.FitLemmas.{fit_apart, fit_code, fit_outside, fits}
use Rattle.std.proofs.lemmas.Bool.{and_parts}
use Rattle.thumb_machine.proofs.naming.Naming.fits.Goals as goal

pub returns-then-not-are_code : goal.returns-then-not-are_code
returns-then-not-are_code c = (
  λ e. absurd (true≢false (sym e)),
  λ fit. sym c.if-not-are_code.true ∙ c.are_code.ensures ∙ fit_code (naming_of c.args.self.now) (code_of c.args.listing.now) fit,
)

pub returns-then-not-are_distinct : goal.returns-then-not-are_distinct
returns-then-not-are_distinct c = (
  λ e. absurd (true≢false (sym e)),
  λ fit. sym c.if-not-are_distinct.true ∙ c.are_distinct.ensures ∙ fit_apart (naming_of c.args.self.now) (code_of c.args.listing.now) fit,
)

pub returns : goal.returns
returns c = (
  λ e.
      let evens = and_parts _ _ (sym c.is_even.ensures ∙ c.if-not-is_even.false) in
      fits (naming_of c.args.self.now) (code_of c.args.listing.now) c.words_fit.ensures.names c.words_fit.ensures.calls (eqb-true _ _ evens.0) (eqb-true _ _ evens.1)
      (sym c.are_code.ensures ∙ c.if-not-are_code.false) (sym c.are_distinct.ensures ∙ c.if-not-are_distinct.false) (sym c.are_outside.ensures ∙ e),
  λ fit. c.are_outside.ensures ∙ fit_outside (naming_of c.args.self.now) (code_of c.args.listing.now) fit,
)
