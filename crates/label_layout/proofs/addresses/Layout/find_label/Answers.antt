use Rattle.std.proofs.Common.{◌∙◌, ◌^◌, sym}
use Rattle.label_layout.proofs.Sums.{bounded}
use Rattle.label_layout.proofs.addresses.Layout.find_label.Goals as goal

pub returns-clause-in_code : goal.returns-clause-in_code
returns-clause-in_code c = bounded c.copied.result (2 ^ 29) (λ a e. c.self.invariant.label c.args.name.now a (sym c.get.ensures.value ∙ sym c.copied.ensures ∙ e))
