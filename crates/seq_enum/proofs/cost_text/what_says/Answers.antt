use Rattle.std.proofs.Common.{◌∙◌, sym}
use Rattle.seq_enum.proofs.CostLines.{blankless, parted, parts_say, says}
use Rattle.seq_enum.proofs.cost_text.what_says.Goals as goal

pub returns-in_default : goal.returns-in_default
returns-in_default c = λ s is e. blankless s c.args.line.now (sym c.blank_in.ensures ∙ c.in_default.is) e

pub returns-in_default-mnemonic_of : goal.returns-in_default-mnemonic_of
returns-in_default-mnemonic_of c = λ s is e.
    let parts = parted c.args.line.now c.in-Some.blank (sym c.blank_in.ensures ∙ c.in-Some.is) in
    c.in_default-mnemonic_of.ensures s.mnemonic is.known (parts_say s _ _ is parts.free (e ∙ parts.whole)).0

pub returns-in-None : goal.returns-in-None
returns-in-None c = λ s is e.
    let parts = parted c.args.line.now c.in-Some.blank (sym c.blank_in.ensures ∙ c.in-Some.is) in
    c.in-None.ensures s.cost is.some is.most (parts_say s _ _ is parts.free (e ∙ parts.whole)).1

pub returns-in-Some-cost_of : goal.returns-in-Some-cost_of
returns-in-Some-cost_of c =
    let parts = parted c.args.line.now c.in-Some.blank (sym c.blank_in.ensures ∙ c.in-Some.is) in
    says c.in-Some-mnemonic_of.mnemonic c.in-Some-cost_of.cost c.args.line.now _ _ parts c.in-Some-mnemonic_of.ensures c.in-Some-cost_of.ensures
