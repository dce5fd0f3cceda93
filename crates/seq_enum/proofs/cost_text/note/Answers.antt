use Rattle.std.proofs.Common.{◌∙◌, sym, ap, get_or, None}
use Rattle.std.proofs.lemmas.Bool.{false≢true}
use Rattle.std.specs.Option.{is_some}
use Rattle.seq_enum.specs.declared.cost_text.Said.{Said}
use Rattle.seq_enum.proofs.CostLines.{lines_tell}
use Rattle.seq_enum.proofs.cost_text.note.Goals as goal

pub returns-then-is_some : goal.returns-then-is_some
returns-then-is_some c = λ s says fresh.
    let same = lines_tell s c.in-Some.said says.valid c.in-Some.ensures.0 (says.is ∙ sym c.in-Some.ensures.1) in
    let at = ap (λ (t : Said). is_some (get_or c.args.costs.now t.mnemonic None)) same in
    false≢true (sym (ap is_some fresh) ∙ at ∙ sym c.if-is_some.ensures)
