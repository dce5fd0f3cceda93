use Rattle.std.proofs.Common.{ℕ, ◌+◌, ◌∙◌, List, length, sym, ap}
use Rattle.table_learn.proofs.TextLengths.{number_line}
use Rattle.table_learn.proofs.lengths.number_length.Goals as goal

pub returns-clause-value : goal.returns-clause-value
returns-clause-value c = ap (λ (t : List ℕ). length t + 6) c.format.ensures.text ∙ sym (number_line c.args.number)
