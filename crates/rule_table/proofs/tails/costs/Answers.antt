use Rattle.std.proofs.Common.{map, ap, subst, sym, ◌∙◌}
use Rattle.std.specs.Prelude.{decimal}
use Rattle.seq_enum.specs.Costs.{AreCosts}
use Rattle.rule_table.specs.Text.{after_blanks}
use Rattle.rule_table.specs.Words.{AreBytes}
use Rattle.rule_table.proofs.ListTexts.{costs_bytes, costs_some, made_list}
use Rattle.rule_table.proofs.tails.costs.Goals as goal

pub returns-in-None : goal.returns-in-None
returns-in-None c = λ ns are e.
    let none = rw c.in-None.is at c.in_ok-bytes_in.ensures in
    none ns (costs_bytes ns are) (costs_some ns are) e

pub returns-in-Some : goal.returns-in-Some
returns-in-Some c =
    let are = rw c.in-Some.is at c.in_ok-bytes_in.ensures in
    let same = c.deref.ensures.0 in
    made_list AreCosts costs_bytes c.args.tail.now c.deref.result.now c.new.result (subst AreBytes (sym same) are.0)
    (ap (λ ns. after_blanks (map decimal ns)) same ∙ are.1) c.new.ensures
