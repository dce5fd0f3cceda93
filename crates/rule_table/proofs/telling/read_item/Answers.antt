use Rattle.std.proofs.Common.{sym}
use Rattle.std.proofs.lemmas.Result.{IfOk-weaker}
use Rattle.rule_table.specs.Told.{Tells, Says}
use Rattle.rule_table.proofs.ToldLemmas.{no_front, says}
use Rattle.rule_table.proofs.telling.read_item.Goals as goal

pub returns-in-None : goal.returns-in-None
returns-in-None c = no_front c.args.line.now (sym c.in-None.ensures)

pub returns-in-Some : goal.returns-in-Some
returns-in-Some c =
    IfOk-weaker c.told.result (Tells c.in-Some.word c.in-Some.tail.now) (Says c.args.line.now) (λ o h. says c.args.line.now c.in-Some.word c.in-Some.tail.now o (sym c.in-Some.ensures) h) c.told.ensures
