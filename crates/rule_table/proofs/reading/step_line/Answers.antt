use Rattle.std.proofs.Common.{◌≡◌, Bool}
use Rattle.std.proofs.lemmas.Result.{IfOk-weaker}
use Rattle.ascii_scan.specs.Source.{line_view}
use Rattle.rule_table.specs.Grammar.{step}
use Rattle.rule_table.specs.ItemView.{item_of}
use Rattle.rule_table.specs.StageView.{stage_of, goes}
use Rattle.rule_table.specs.Steps.{StepsTo}
use Rattle.rule_table.proofs.Progress.{line_steps}
use Rattle.rule_table.proofs.reading.step_line.Goals as goal

pub returns-in-Some : goal.returns-in-Some
returns-in-Some c =
    let s = stage_of c.args.draft.now in
    let t = stage_of c.take.new.self in
    let line = line_view c.args.line in
    let i = item_of c.in-Some.item in
    let says = rw c.in-Some.is at c.in_ok-read_item.ensures in
    IfOk-weaker c.take.result (λ (b : Bool). goes b t ≡ step s i) (λ (b : Bool). StepsTo s line (goes b t)) (λ b e. line_steps s line i (goes b t) c.if-not-line.false says.0 says.1 e) c.take.ensures
