use Rattle.ascii_scan.specs.Source.{lines_left}
use Rattle.rule_table.specs.StageView.{stage_of}
use Rattle.rule_table.proofs.Progress.{Progress}
use Rattle.rule_table.proofs.reading.read_table.Given as goal

abbrev pub invariant-loop-line : goal.invariant-loop-line
invariant-loop-line l = Progress l.text (lines_left l.line-iterator) (stage_of l.draft) l.number
