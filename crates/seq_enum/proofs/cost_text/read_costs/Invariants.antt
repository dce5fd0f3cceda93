use Rattle.ascii_scan.specs.Source.{lines_left}
use Rattle.seq_enum.proofs.CostReading.{Progress}
use Rattle.seq_enum.proofs.cost_text.read_costs.Given as goal

abbrev pub invariant-loop-line : goal.invariant-loop-line
invariant-loop-line l = Progress l.text (lines_left l.line-iterator) l.kept
