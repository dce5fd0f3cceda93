use Rattle.code_flow.proofs.Marking.{marks_one}
use Rattle.code_flow.proofs.points.mark.Goals as goal

pub returns-then-is_point-clause-marks : goal.returns-then-is_point-clause-marks
returns-then-is_point-clause-marks c = λ q. rw c.if-is_point.true (marks_one c.args.marks.now.items c.args.place q c.requires)
