use Rattle.std.proofs.Common.{arith}
use Rattle.kept_layout.proofs.BuildingAlignments.{whole}
use Rattle.kept_layout.proofs.alignments.common.Goals as goal

pub returns-then-alignment-size-eq0-clause-size : goal.returns-then-alignment-size-eq0-clause-size
returns-then-alignment-size-eq0-clause-size c = whole c.args.alignment c.args.size c.if-alignment-size-eq0.true

pub returns-then-size-alignment-eq0-clause-alignment : goal.returns-then-size-alignment-eq0-clause-alignment
returns-then-size-alignment-eq0-clause-alignment c = whole c.args.size c.args.alignment c.if-size-alignment-eq0.true

pub returns-then-size-alignment-eq0-clause-size : goal.returns-then-size-alignment-eq0-clause-size
returns-then-size-alignment-eq0-clause-size c = (1, omega arith)
