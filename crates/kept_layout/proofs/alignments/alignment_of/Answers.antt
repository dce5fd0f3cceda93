use Rattle.kept_layout.proofs.BuildingAlignments.{own_on}
use Rattle.kept_layout.proofs.Together.{divides_on}
use Rattle.kept_layout.proofs.alignments.alignment_of.Goals as goal

pub returns-then-before_literal-clause-behind : goal.returns-then-before_literal-clause-behind
returns-then-before_literal-clause-behind c = divides_on c.args.alignment c.padded_alignment-padded.result c.common.result c.padded_alignment-padded.ensures.behind c.common.ensures.alignment

pub returns-then-before_literal-clause-own : goal.returns-then-before_literal-clause-own
returns-then-before_literal-clause-own c = own_on c.padded_alignment-padded.result c.common.result c.args.head.now c.common.ensures.alignment c.padded_alignment-padded.ensures.own
