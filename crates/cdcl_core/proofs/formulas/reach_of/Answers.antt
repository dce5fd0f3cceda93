use Rattle.std.proofs.Common.{◌∙◌, ap, get_or, pos, w32}
use Rattle.std.proofs.lemmas.Int.{to_z-of_z}
use Rattle.clause_model.specs.Clauses.{code_of}
use Rattle.cdcl_core.proofs.Statements.{reaches_none, reached, fits_literal}
use Rattle.cdcl_core.proofs.formulas.reach_of.Goals as goal

pub loop-number-init : goal.loop-number-init
loop-number-init c = reaches_none c.args.from c.requires.few

pub loop-number-preserved : goal.loop-number-preserved
loop-number-preserved c = reached c.args.numbers.now c.loop-number.number-index c.args.from c.loop-number.reach c.variable-end.result c.max-reach.result c.from_number.result c.loop-number-test.true c.requires.literals (c.from_number.ensures ∙ ap code_of (to_z-of_z w32 (get_or c.args.numbers.now c.loop-number.number-index (pos 0)) (fits_literal (get_or c.args.numbers.now c.loop-number.number-index (pos 0)) (c.requires.literals c.loop-number.number-index (pos 0) c.loop-number-test.true)))) c.variable-end.ensures c.max-reach.ensures c.loop-number.invariant
