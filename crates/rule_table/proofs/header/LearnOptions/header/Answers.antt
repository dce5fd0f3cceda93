use Rattle.std.proofs.Common.{rules, ◌≡◌, ◌<◌, ◌^◌, sym, subst, arith, true}
use Rattle.std.specs.Prelude.{IfSome}
use Rattle.seq_enum.specs.Costs.{AreCosts}
use Rattle.seq_enum.specs.Alphabet.{is_pool}
use Rattle.rule_table.specs.Header.{IsHeader}
use Rattle.rule_table.proofs.Beginnings.{is_learnt_header}
use Rattle.rule_table.proofs.header.LearnOptions.header.Goals as goal

pub returns-clause-same : goal.returns-clause-same
returns-clause-same c = search rules

pub returns-clause-valid : goal.returns-clause-valid
returns-clause-valid c =
    let o = c.args.self.now in
    let seed : o.seed < 2 ^ 32 = search rules in
    let pool : is_pool o.pool ≡ true = search rules in
    let costs : IfSome c.args.costs AreCosts = search rules in
    subst IsHeader (sym (returns-clause-same c))
    (is_learnt_header o.regs.number o.left.number o.budget.number o.seed o.scratch.number o.pool c.args.costs
    (o.regs.least, omega (arith, o.regs.below)) (o.left.least, omega (arith, o.left.below)) (o.budget.least, omega (arith, o.budget.below)) (omega arith, omega (arith, seed)) (omega arith, omega (arith, o.scratch.below)) pool costs)
