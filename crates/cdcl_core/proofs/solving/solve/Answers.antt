use Rattle.std.proofs.Common.{ℕ, ◌+◌, ◌*◌, ◌≤◌, arith}
use Rattle.cdcl_core.proofs.Logs.{budget_within}
use Rattle.cdcl_core.proofs.solving.solve.Goals as goal

-- the steps by a greater number of variables
cost_within : (new old budget width n : ℕ) → new ≤ old + budget * (width + 1) → width ≤ n → new ≤ old + (budget + 1) * (n + 1)
cost_within new old budget width n cost low =
    let within : budget * (width + 1) ≤ (budget + 1) * (n + 1) = budget_within budget width n low in
    omega (arith, within)

pub returns-clause-cost : goal.returns-clause-cost
returns-clause-cost g c = λ n v b. cost_within c.run.new.steps c.args.steps.now c.args.budget c.load.new.self.variables n c.run.ensures.cost (omega (arith, c.in_ok-load.ensures.variables, c.in_ok-solver.ensures.variables, c.reach.ensures.least n v b))

pub returns-in_err-verdict-clause-cost : goal.returns-in_err-verdict-clause-cost
returns-in_err-verdict-clause-cost g c = λ n v b. cost_within c.run.new.steps c.args.steps.now c.args.budget c.load.new.self.variables n c.run.ensures.cost (omega (arith, c.in_ok-load.ensures.variables, c.in_ok-solver.ensures.variables, c.reach.ensures.least n v b))
