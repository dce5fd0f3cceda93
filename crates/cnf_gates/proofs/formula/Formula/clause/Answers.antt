use Rattle.std.proofs.Common.{◌≡◌, ◌-◌, ◌<◌, ℤ, Vec, Global, length, map, ap, arith}
use Rattle.std.proofs.lemmas.List.{length-map}
use Rattle.cnf_gates.specs.Cnf.{Cnf, AreLiterals}
use Rattle.cnf_gates.proofs.Literals.{AreLiteralsOf-All, AreClausesOf-get_or}
use Rattle.cnf_gates.proofs.formula.Formula.clause.Goals as goal

pub returns-clause-literals : goal.returns-clause-literals
returns-clause-literals c =
    let same : length (map (λ (v : Vec ℤ Global). v.items) c.self.inside.clauses.items) ≡ length c.args.self.now.clauses = ap (λ (f : Cnf). length f.clauses) c.self.view_is in
    let within : c.args.number - 1 < length c.self.inside.clauses.items = omega (arith, same, length-map c.self.inside.clauses.items (λ (v : Vec ℤ Global). v.items)) in
    let valid : AreLiterals (c.index.result.now).items = rw c.index.ensures (AreClausesOf-get_or 200000 (λ (v : Vec ℤ Global). v.items) c.self.inside.clauses.items (c.args.number - 1) c.index.result.now within c.self.invariant.1) in
    AreLiteralsOf-All 200000 c.as_slice.result.now (rw c.as_slice.ensures.value valid)
