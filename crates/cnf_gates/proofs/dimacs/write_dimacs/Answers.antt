use Rattle.std.proofs.Common.{◌≡◌, ◌+◌, ◌-◌, ◌++◌, Some, slice_get, string_bytes, drop, append_assoc, ap, sym, ◌∙◌, arith}
use Rattle.std.specs.List.{flat_map}
use Rattle.cnf_gates.specs.Cnf.{clause_line}
use Rattle.cnf_gates.proofs.Text.{drop_from}
use Rattle.cnf_gates.proofs.dimacs.write_dimacs.Goals as goal

pub loop-place-preserved : goal.loop-place-preserved
loop-place-preserved c =
    let same : c.loop-place.place + 1 - 1 ≡ c.loop-place.place = omega arith in
    let here : slice_get c.args.formula.now.clauses c.loop-place.place ≡ Some c.clause.result.now = rw same at c.clause.ensures.clause in
    let rest = flat_map clause_line (drop (c.loop-place.place + 1) c.args.formula.now.clauses) in
    ap (λ bytes. bytes ++ rest) c.in_ok-push_clause.ensures
    ∙ append_assoc (string_bytes c.loop-place.text) (clause_line c.clause.result.now) rest
    ∙ ap (λ left. string_bytes c.loop-place.text ++ flat_map clause_line left) (sym (drop_from c.args.formula.now.clauses c.loop-place.place c.clause.result.now here))
    ∙ c.loop-place.invariant
