use Rattle.std.proofs.Common.{◌≡◌, ◌+◌, ◌++◌, ◌∷◌, [], List, ℤ, ap, ◌∙◌, sym, append_assoc, map, drop, arith, rules}
use Rattle.clause_model.specs.Clauses.{number_of}
use Rattle.cnf_gates.proofs.Literals.{AreLiteralsOf-push, map_from}
use Rattle.cnf_gates.proofs.clauses.numbers.Goals as goal

pub loop-literal-preserved : goal.loop-literal-preserved
loop-literal-preserved c =
    let pushed : c.push.new.self.items ≡ c.loop-literal.numbers.items ++ c.number.result ∷ [] = search rules in
    let rest : List ℤ = map number_of (drop (c.loop-literal.literal-index + 1) c.args.literals.now) in
    record {
      done =
          rw pushed
          (append_assoc c.loop-literal.numbers.items (c.number.result ∷ []) rest
          ∙ ap (λ z. c.loop-literal.numbers.items ++ (z ∷ rest)) c.number.ensures.number
          ∙ ap (λ zs. c.loop-literal.numbers.items ++ zs) (sym (map_from number_of c.args.literals.now c.loop-literal.literal-index c.literal-item.result (omega arith) c.literal-item.is))
          ∙ c.loop-literal.invariant.done);
      literals = rw pushed (AreLiteralsOf-push 200000 _ _ c.loop-literal.invariant.literals c.number.ensures.literal);
    }
