use Rattle.std.proofs.Common.{◌≡◌, ◌+◌, ◌++◌, ◌∷◌, [], List, ℤ, Vec, Global, ap, ◌∙◌, sym, append_assoc, map, drop, arith}
use Rattle.std.proofs.lemmas.List.{map_push}
use Rattle.clause_model.specs.Clauses.{number_of}
use Rattle.cnf_gates.proofs.Literals.{AreClausesOf-push, map_from}
use Rattle.cnf_gates.proofs.clauses.all_numbers.Goals as goal

pub loop-clause-preserved : goal.loop-clause-preserved
loop-clause-preserved c =
    let done : List (List ℤ) = map (λ (v : Vec ℤ Global). v.items) c.loop-clause.all.items in
    let pushed : map (λ (v : Vec ℤ Global). v.items) c.push.new.self.items ≡ done ++ map number_of c.clause-item.result.now ∷ [] =
    ap (map (λ (v : Vec ℤ Global). v.items)) c.in_ok-push.ensures.items ∙ map_push (λ (v : Vec ℤ Global). v.items) c.loop-clause.all.items c.in_ok-numbers.field-0 ∙ ap (λ (zs : List ℤ). done ++ zs ∷ []) c.in_ok-numbers.ensures.numbers in
    let rest = map (λ d. map number_of d.now) (drop (c.loop-clause.clause-index + 1) c.args.clauses.now) in
    record {
      done =
          rw pushed
          (append_assoc done (map number_of c.clause-item.result.now ∷ []) rest
          ∙ ap (λ zs. done ++ zs) (sym (map_from (λ d. map number_of d.now) c.args.clauses.now c.loop-clause.clause-index c.clause-item.result (omega arith) c.clause-item.is))
          ∙ c.loop-clause.invariant.done);
      literals = rw pushed (AreClausesOf-push 200000 _ _ c.loop-clause.invariant.literals (rw (sym c.in_ok-numbers.ensures.numbers) c.in_ok-numbers.ensures.literals));
    }
