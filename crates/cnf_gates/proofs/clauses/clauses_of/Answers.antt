use Rattle.std.proofs.Common.{◌≡◌, ◌∙◌, ℕ, ℤ, ◌+◌, ◌*◌, ◌∷◌, [], List, IfOk, map, ap, refl, subst}
use Rattle.clause_model.specs.Clauses.{number_of, negated}
use Rattle.cnf_gates.specs.declared.bit.Gate.TheVariants.{Xor, Ite}
use Rattle.clause_model.proofs.LiteralLaws.{negated-positive}
use Rattle.cnf_gates.specs.Gates.{clauses_of}
use Rattle.cnf_gates.proofs.clauses.clauses_of.Goals as goal

pub returns-in-Xor-clause-clauses : goal.returns-in-Xor-clause-clauses
returns-in-Xor-clause-clauses c =
    let output : ℕ = c.positive-yes.result in
    let not_output : ℕ = c.contrary-no.result in
    let x : ℕ = c.positive-x.result in
    let y : ℕ = c.positive-y.result in
    let not_x : ℕ = c.contrary-not_x.result in
    let not_y : ℕ = c.contrary-not_y.result in
    let not_output_is : not_output ≡ 2 * c.args.output + 1 = c.contrary-no.ensures ∙ ap negated c.positive-yes.ensures ∙ negated-positive c.args.output in
    let not_x_is : not_x ≡ 2 * c.in-Xor.x + 1 = c.contrary-not_x.ensures ∙ ap negated c.positive-x.ensures ∙ negated-positive c.in-Xor.x in
    let not_y_is : not_y ≡ 2 * c.in-Xor.y + 1 = c.contrary-not_y.ensures ∙ ap negated c.positive-y.ensures ∙ negated-positive c.in-Xor.y in
    let are : map (map number_of) ((not_output ∷ x ∷ y ∷ []) ∷ (not_output ∷ not_x ∷ not_y ∷ []) ∷ (output ∷ not_x ∷ y ∷ []) ∷ (output ∷ x ∷ not_y ∷ []) ∷ []) ≡ clauses_of c.args.gate.now c.args.output =
    rw not_output_is (rw not_x_is (rw not_y_is (rw c.positive-yes.ensures (rw c.positive-x.ensures (rw c.positive-y.ensures (rw c.in-Xor.is (refl {a = clauses_of (Xor c.in-Xor.x c.in-Xor.y) c.args.output}))))))) in
    subst (λ (cs : List (List ℤ)). IfOk c.all_numbers-in-Xor.result (λ v. map (λ w. w.items) v.items ≡ cs)) are c.all_numbers-in-Xor.ensures.numbers

pub returns-in-Ite-clause-clauses : goal.returns-in-Ite-clause-clauses
returns-in-Ite-clause-clauses c =
    let output : ℕ = c.positive-yes.result in
    let not_output : ℕ = c.contrary-no.result in
    let on : ℕ = c.positive-c.result in
    let not_on : ℕ = c.contrary-not_c.result in
    let not_output_is : not_output ≡ 2 * c.args.output + 1 = c.contrary-no.ensures ∙ ap negated c.positive-yes.ensures ∙ negated-positive c.args.output in
    let not_on_is : not_on ≡ 2 * c.in-Ite.c + 1 = c.contrary-not_c.ensures ∙ ap negated c.positive-c.ensures ∙ negated-positive c.in-Ite.c in
    let are : map (map number_of) ((not_output ∷ not_on ∷ c.in-Ite.t ∷ []) ∷ (not_output ∷ on ∷ c.in-Ite.e ∷ []) ∷ (output ∷ not_on ∷ c.contrary-in-Ite.result ∷ []) ∷ (output ∷ on ∷ c.contrary-in-Ite-2.result ∷ []) ∷ []) ≡ clauses_of c.args.gate.now c.args.output =
    rw not_output_is (rw not_on_is (rw c.contrary-in-Ite.ensures (rw c.contrary-in-Ite-2.ensures (rw c.positive-yes.ensures (rw c.positive-c.ensures (rw c.in-Ite.is (refl {a = clauses_of (Ite c.in-Ite.c c.in-Ite.t c.in-Ite.e) c.args.output}))))))) in
    subst (λ (cs : List (List ℤ)). IfOk c.all_numbers-in-Ite.result (λ v. map (λ w. w.items) v.items ≡ cs)) are c.all_numbers-in-Ite.ensures.numbers
