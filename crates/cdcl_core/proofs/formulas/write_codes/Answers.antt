use Rattle.std.proofs.Common.{◌≡◌, ◌∙◌, ◌∷◌, ◌++◌, [], List, ℕ, ap, sym, get_or, map, pos, rules, take, w32}
use Rattle.std.proofs.lemmas.Int.{to_z-of_z}
use Rattle.std.proofs.lemmas.List.{map_more}
use Rattle.clause_model.specs.Clauses.{code_of}
use Rattle.cdcl_core.proofs.formulas.write_codes.Goals as goal

pub loop-number-preserved : goal.loop-number-preserved
loop-number-preserved c =
    let number = get_or c.args.numbers.now c.loop-number.number-index (pos 0) in
    let code : c.code.result ≡ code_of number = c.code.ensures ∙ c.from_number-literal.ensures ∙ ap code_of (to_z-of_z w32 number (search rules)) in
    c.in_ok-push.ensures.items ∙ ap (λ (cs : List ℕ). cs ++ c.code.result ∷ []) c.loop-number.invariant ∙ ap (λ (n : ℕ). map code_of (take c.loop-number.number-index c.args.numbers.now) ++ n ∷ []) code
    ∙ sym (map_more code_of c.args.numbers.now c.loop-number.number-index (pos 0) c.loop-number-test.true)
