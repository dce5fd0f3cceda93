use Rattle.std.proofs.Common.{◌≤◌, List, ℕ, [], ◌∷◌, ◌++◌, length, take, sym, ◌∙◌, ap, arith, Vec}
use Rattle.std.specs.Global.{Global}
use Rattle.std.proofs.lemmas.List.{map_push, take_more}
use Rattle.clause_model.specs.Clauses.{codes_of}
use Rattle.lrat_check.specs.Ending.{literals_in}
use Rattle.lrat_check.proofs.Starts.{code_at, all_codes}
use Rattle.lrat_check.proofs.meanings.given_clauses.Goals as goal

pub loop-i-preserved : goal.loop-i-preserved
loop-i-preserved c =
    let codes : List (List ℕ) = codes_of c.args.formula.now.clauses in
    let literals : List ℕ = c.in_ok-literals_of.field-0.items in
    let at = code_at c.args.formula.now.clauses c.loop-i.i c.clause.result.now literals c.clause.ensures.clause c.in_ok-literals_of.ensures in
    ap literals_in c.in_ok-push.ensures.items
    ∙ map_push (λ (v : Vec ℕ Global). v.items) c.loop-i.given.items c.in_ok-literals_of.field-0
    ∙ ap (λ (xs : List (List ℕ)). xs ++ literals ∷ []) c.loop-i.invariant
    ∙ sym (take_more codes c.loop-i.i literals at.0 ∙ ap (λ (x : List ℕ). take c.loop-i.i codes ++ x ∷ []) at.1)

pub returns : goal.returns
returns c =
    let b : length c.args.formula.now.clauses ≤ c.loop-i.i = omega (arith, c.clauses-i-end.ensures) in
    c.loop-i.invariant ∙ all_codes c.args.formula.now.clauses c.loop-i.i b
