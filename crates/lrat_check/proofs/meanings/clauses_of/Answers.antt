use Rattle.std.proofs.Common.{ℕ, List, [], ◌∷◌, ◌++◌, map, take, sym, ◌∙◌, ap}
use Rattle.std.specs.Borrow.{Bor}
use Rattle.std.proofs.lemmas.List.{map_more, map_push}
use Rattle.lrat_check.specs.Ending.{clause_of, slices_in}
use Rattle.lrat_check.proofs.meanings.clauses_of.Goals as goal

pub loop-addition-preserved : goal.loop-addition-preserved
loop-addition-preserved c =
    let before : List (List ℕ) = map clause_of (take c.loop-addition.addition-index c.args.additions.now) in
    ap slices_in c.in_ok-push.ensures.items
    ∙ map_push (λ (s : Bor (List ℕ)). s.now) c.loop-addition.clauses.items c.as_slice.result
    ∙ ap (λ (xs : List (List ℕ)). xs ++ c.as_slice.result.now ∷ []) c.loop-addition.invariant
    ∙ ap (λ (x : List ℕ). before ++ x ∷ []) (c.as_slice.ensures.value ∙ ap clause_of c.addition-item.is)
    ∙ sym (map_more clause_of c.args.additions.now c.loop-addition.addition-index c.addition-item.result c.loop-addition-test.true)
