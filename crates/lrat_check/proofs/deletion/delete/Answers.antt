use Rattle.std.proofs.Common.{◌≤◌, ◌∙◌, ℕ, List, length, subst}
use Rattle.std.proofs.lemmas.List.{take_all}
use Rattle.lrat_check.specs.Live.{clause_at}
use Rattle.lrat_check.specs.Text.{IsAfter}
use Rattle.lrat_check.proofs.Views.{clause_at-remove}
use Rattle.lrat_check.proofs.Deletions.{IsAfter-next, id_at}
use Rattle.lrat_check.proofs.deletion.delete.Goals as goal

pub loop-id-preserved : goal.loop-id-preserved
loop-id-preserved c =
    let e = c.from.ensures ∙ c.number.ensures.value in
    IsAfter-next (clause_at c.args.live.now) (clause_at c.loop-id.live) (clause_at c.remove.new.self) c.args.ids.now c.loop-id.id-index c.from.result c.loop-id-test.true
    (id_at _ _ _ _ c.loop-id-test.true c.id-item.is e) (λ q. clause_at-remove c.loop-id.live c.remove.new.self c.from.result q c.remove.ensures.updates) c.loop-id.invariant

pub returns : goal.returns
returns c =
    let b : length c.args.ids.now ≤ c.loop-id.id-index = c.loop-id-test.false in
    subst (λ (xs : List ℕ). IsAfter (clause_at c.args.live.now) xs (clause_at c.loop-id.live)) (take_all c.loop-id.id-index c.args.ids.now b) c.loop-id.invariant
