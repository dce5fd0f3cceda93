use Rattle.std.proofs.Common.{◌∙◌, ◌≤◌, length, sym}
use Rattle.std.proofs.lemmas.List.{take_all, drop_all}
use Rattle.lrat_check.specs.Live.{clause_at}
use Rattle.lrat_check.proofs.Views.{clause_at-absent, clause_at-present}
use Rattle.lrat_check.proofs.Deletions.{Deleting-begun, Deleting-next, HasSeen-begun, HasSeen-next, never_live, all_deleted, id_at}
use Rattle.lrat_check.proofs.deletion.find_dead.Goals as goal
use Rattle.std.proofs.lemmas.Bool.{not-true}

pub loop-i-init : goal.loop-i-init
loop-i-init c = (HasSeen-begun _ c.new-seen.ensures.empty, (clause_at c.args.live.now, Deleting-begun _ _))

pub returns-then-not-contains_key : goal.returns-then-not-contains_key
returns-then-not-contains_key c =
    let b = c.loop-i-test.true in
    let at = id_at c.args.ids.now c.loop-i.i c.index-ids-i.result c.from-number.result b c.index-ids-i.is (c.from-number.ensures ∙ c.number.ensures.value) in
    never_live _ _ _ _ b c.loop-i.invariant.1.1 (rw at (clause_at-absent c.args.live.now c.from-number.result c.contains_key.result c.contains_key.ensures c.if-not-contains_key.true))

pub loop-i-preserved : goal.loop-i-preserved
loop-i-preserved c =
    let b = c.loop-i-test.true in
    let at = id_at c.args.ids.now c.loop-i.i c.index-ids-i.result c.from-number.result b c.index-ids-i.is (c.from-number.ensures ∙ c.number.ensures.value) in
    let new = not-true _ (sym c.in_ok-insert.ensures.added ∙ c.if-not-branch.false) in (
      HasSeen-next c.loop-i.seen c.insert.new.self c.args.ids.now c.loop-i.i c.from-number.result b at c.in_ok-insert.ensures.updates c.loop-i.invariant.0,
      (
        _,
        Deleting-next _ _ _ _ b c.loop-i.invariant.1.1
            (rw at (clause_at-present c.args.live.now c.from-number.result c.contains_key.result c.contains_key.ensures c.if-not-contains_key.false))
            (rw at (c.loop-i.invariant.0.unseen c.from-number.result new)),
      ),
    )

pub returns : goal.returns
returns c =
    let b : length c.args.ids.now ≤ c.loop-i.i = c.loop-i-test.false in
    all_deleted (clause_at c.args.live.now) c.args.ids.now c.loop-i.invariant.1.0 c.loop-i.i
    (rw (take_all c.loop-i.i c.args.ids.now b, drop_all c.loop-i.i c.args.ids.now b) at c.loop-i.invariant.1.1)
