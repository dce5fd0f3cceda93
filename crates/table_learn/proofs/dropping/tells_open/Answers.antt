use Rattle.std.proofs.Common.{◌∙◌, sym}
use Rattle.table_learn.specs.Given.{settings_of}
use Rattle.table_learn.proofs.Places.{open_told, open_missing}
use Rattle.table_learn.proofs.dropping.tells_open.Goals as goal
use Rattle.rule_model.proofs.Table.{over_wider}

pub is_told-requires-clause-right : goal.is_told-requires-clause-right
is_told-requires-clause-right g c = over_wider c.args.window.now.k 4 c.in-Some.seq c.requires.few c.in-Some.ensures.over

pub returns-in-Some-clause-told : goal.returns-in-Some-clause-told
returns-in-Some-clause-told g c = λ e l m r.
    open_told (settings_of c.args.settings.now) c.args.found.now c.args.window.now.left c.args.right.now c.args.window.now.mask.items.bits c.args.number c.in-Some.seq c.is_told.result e
    (sym c.in-Some.is ∙ c.below_at.ensures.value) c.is_told.ensures.told l m r

pub returns-in-None-clause-told : goal.returns-in-None-clause-told
returns-in-None-clause-told g c = λ e l m r. open_missing (settings_of c.args.settings.now) c.args.found.now c.args.window.now.left c.args.right.now c.args.number e (sym c.in-None.is ∙ c.below_at.ensures.value) l r
