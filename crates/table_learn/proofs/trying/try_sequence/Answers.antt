use Rattle.std.proofs.Common.{◌≡◌, ◌∙◌, sym, map, false}
use Rattle.window_exec.specs.State.{seen}
use Rattle.table_learn.specs.Given.{settings_of}
use Rattle.table_learn.specs.Tellings.{told}
use Rattle.table_learn.proofs.Asking.{told_seen, answered}
use Rattle.table_learn.proofs.trying.try_sequence.Goals as goal
use Rattle.rule_model.proofs.Table.{over_wider}

pub is_told-requires-clause-left : goal.is_told-requires-clause-left
is_told-requires-clause-left g c = over_wider c.args.window.now.k 4 c.args.window.now.left c.requires.few c.requires.left

pub is_told-requires-clause-right : goal.is_told-requires-clause-right
is_told-requires-clause-right g c = over_wider c.args.window.now.k 4 c.args.seq.now c.requires.few c.requires.right

pub returns-then-is_told-clause-found : goal.returns-then-is_told-clause-found
returns-then-is_told-clause-found g c = told_seen c.args.states.now c.args.window.now.left c.args.seq.now c.args.window.now.mask.items.bits ∙ sym c.is_told.ensures.told ∙ c.if-is_told.true

pub returns-clause-found : goal.returns-clause-found
returns-clause-found g c =
    let untold : told (map seen c.args.states.now) c.args.window.now.left c.args.seq.now c.args.window.now.mask.items.bits ≡ false = told_seen c.args.states.now c.args.window.now.left c.args.seq.now c.args.window.now.mask.items.bits ∙ sym c.is_told.ensures.told ∙ c.if-is_told.false in
    answered c.ask.result (settings_of c.args.settings.now) (map seen c.args.states.now) c.args.window.now c.args.seq.now c.requires.counted untold c.ask.ensures.answer
