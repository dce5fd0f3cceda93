use Rattle.std.proofs.Common.{◌∙◌, sym}
use Rattle.liveness.proofs.Jumps.{return_noted, returns_on}
use Rattle.liveness.proofs.graph.note_return.Goals as goal

pub returns-in_ok-push : goal.returns-in_ok-push
returns-in_ok-push c = record { returns = return_noted c.args._ways.now c.args.place c.args.returns.now.items c.push.new.self.items c.in_ok-push.ensures.items c.requires.returns }

pub returns-else-is_one : goal.returns-else-is_one
returns-else-is_one c = record { returns = returns_on c.args._ways.now c.args.place c.args.returns.now.items (sym c.requires.is_one ∙ c.if-is_one.false) c.requires.returns }
