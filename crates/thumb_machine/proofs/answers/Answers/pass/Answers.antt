use Rattle.std.proofs.Common.{sym, drop, ap, ◌∙◌}
use Rattle.std.proofs.lemmas.List.{drop-drop}
use Rattle.thumb_machine.specs.declared.answers.Answer.{Answer}
use Rattle.std.specs.Prelude.{List}
use Rattle.thumb_machine.proofs.answers.Answers.pass.Goals as goal

pub returns : goal.returns
returns c = sym (drop-drop 1 c.self.inside.given c.self.inside.list.items) ∙ ap (λ (l : List Answer). drop 1 l) c.self.view_is
