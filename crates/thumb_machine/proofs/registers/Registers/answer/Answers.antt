use Rattle.std.proofs.Common.{[], ◌∷◌, ◌∙◌, ap, sym}
use Rattle.std.specs.Prelude.{slice_index}
use Rattle.thumb_model.specs.Effect.{Values, assigned, lr}
use Rattle.thumb_model.specs.States.{all_at, served}
use Rattle.thumb_machine.specs.declared.answers.Asked.{Asked}
use Rattle.thumb_machine.specs.Registers.{values_of}
use Rattle.thumb_machine.specs.Outside.{answer_values, brought}
use Rattle.thumb_machine.proofs.registers.Registers.answer.Goals as goal

pub returns-in-Call : goal.returns-in-Call
returns-in-Call c =
    c.take_words.ensures ∙ ap (λ (v : Values). assigned (all_at served (answer_values c.args.answer.now)) v)
    (c.set.ensures ∙ ap (λ (v : Values). assigned ((lr, slice_index c.args.answer.now.words 5) ∷ []) v) c.set_flags.ensures)
    ∙ ap (λ (a : Asked). assigned (all_at (brought a) (answer_values c.args.answer.now)) (values_of c.args.self.now)) (sym c.in-Call.is)

pub returns-in-Service : goal.returns-in-Service
returns-in-Service c = c.take_words-in-Service.ensures ∙ ap (λ (a : Asked). assigned (all_at (brought a) (answer_values c.args.answer.now)) (values_of c.args.self.now)) (sym c.in-Service.is)
