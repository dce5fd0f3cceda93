use Rattle.std.proofs.Common.{[], ◌∷◌, ◌∙◌, ap}
use Rattle.std.specs.Prelude.{slice_index}
use Rattle.thumb_model.specs.Effect.{Values, assigned}
use Rattle.thumb_machine.proofs.registers.Registers.take_words.Goals as goal

pub returns : goal.returns
returns c =
    c.set-5.ensures ∙ ap (λ (v : Values). assigned ((0, slice_index c.args.answer.now.words 0) ∷ []) v)
    (c.set-4.ensures ∙ ap (λ (v : Values). assigned ((1, slice_index c.args.answer.now.words 1) ∷ []) v)
    (c.set-3.ensures ∙ ap (λ (v : Values). assigned ((2, slice_index c.args.answer.now.words 2) ∷ []) v)
    (c.set-2.ensures ∙ ap (λ (v : Values). assigned ((3, slice_index c.args.answer.now.words 3) ∷ []) v) c.set.ensures)))
