use Rattle.thumb_model.proofs.Worlds.{step_keeps}
use Rattle.thumb_model.proofs.laws.steps_keep_worlds.Goals as goal

pub returns : goal.returns
returns c = λ names code fits s h. step_keeps names fits.return_words code s h
