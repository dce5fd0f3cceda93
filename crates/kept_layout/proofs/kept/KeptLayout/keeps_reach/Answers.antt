use Rattle.std.proofs.Common.{subst}
use Rattle.std.specs.Prelude.{Contains}
use Rattle.kept_layout.proofs.kept.KeptLayout.keeps_reach.Goals as goal

pub are_right_if-requires-clause-within : goal.are_right_if-requires-clause-within
are_right_if-requires-clause-within c = λ j h. c.requires.laid.absolute_within j (subst (λ xs. Contains xs j) c.deref.ensures.value h)
