-- Lines of a trace as the code formats them, piece by piece, are those of the definitions.
use Rattle.std.proofs.Common.{◌≡◌, ◌++◌, ◌∷◌, [], ℕ}
use Rattle.std.specs.Prelude.{codes}
use Rattle.std.specs.Fmt.{decimal}
use Rattle.thumb_machine.specs.declared.position.Stage.{Stage}
use Rattle.thumb_machine.specs.Stages.{stage_word}
use Rattle.audit_cli.specs.Trace.{steps_line}
use Rattle.audit_cli.proofs.RefusalLemmas.{three}

pub steps_line_is : (n : ℕ) (s : Stage) → steps_line n s ≡ codes "steps " ++ (decimal n ++ 32 ∷ (stage_word s ++ 10 ∷ []))
steps_line_is n s = three (codes "steps") (32 ∷ decimal n) (32 ∷ stage_word s)
