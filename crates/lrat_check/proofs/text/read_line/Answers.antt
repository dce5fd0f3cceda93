use Rattle.std.proofs.Common.{refl, ◌==◌}
use Rattle.std.specs.List.{slice_split}
use Rattle.std.proofs.lemmas.Result.{IfOk-weaker}
use Rattle.lrat_check.proofs.Outcomes.{text_outcome}
use Rattle.lrat_check.proofs.text.read_line.Goals as goal

pub returns : goal.returns
returns c = IfOk-weaker c.line_of.result _ _ (λ line. text_outcome line (slice_split (λ b. b == 32) c.args.bytes.now) c.args.bytes.now refl) c.line_of.ensures
