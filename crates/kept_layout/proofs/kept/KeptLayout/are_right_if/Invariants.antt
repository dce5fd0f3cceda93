use Rattle.std.proofs.Common.{◌≡◌, ◌<◌, ℕ, Some}
use Rattle.std.specs.Prelude.{slice_get}
use Rattle.kept_layout.specs.Moves.{news, IsRightIf}
use Rattle.kept_layout.proofs.kept.KeptLayout.are_right_if.Given as goal

abbrev pub invariant-loop-number : goal.invariant-loop-number
invariant-loop-number l = (i j : ℕ) → i < l.number-index → slice_get l.numbers i ≡ Some j → IsRightIf l.known l.self (news l.self l.bytes l.moved.at.items) l.moved.by j
