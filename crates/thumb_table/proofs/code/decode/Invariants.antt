use Rattle.std.proofs.Common.{◌≡◌, ℕ, ◌/◌, ◌<◌, Some}
use Rattle.std.specs.Prelude.{slice_get}
use Rattle.thumb_instr.specs.declared.kind.Kind.{Kind}
use Rattle.thumb_table.specs.Kinds.{kinds_at}
use Rattle.thumb_table.specs.Decoding.{IsNotOf}
use Rattle.thumb_table.proofs.code.decode.Given as goal

abbrev pub invariant-loop-kind : goal.invariant-loop-kind
invariant-loop-kind l = (j : ℕ) (k : Kind) → j < l.kind-index → slice_get (kinds_at (l.first / 4096)) j ≡ Some k → IsNotOf k l.first l.second
