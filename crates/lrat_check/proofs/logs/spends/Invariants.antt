use Rattle.std.proofs.Common.{◌≡◌, ◌≢◌, ◌≤◌, [], take, length}
use Rattle.std.specs.Prelude.{All}
use Rattle.lrat_check.specs.Proofs.{additions}
use Rattle.lrat_check.specs.Runs.{contents_of}
use Rattle.lrat_check.proofs.logs.spends.Given as goal

abbrev pub invariant-loop-line : goal.invariant-loop-line
invariant-loop-line l = record {
  count : l.count ≡ length (additions (take l.line-index (contents_of l.log)));
  no_empty : All (λ clause. clause ≢ []) (additions (take l.line-index (contents_of l.log)));
  few : l.count ≤ l.line-index;
}
