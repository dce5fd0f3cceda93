use Rattle.std.proofs.Common.{◌≡◌, ◌+◌, ◌≤◌, map, drop}
use Rattle.listing_parser.specs.Views.{line_view}
use Rattle.audit_cli.specs.Rewrite.{instruction_count}
use Rattle.audit_cli.proofs.steps.instruction_count.Given as goal

abbrev pub invariant-loop-line : goal.invariant-loop-line
invariant-loop-line l = record {
  counted : l.count + instruction_count (map line_view (drop l.line-index l.lines)) ≡ instruction_count (map line_view l.lines);
  few : l.count ≤ l.line-index;
}
