use Rattle.std.proofs.Common.{◌≡◌, map}
use Rattle.std.specs.Prelude.{All}
use Rattle.std.specs.List.{AllZip}
use Rattle.rule_table.specs.Views.{header_in, rule_of, table_of}
use Rattle.audit_cli.specs.Trim.{IsTrimmedRule}
use Rattle.audit_cli.proofs.TrimLemmas.{IsReady}
use Rattle.audit_cli.proofs.trim.trimmed_table.Given as goal

abbrev pub invariant-loop-entry : goal.invariant-loop-entry
invariant-loop-entry g l = record {
  ready : All (IsReady (header_in l.fn.table)) (map rule_of l.entry-iterator.rest.items);
  header : header_in l.table ≡ header_in l.fn.table;
  states : (table_of l.table).states ≡ (table_of l.fn.table).states;
  trimmed : AllZip (IsTrimmedRule (header_in l.fn.table)) (map rule_of l.yielded) (map rule_of l.table.entries.items);
}
