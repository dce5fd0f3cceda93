use Rattle.std.proofs.Common.{map}
use Rattle.std.specs.Prelude.{All}
use Rattle.std.specs.List.{AllZip}
use Rattle.rule_table.specs.Views.{family_of, header_in, table_of}
use Rattle.audit_cli.specs.Ready.{IsRaised}
use Rattle.audit_cli.specs.Trim.{IsTrimmedFamily}
use Rattle.audit_cli.proofs.trim.trimmed_families.Given as goal

abbrev pub invariant-loop-family : goal.invariant-loop-family
invariant-loop-family g l = record {
  ready : All (IsRaised (header_in l.table) (table_of l.table).rules) (map family_of l.family-iterator.rest.items);
  trimmed : AllZip (IsTrimmedFamily (header_in l.table) (table_of l.table).rules) (map family_of l.yielded) (map family_of l.all.items);
}
