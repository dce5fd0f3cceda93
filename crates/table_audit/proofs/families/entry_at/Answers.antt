use Rattle.std.proofs.Common.{◌-◌, ◌∙◌, map, sym, arith}
use Rattle.rule_table.specs.Views.{rule_of}
use Rattle.table_audit.proofs.Raising.{found_there, entry_there}
use Rattle.table_audit.proofs.families.entry_at.Goals as goal

pub returns : goal.returns
returns c =
    found_there rule_of c.args.entries.now (c.args.number - 1) c.get.result c.get.ensures.lookup.3 ∙ sym (entry_there (map rule_of c.args.entries.now) c.args.number (omega arith))
