use Rattle.std.proofs.Common.{refl, rules}
use Rattle.rule_table.specs.Views.{table_of}
use Rattle.audit_cli.proofs.DemoLemmas.{is_demo}
use Rattle.audit_cli.proofs.demo.told.Goals as goal

pub returns : goal.returns
returns g c =
    is_demo c.args.windows c.args.listing (table_of c.args.table.now) (table_of c.args.table.now) c.in_ok-rewriting.rewriting.items c.extend_from_slice-2.new.self.items
    c.requires.made c.requires.learnt refl c.in_ok-rewriting.ensures (search rules)
