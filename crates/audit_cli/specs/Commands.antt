-- The commands' structs of the code, as the arguments of the definitions.
use Rattle.std.specs.Prelude.{None}
use Rattle.audit_cli.specs.declared.steps.Counts.{Counts as Counted}
use Rattle.audit_cli.specs.declared.rewrite.Rewrite.{Rewrite}
use Rattle.audit_cli.specs.Rewrite.{Counts, Destination}
use Rattle.audit_cli.specs.declared.export.Export.{Export}
use Rattle.audit_cli.specs.Tables.{ExportArguments}
use Rattle.audit_cli.specs.declared.learn.Learn.{Learn}
use Rattle.audit_cli.specs.declared.learn.LearnByCosts.{LearnByCosts}
use Rattle.table_learn.specs.Learnt.{Settings}
use Rattle.audit_cli.specs.Learn.{LearnArguments}
use Rattle.audit_cli.specs.declared.trace.Trace.{Trace}
use Rattle.audit_cli.specs.Trace.{TraceArguments}
use Rattle.audit_cli.specs.declared.generalising.Generalise.{Generalise}
use Rattle.rule_table.specs.Views.{learnt_by}
use Rattle.rule_table.specs.Table.{Family}
use Rattle.audit_cli.specs.Generalise.{wanted}

abbrev pub destination_of : Rewrite → Destination
destination_of r = record { out = r.out.now; image = r.image.now; base = r.base.address }

abbrev pub counts_of : Counted → Counts
counts_of c = record { replaced = c.replaced; before = c.before; after = c.after }

abbrev pub export_arguments_of : Export → ExportArguments
export_arguments_of e = record { entry = e.entry; cnf = e.cnf.now; lrat = e.lrat.now }

abbrev pub settings_for : Learn → Settings
settings_for l = learnt_by l.options.now l.costs

abbrev pub learn_arguments_of : Learn → LearnArguments
learn_arguments_of l = record { out = l.out.now; settings = settings_for l }

-- before the costs are read, the version alone says that there will be some
abbrev pub learn_arguments_by_costs : LearnByCosts → LearnArguments
learn_arguments_by_costs l = record { out = l.out.now; settings = record (learnt_by l.options.now None) { version = 4 } }

abbrev pub trace_arguments_of : Trace → TraceArguments
trace_arguments_of t = record { label = t.label.now; most = t.most }

abbrev pub wanted_by : Generalise → Family
wanted_by g = wanted g.entry g.number g.low g.high
