use Rattle.std.proofs.Common.{◌≡◌, ◌∙◌, [], ◌∷◌, Some, None, ap, string_bytes, subst, sym}
use Rattle.command_line.specs.declared.command.Command.{Command}
use Rattle.command_line.specs.declared.command.Command.TheVariants.{Rewrite, Audit, Learn, Export, Trace, Demo, Upgrade, Trim, Tidy, Generalise}
use Rattle.command_line.specs.Request.{request_of}
use Rattle.outer_store.specs.Outside.{Seen, Sunk}
use Rattle.command_runs.specs.declared.status.Status.{Status}
use Rattle.command_runs.specs.Plans.{Plan}
use Rattle.command_runs.specs.Runs.{Runs}
use Rattle.audit_cli.specs.Rewrite.{RewriteComesTo}
use Rattle.audit_cli.specs.Tables.{AuditComesTo, ExportComesTo}
use Rattle.rule_table.specs.Views.{learnt_by}
use Rattle.table_learn.specs.Learnt.{Settings}
use Rattle.audit_cli.specs.Learn.{LearnComesTo, LearnByCostsComesTo}
use Rattle.audit_cli.specs.Trace.{TraceComesTo}
use Rattle.audit_cli.specs.Demo.{DemoComesTo}
use Rattle.audit_cli.specs.Upgrade.{UpgradeComesTo}
use Rattle.audit_cli.specs.Trim.{TrimComesTo}
use Rattle.audit_cli.specs.Tidy.{TidyComesTo}
use Rattle.audit_cli.specs.Generalise.{wanted, GeneraliseComesTo}
use Rattle.audit_cli.specs.Peep.{plan_of}
use Rattle.audit_cli.proofs.top.run_command.Goals as goal

-- the plan that was run is the command's
asked : (p : Plan) (k command : Command) (old new : Seen) (before after : Sunk) (s : Status) → p ≡ plan_of (request_of k) → command ≡ k → Runs p old new before after s → Runs (plan_of (request_of command)) old new before after s
asked p k command old new before after s same is h = subst (λ (q : Plan). Runs q old new before after s) (same ∙ sym (ap (λ (c : Command). plan_of (request_of c)) is)) h

pub returns-in-Rewrite-clause-runs : goal.returns-in-Rewrite-clause-runs
returns-in-Rewrite-clause-runs g c =
    let out : c.as_str.result.now ≡ string_bytes c.in-Rewrite.out = c.as_str.ensures.value in
    let image : c.as_str-in-Rewrite.result.now ≡ string_bytes c.in-Rewrite.image = c.as_str-in-Rewrite.ensures.value in
    let table : c.as_str-in-Rewrite-2.result.now ≡ string_bytes c.in-Rewrite.table = c.as_str-in-Rewrite-2.ensures.value in
    let listing : c.as_str-in-Rewrite-3.result.now ≡ string_bytes c.in-Rewrite.listing = c.as_str-in-Rewrite-3.ensures.value in
    asked _ (Rewrite c.in-Rewrite.table c.in-Rewrite.listing c.in-Rewrite.out c.in-Rewrite.image c.in-Rewrite.base) c.args.command.now
    (g.S.Store.seen c.args.store.now) (g.S.Store.seen c.run.new.store) (g.O.Sink.sunk c.args.sink.now) (g.O.Sink.sunk c.run.new.sink) c.run.result
    (λ i. record { names = table i ∷ listing i ∷ []; comes = RewriteComesTo (record { out = out i; image = image i; base = c.in-Rewrite.base.address }) }) c.in-Rewrite.is c.run.ensures.runs

pub returns-in-Audit-clause-runs : goal.returns-in-Audit-clause-runs
returns-in-Audit-clause-runs g c =
    let table : c.as_str-in-Audit.result.now ≡ string_bytes c.in-Audit.table = c.as_str-in-Audit.ensures.value in
    asked _ (Audit c.in-Audit.table) c.args.command.now
    (g.S.Store.seen c.args.store.now) (g.S.Store.seen c.run-in-Audit.new.store) (g.O.Sink.sunk c.args.sink.now) (g.O.Sink.sunk c.run-in-Audit.new.sink) c.run-in-Audit.result
    (λ i. record { names = table i ∷ []; comes = AuditComesTo }) c.in-Audit.is c.run-in-Audit.ensures.runs

pub returns-in-None-clause-runs : goal.returns-in-None-clause-runs
returns-in-None-clause-runs g c =
    let k = c.in-Learn in
    let settings : Settings =
    record (learnt_by k.options None) { version = 2 } in
    let out : c.as_str-out.result.now ≡ string_bytes k.out = c.as_str-out.ensures.value in
    let listing : c.as_str-in-None.result.now ≡ string_bytes k.listing = c.as_str-in-None.ensures.value in
    let is = k.is ∙ ap (λ costs. Learn k.listing k.out costs k.options) c.in-None.is in
    asked _ (Learn k.listing k.out None k.options) c.args.command.now
    (g.S.Store.seen c.args.store.now) (g.S.Store.seen c.run-in-None.new.store) (g.O.Sink.sunk c.args.sink.now) (g.O.Sink.sunk c.run-in-None.new.sink) c.run-in-None.result
    (λ i. record { names = listing i ∷ []; comes = LearnComesTo (record { out = out i; settings = settings }) }) is c.run-in-None.ensures.runs

pub returns-in-Some-clause-runs : goal.returns-in-Some-clause-runs
returns-in-Some-clause-runs g c =
    let k = c.in-Learn in
    let settings : Settings =
    record (learnt_by k.options None) { version = 4 } in
    let out : c.as_str-out.result.now ≡ string_bytes k.out = c.as_str-out.ensures.value in
    let listing : c.as_str-in-Some.result.now ≡ string_bytes k.listing = c.as_str-in-Some.ensures.value in
    let cost_text : c.as_str-in-Some-2.result.now ≡ string_bytes c.in-Some.cost_text = c.as_str-in-Some-2.ensures.value in
    let is = k.is ∙ ap (λ name. Learn k.listing k.out name k.options) c.in-Some.is in
    asked _ (Learn k.listing k.out (Some c.in-Some.cost_text) k.options) c.args.command.now
    (g.S.Store.seen c.args.store.now) (g.S.Store.seen c.run-in-Some.new.store) (g.O.Sink.sunk c.args.sink.now) (g.O.Sink.sunk c.run-in-Some.new.sink) c.run-in-Some.result
    (λ i. record { names = listing i ∷ cost_text i ∷ []; comes = LearnByCostsComesTo (record { out = out i; settings = settings }) }) is c.run-in-Some.ensures.runs

pub returns-in-Export-clause-runs : goal.returns-in-Export-clause-runs
returns-in-Export-clause-runs g c =
    let cnf : c.as_str-in-Export.result.now ≡ string_bytes c.in-Export.cnf = c.as_str-in-Export.ensures.value in
    let lrat : c.as_str-in-Export-2.result.now ≡ string_bytes c.in-Export.lrat = c.as_str-in-Export-2.ensures.value in
    let table : c.as_str-in-Export-3.result.now ≡ string_bytes c.in-Export.table = c.as_str-in-Export-3.ensures.value in
    asked _ (Export c.in-Export.table c.in-Export.entry c.in-Export.cnf c.in-Export.lrat) c.args.command.now
    (g.S.Store.seen c.args.store.now) (g.S.Store.seen c.run-in-Export.new.store) (g.O.Sink.sunk c.args.sink.now) (g.O.Sink.sunk c.run-in-Export.new.sink) c.run-in-Export.result
    (λ i. record { names = table i ∷ []; comes = ExportComesTo (record { entry = c.in-Export.entry; cnf = cnf i; lrat = lrat i }) }) c.in-Export.is c.run-in-Export.ensures.runs

pub returns-in-Trace-clause-runs : goal.returns-in-Trace-clause-runs
returns-in-Trace-clause-runs g c =
    let label : c.as_str-in-Trace.result.now ≡ string_bytes c.in-Trace.label = c.as_str-in-Trace.ensures.value in
    let listing : c.as_str-in-Trace-2.result.now ≡ string_bytes c.in-Trace.listing = c.as_str-in-Trace-2.ensures.value in
    asked _ (Trace c.in-Trace.listing c.in-Trace.label c.in-Trace.most) c.args.command.now
    (g.S.Store.seen c.args.store.now) (g.S.Store.seen c.run-in-Trace.new.store) (g.O.Sink.sunk c.args.sink.now) (g.O.Sink.sunk c.run-in-Trace.new.sink) c.run-in-Trace.result
    (λ i. record { names = listing i ∷ []; comes = TraceComesTo (record { label = label i; most = c.in-Trace.most }) }) c.in-Trace.is c.run-in-Trace.ensures.runs

pub returns-in-Demo-clause-runs : goal.returns-in-Demo-clause-runs
returns-in-Demo-clause-runs g c =
    asked _ (Demo c.in-Demo.windows) c.args.command.now
    (g.S.Store.seen c.args.store.now) (g.S.Store.seen c.run-in-Demo.new.store) (g.O.Sink.sunk c.args.sink.now) (g.O.Sink.sunk c.run-in-Demo.new.sink) c.run-in-Demo.result
    (λ i. record { names = []; comes = λ texts. DemoComesTo c.in-Demo.windows.number }) c.in-Demo.is c.run-in-Demo.ensures.runs

pub returns-in-Upgrade-clause-runs : goal.returns-in-Upgrade-clause-runs
returns-in-Upgrade-clause-runs g c =
    let out : c.as_str-in-Upgrade.result.now ≡ string_bytes c.in-Upgrade.out = c.as_str-in-Upgrade.ensures.value in
    let table : c.as_str-in-Upgrade-2.result.now ≡ string_bytes c.in-Upgrade.table = c.as_str-in-Upgrade-2.ensures.value in
    asked _ (Upgrade c.in-Upgrade.table c.in-Upgrade.out) c.args.command.now
    (g.S.Store.seen c.args.store.now) (g.S.Store.seen c.run-in-Upgrade.new.store) (g.O.Sink.sunk c.args.sink.now) (g.O.Sink.sunk c.run-in-Upgrade.new.sink) c.run-in-Upgrade.result
    (λ i. record { names = table i ∷ []; comes = UpgradeComesTo (out i) }) c.in-Upgrade.is c.run-in-Upgrade.ensures.runs

pub returns-in-Trim-clause-runs : goal.returns-in-Trim-clause-runs
returns-in-Trim-clause-runs g c =
    let out : c.as_str-in-Trim.result.now ≡ string_bytes c.in-Trim.out = c.as_str-in-Trim.ensures.value in
    let table : c.as_str-in-Trim-2.result.now ≡ string_bytes c.in-Trim.table = c.as_str-in-Trim-2.ensures.value in
    asked _ (Trim c.in-Trim.table c.in-Trim.out) c.args.command.now
    (g.S.Store.seen c.args.store.now) (g.S.Store.seen c.run-in-Trim.new.store) (g.O.Sink.sunk c.args.sink.now) (g.O.Sink.sunk c.run-in-Trim.new.sink) c.run-in-Trim.result
    (λ i. record { names = table i ∷ []; comes = TrimComesTo (out i) }) c.in-Trim.is c.run-in-Trim.ensures.runs

pub returns-in-Tidy-clause-runs : goal.returns-in-Tidy-clause-runs
returns-in-Tidy-clause-runs g c =
    let out : c.as_str-in-Tidy.result.now ≡ string_bytes c.in-Tidy.out = c.as_str-in-Tidy.ensures.value in
    let listing : c.as_str-in-Tidy-2.result.now ≡ string_bytes c.in-Tidy.listing = c.as_str-in-Tidy-2.ensures.value in
    asked _ (Tidy c.in-Tidy.listing c.in-Tidy.out c.in-Tidy.base) c.args.command.now
    (g.S.Store.seen c.args.store.now) (g.S.Store.seen c.run-in-Tidy.new.store) (g.O.Sink.sunk c.args.sink.now) (g.O.Sink.sunk c.run-in-Tidy.new.sink) c.run-in-Tidy.result
    (λ i. record { names = listing i ∷ []; comes = TidyComesTo c.in-Tidy.base.address (out i) }) c.in-Tidy.is c.run-in-Tidy.ensures.runs

pub returns-in-Generalise-clause-runs : goal.returns-in-Generalise-clause-runs
returns-in-Generalise-clause-runs g c =
    let out : c.as_str-in-Generalise.result.now ≡ string_bytes c.in-Generalise.out = c.as_str-in-Generalise.ensures.value in
    let table : c.as_str-in-Generalise-2.result.now ≡ string_bytes c.in-Generalise.table = c.as_str-in-Generalise-2.ensures.value in
    asked _ (Generalise c.in-Generalise.table c.in-Generalise.entry c.in-Generalise.number c.in-Generalise.low c.in-Generalise.high c.in-Generalise.out) c.args.command.now
    (g.S.Store.seen c.args.store.now) (g.S.Store.seen c.run-in-Generalise.new.store) (g.O.Sink.sunk c.args.sink.now) (g.O.Sink.sunk c.run-in-Generalise.new.sink) c.run-in-Generalise.result
    (λ i. record { names = table i ∷ []; comes = GeneraliseComesTo (out i) (wanted c.in-Generalise.entry c.in-Generalise.number c.in-Generalise.low c.in-Generalise.high) }) c.in-Generalise.is c.run-in-Generalise.ensures.runs
