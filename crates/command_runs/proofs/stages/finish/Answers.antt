use Rattle.std.proofs.Common.{◌≡◌, map, sym, ap, subst}
use Rattle.command_runs.specs.Outcomes.{keep_view, outcome_view}
use Rattle.command_runs.specs.Plans.{Outcome, Does}
use Rattle.command_runs.specs.Stages.{Finishes}
use Rattle.command_runs.proofs.RunLemmas.{done}
use Rattle.command_runs.proofs.stages.finish.Goals as goal

-- all is kept, and the lines are put
pub returns-in-Ok-clause-finishes : goal.returns-in-Ok-clause-finishes
returns-in-Ok-clause-finishes g c =
    let keeps = map keep_view c.deref-in-Does.result.now in
    let is : Does keeps c.deref-in-Ok.result.now ≡ outcome_view c.args.outcome = cc (c.deref-in-Does.ensures.value, c.deref-in-Ok.ensures.value, ap outcome_view (sym c.in-Does.is)) in
    subst (λ (o : Outcome). Finishes o (g.S.Store.seen c.args.store.now) (g.S.Store.seen c.keep_all.new.store) (g.O.Sink.sunk c.args.sink.now) (g.O.Sink.sunk c.print-in-Ok.new.sink) c.print-in-Ok.result) is
    (done keeps c.deref-in-Ok.result.now (g.S.Store.seen c.args.store.now) (g.S.Store.seen c.keep_all.new.store) (g.O.Sink.sunk c.args.sink.now) (g.O.Sink.sunk c.print-in-Ok.new.sink) c.print-in-Ok.result c.in-Ok.ensures.stores c.print-in-Ok.ensures.prints)
