use Rattle.std.proofs.Common.{◌∙◌, ℕ, List, map, length, sym, ap, subst, Bor}
use Rattle.std.proofs.lemmas.List.{length-map}
use Rattle.std.specs.Prelude.{Vec}
use Rattle.std.specs.declared.alloc.Global.{Global}
use Rattle.command_runs.specs.Outcomes.{outcome_view}
use Rattle.command_runs.proofs.StageLemmas.{as_many_texts}
use Rattle.command_runs.proofs.RunLemmas.{finished, short}
use Rattle.command_runs.proofs.stages.run.Goals as goal

-- the texts were fetched and have the outcome, and that was finished
pub returns-in-Ok-compute-clause-runs : goal.returns-in-Ok-compute-clause-runs
returns-in-Ok-compute-clause-runs g c =
    let comes = subst (λ (ts : List (Vec ℕ Global)). g.C.TextCommand.comes c.args.command.now (map (λ (t : Vec ℕ Global). t.items) ts) (outcome_view c.in-Ok-compute.outcome)) c.deref.ensures.value c.in-Ok-compute.ensures in
    finished (record { names = map (λ n. n.now) c.args.names.now; comes = g.C.TextCommand.comes c.args.command.now }) (map (λ t. t.items) c.in-Ok.texts.items) (outcome_view c.in-Ok-compute.outcome)
    (g.S.Store.seen c.args.store.now) (g.S.Store.seen c.fetch_all.new.store) (g.S.Store.seen c.finish.new.store) (g.O.Sink.sunk c.args.sink.now) (g.O.Sink.sunk c.finish.new.sink) c.finish.result
    c.in-Ok.ensures.gathers c.in-Ok.ensures.held c.in-Ok.ensures.grows comes c.finish.ensures.finishes

-- memory ran out while the outcome was computed
pub returns-in-Err-compute-clause-runs : goal.returns-in-Err-compute-clause-runs
returns-in-Err-compute-clause-runs g c =
    short (record { names = map (λ n. n.now) c.args.names.now; comes = g.C.TextCommand.comes c.args.command.now }) (map (λ t. t.items) c.in-Ok.texts.items)
    (g.S.Store.seen c.args.store.now) (g.S.Store.seen c.fetch_all.new.store) (g.O.Sink.sunk c.args.sink.now) c.in-Ok.ensures.held c.in-Ok.ensures.gathers

-- there are as many texts as names
pub compute-requires : goal.compute-requires
compute-requires g c =
    let many = as_many_texts (g.S.Store.seen c.args.store.now) (map (λ (n : Bor (List ℕ)). n.now) c.args.names.now) (map (λ (t : Vec ℕ Global). t.items) c.in-Ok.texts.items) c.in-Ok.ensures.gathers.1 in
    ap (λ (ts : List (Vec ℕ Global)). length ts) c.deref.ensures.value ∙ (sym (length-map c.in-Ok.texts.items (λ (t : Vec ℕ Global). t.items)) ∙ (many ∙ (length-map c.args.names.now (λ (n : Bor (List ℕ)). n.now) ∙ c.requires)))
