use Rattle.std.proofs.Common.{map, refl}
use Rattle.command_runs.specs.Outcomes.{keep_view}
use Rattle.command_runs.proofs.StageLemmas.{stores_more, stores_stop, called_more, grows_again, counts_again}
use Rattle.command_runs.proofs.Keeps.{keep_at}
use Rattle.command_runs.proofs.stages.keep_all.Goals as goal

pub returns-in-Err-clause-stores : goal.returns-in-Err-clause-stores
returns-in-Err-clause-stores g c =
    let here = keep_at c.args.keeps.now c.loop-keep.keep-index c.keep-item.result c.as_str.result.now c.deref.result.now c.loop-keep-test.true c.keep-item.is c.as_str.ensures.value c.deref.ensures.value in
    stores_stop (map keep_view c.args.keeps.now) c.loop-keep.keep-index (c.as_str.result.now, c.deref.result.now) (g.S.Store.seen c.args.store.now) (g.S.Store.seen c.loop-keep.store) (g.S.Store.seen c.keep_one.new.store) here c.loop-keep.invariant.grows c.loop-keep.invariant.kept
    c.loop-keep.invariant.events c.in-Err.status c.in-Err.ensures.stores

pub loop-keep-preserved : goal.loop-keep-preserved
loop-keep-preserved g c =
    let here = keep_at c.args.keeps.now c.loop-keep.keep-index c.keep-item.result c.as_str.result.now c.deref.result.now c.loop-keep-test.true c.keep-item.is c.as_str.ensures.value c.deref.ensures.value in
    record {
      kept = stores_more (map keep_view c.args.keeps.now) c.loop-keep.keep-index _ (c.as_str.result.now, c.deref.result.now) (g.S.Store.seen c.args.store.now) (g.S.Store.seen c.loop-keep.store) (g.S.Store.seen c.keep_one.new.store) here refl c.loop-keep.invariant.grows c.loop-keep.invariant.kept c.in-Ok.ensures.stores.1;
      events = called_more (map keep_view c.args.keeps.now) c.loop-keep.keep-index _ (c.as_str.result.now, c.deref.result.now) (g.S.Store.seen c.args.store.now) (g.S.Store.seen c.loop-keep.store) (g.S.Store.seen c.keep_one.new.store) here refl c.loop-keep.invariant.events c.in-Ok.ensures.stores.2;
      counts = counts_again (g.S.Store.seen c.args.store.now) (g.S.Store.seen c.loop-keep.store) (g.S.Store.seen c.keep_one.new.store) c.loop-keep.invariant.counts c.in-Ok.ensures.stores.0;
      grows = grows_again (g.S.Store.seen c.args.store.now) (g.S.Store.seen c.loop-keep.store) (g.S.Store.seen c.keep_one.new.store) c.loop-keep.invariant.grows c.keep_one.ensures.grows;
    }
