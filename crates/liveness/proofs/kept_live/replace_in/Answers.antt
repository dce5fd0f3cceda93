use Rattle.std.proofs.Common.{◌+◌, ◌-◌, length, get_or, refl, arith}
use Rattle.liveness.proofs.Shrinkings.{up_to_last}
use Rattle.liveness.proofs.Replacings.{kept_on}
use Rattle.liveness.proofs.kept_live.replace_in.Goals as goal

pub exchange-window-requires-clause-within : goal.exchange-window-requires-clause-within
exchange-window-requires-clause-within c = λ k l. up_to_last k c.args.places.now c.requires.ascending l

pub exchange-window-requires-clause-some : goal.exchange-window-requires-clause-some
exchange-window-requires-clause-some c = up_to_last 0 c.args.places.now c.requires.ascending c.requires.some

pub shrink-requires-clause-some : goal.shrink-requires-clause-some
shrink-requires-clause-some c = let l = up_to_last 0 c.args.places.now c.requires.ascending c.requires.some in omega (arith, l, c.exchange-window.ensures.first, c.exchange-window.ensures.end)

pub returns-clause-kept : goal.returns-clause-kept
returns-clause-kept c = λ code new window gives kept.
    let ps = c.args.places.now in
    let a = c.exchange-window.ensures in
    let b = c.shrink.ensures in
    let d = c.regrow.ensures in
    kept_on ps c.args.new.now (get_or ps 0 0) (get_or ps (length ps - 1) 0 + 1) refl refl c.requires.ascending c.requires.some c.exchange-window.result.old c.exchange-window.result.fresh c.args.kept.now c.exchange-window.new.kept c.shrink.new.kept c.regrow.new.kept (record {
      many = a.many;
      graph = a.graph;
      walk = a.walk;
      first = a.first;
      end = a.end;
      old_reads = a.old_reads;
      old_writes = a.old_writes;
      reads = a.reads;
      writes = a.writes;
      put = a.put;
      others = a.others;
      ahead = a.ahead;
    })
    (record {
      fit = b.fit;
      ways = b.ways;
      graph = b.graph;
      forward = b.forward;
      start = b.start;
      touched = b.touched;
      shrunk = b.shrunk;
    })
    (record {
      idle = d.idle;
      ways = d.ways;
      graph = d.graph;
      forward = d.forward;
      live = d.live;
    })
    code new window gives kept
