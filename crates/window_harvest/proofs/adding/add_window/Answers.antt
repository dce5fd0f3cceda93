use Rattle.std.proofs.Common.{map}
use Rattle.std.proofs.lemmas.Result.{on_ok_weaker}
use Rattle.window_harvest.specs.Harvest.{pair_of}
use Rattle.window_harvest.specs.LimitsOf.{limits_of}
use Rattle.window_harvest.proofs.Added.{added_passed, added_put}
use Rattle.window_harvest.proofs.adding.add_window.Goals as goal

pub returns-in-None : goal.returns-in-None
returns-in-None c = λ lines spot s seen. (seen, added_passed (limits_of c.args.limits) lines spot (map pair_of c.args.pairs.now.items) (c.in-None.ensures lines spot s))

pub returns-in-Some : goal.returns-in-Some
returns-in-Some c = on_ok_weaker c.add_pair.result (λ ensured lines spot s seen.
    let there = c.in-Some.ensures lines spot s in
    let put = ensured c.args.limits.pool.now there.1 seen in
    (put.0, added_put (limits_of c.args.limits) lines spot (pair_of (c.in-Some.seq, c.in-Some.mask)) (map pair_of c.args.pairs.now.items) (map pair_of c.add_pair.new.pairs.items) there.0 put.1))
    c.add_pair.ensures
