use Rattle.std.proofs.Common.{◌<◌, List, arith, subst, sym}
use Rattle.flow_tidy.specs.declared.chain_ends.Known.{Known}
use Rattle.flow_tidy.specs.ChainEnds.{AreEnds}
use Rattle.flow_tidy.proofs.Ending.{none_walked, still_ends}
use Rattle.flow_tidy.proofs.chain_ends.Ends.begin.Goals as goal

pub returns-in-Some-clause-known : goal.returns-in-Some-clause-known
returns-in-Some-clause-known c = λ d a.
    let e = c.self.inside in
    still_ends d e.since e.latest c.in-Some.latest e.found.items (subst (λ (ks : List Known). AreEnds d ks) (sym c.self.view_is) a)

pub returns-in-Some-clause-unwalked : goal.returns-in-Some-clause-unwalked
returns-in-Some-clause-unwalked c =
    let e = c.self.inside in
    let next = c.in-Some.ensures.1 in
    let late : e.latest < c.in-Some.latest = omega arith in
    none_walked e.since c.in-Some.latest e.found.items (λ p f k. let few = c.self.invariant.stamps p f k in omega arith)
