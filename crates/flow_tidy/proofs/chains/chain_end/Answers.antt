use Rattle.std.proofs.Common.{◌≡◌, ◌+◌, suc, sym, subst, arith}
use Rattle.thumb_model.specs.Listing.{code_of}
use Rattle.flow_tidy.specs.Tidying.{HopsBy}
use Rattle.flow_tidy.proofs.Hops.{goes_round, hop_found, hops_on}
use Rattle.flow_tidy.proofs.chains.chain_end.Goals as goal

pub loop-hops-preserved : goal.loop-hops-preserved
loop-hops-preserved c =
    let code = code_of c.args.listing.now in
    let on = hops_on code (suc c.loop-hops._hops) c.args.label.now c.loop-hops.end.now c.in-Some.next.now c.loop-hops.invariant (hop_found code c.loop-hops.end.now c.in-Some.next.now (sym c.in-Some.ensures)) in
    let e : suc c.loop-hops._hops ≡ c.loop-hops._hops + 1 = omega arith in
    subst (λ n. HopsBy code (suc n) c.args.label.now c.in-Some.next.now) e on

pub returns : goal.returns
returns c = goes_round (code_of c.args.listing.now) c.loop-hops._hops c.args.label.now c.loop-hops.end.now (omega (arith, c.place_count-hops-end.ensures)) c.loop-hops.invariant
