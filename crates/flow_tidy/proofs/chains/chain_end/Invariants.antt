use Rattle.std.proofs.Common.{suc}
use Rattle.thumb_model.specs.Listing.{code_of}
use Rattle.flow_tidy.specs.Tidying.{HopsBy}
use Rattle.flow_tidy.proofs.chains.chain_end.Given as goal

abbrev pub invariant-loop-hops : goal.invariant-loop-hops
invariant-loop-hops l = HopsBy (code_of l.listing) (suc l._hops) l.fn.label l.end
