use Rattle.std.proofs.Common.{subst, sym}
use Rattle.listing_draft.specs.Drafted.{Drafted}
use Rattle.flow_tidy.specs.ChainEnds.{IsLast}
use Rattle.flow_tidy.proofs.Ending.{end_found, none_found}
use Rattle.flow_tidy.proofs.chain_ends.chain_end.Goals as goal

pub returns-clause-end : goal.returns-clause-end
returns-clause-end c =
    let last = subst (λ (x : Drafted). IsLast x c.args.first c.walk-last.result) c.hop.ensures.same c.walk-last.ensures.last in
    end_found c.args.draft.now c.args.place c.args.first c.walk-last.result (sym c.requires.goes.is) last

pub returns-clause-none : goal.returns-clause-none
returns-clause-none c =
    let last = subst (λ (x : Drafted). IsLast x c.args.first c.walk-last.result) c.hop.ensures.same c.walk-last.ensures.last in
    none_found c.args.draft.now c.args.place c.args.first c.walk-last.result (sym c.requires.goes.is) last
