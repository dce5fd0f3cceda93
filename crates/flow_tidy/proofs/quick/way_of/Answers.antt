use Rattle.std.proofs.Common.{◌∙◌, subst, sym}
use Rattle.listing_draft.specs.Drafted.{Drafted}
use Rattle.flow_tidy.specs.Quick.{GoesTo}
use Rattle.flow_tidy.proofs.quick.way_of.Goals as goal

pub is_next-requires-clause-goes : goal.is_next-requires-clause-goes
is_next-requires-clause-goes c =
    let e = c.in-Some.ensures in
    subst (λ (x : Drafted). GoesTo x c.args.place c.in-Some.to) (sym c.target.ensures.same) (record { is = e.place; within = e.within; kept = e.kept })

pub chain_end-requires-clause-goes : goal.chain_end-requires-clause-goes
chain_end-requires-clause-goes c =
    let e = c.in-Some.ensures in
    subst (λ (x : Drafted). GoesTo x c.args.place c.in-Some.to) (sym (c.is_next.ensures.same ∙ c.target.ensures.same)) (record { is = e.place; within = e.within; kept = e.kept })
