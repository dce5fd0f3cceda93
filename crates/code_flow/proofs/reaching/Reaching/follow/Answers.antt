use Rattle.std.proofs.Common.{refl, subst, sym}
use Rattle.std.proofs.lemmas.Result.{on_ok_weaker}
use Rattle.code_flow.specs.declared.way.Next.{Next}
use Rattle.code_flow.specs.Reaching.{GoesTo}
use Rattle.code_flow.proofs.reaching.Reaching.follow.Goals as goal

pub returns-in-Place-clause-reaching : goal.returns-in-Place-clause-reaching
returns-in-Place-clause-reaching c =
    on_ok_weaker c.reach.result (λ h code others go a. h code others (go c.in-Place.place (subst (λ (n : Next). GoesTo n c.in-Place.place) (sym c.in-Place.is) refl)) a) c.reach.ensures.reaching
