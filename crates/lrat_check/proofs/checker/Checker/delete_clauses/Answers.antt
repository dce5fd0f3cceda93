use Rattle.std.proofs.Common.{refl}
use Rattle.lrat_check.specs.Live.{clause_at}
use Rattle.lrat_check.proofs.checker.Checker.delete_clauses.Goals as goal

pub returns-in-None-clause-ok : goal.returns-in-None-clause-ok
returns-in-None-clause-ok c =
    let found = rw (c.in-None.is, c.deref.ensures.value) at c.in_ok-place.ensures in
    let after = rw c.deref-in-None.ensures.value at c.delete.ensures in
    rw (← c.self.view_is) record { live = found (clause_at c.delete.new.live) after; last = refl; refuted = refl }
