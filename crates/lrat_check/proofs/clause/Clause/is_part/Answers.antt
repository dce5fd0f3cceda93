use Rattle.std.proofs.Common.{List, ℕ, subst}
use Rattle.std.specs.Prelude.{All, Contains, IsTrue, ◌↔◌}
use Rattle.lrat_check.proofs.ClauseMembers.{part_first, part_none}
use Rattle.lrat_check.proofs.clause.Clause.is_part.Goals as goal
use Rattle.lrat_check.proofs.clause.Clause.is_part.Goals.{in-Some+else-not-is_true, in_default}

pub returns-clause-part : goal.returns-clause-part
returns-clause-part g c =
    let rest = subst (λ (xs : List ℕ). IsTrue c.are_members.result ↔ All (Contains c.args.members.now) xs) c.deref.ensures.value c.are_members.ensures.part in
    elim c.match-self.branch [
      | in-Some+else-not-is_true w ↦ part_first c.args.members.now c.args.self.now c.self.inside.rest.items c.self.inside.first w.in-Some.first c.are_members.result w.in-Some.is c.self.view_is (w.is_true.ensures.0 w.if-not-is_true.false) rest
      | in_default w ↦ part_none c.args.members.now c.args.self.now c.self.inside.rest.items c.self.inside.first c.are_members.result w.in_default.is c.self.view_is rest
    ]
