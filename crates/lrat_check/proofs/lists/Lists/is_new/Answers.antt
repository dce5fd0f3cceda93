use Rattle.std.proofs.Common.{◌∙◌, sym, ap, subst, List, ℕ}
use Rattle.std.specs.Prelude.{All, IsTrue, not, ◌↔◌}
use Rattle.clause_model.specs.Clauses.{IsNew}
use Rattle.lrat_check.specs.Lists.{ClauseLists, listed, under}
use Rattle.lrat_check.proofs.Listed.{told_by_lists, told_by_empty}
use Rattle.lrat_check.proofs.lists.Lists.is_new.Goals as goal

pub returns-then-not-self-clause-new : goal.returns-then-not-self-clause-new
returns-then-not-self-clause-new g c = λ clauses h.
    let same = ap listed c.deref.ensures.value ∙ ap (λ (k : ClauseLists). k.lists) c.self.view_is in
    let told = subst (λ (lists : List (List (List ℕ))). IsTrue c.is_new_among.result ↔ All (λ l. IsNew (under lists l) c.args.members.now) c.args.members.now) same c.is_new_among.ensures.new in
    told_by_lists c.args.self.now clauses c.args.members.now c.is_new_among.result (sym (ap (λ (k : ClauseLists). k.has_empty) c.self.view_is) ∙ c.if-not-self.true) told h

pub returns-else-not-self-clause-new : goal.returns-else-not-self-clause-new
returns-else-not-self-clause-new g c = λ clauses h.
    told_by_empty c.args.self.now clauses c.args.members.now _ (sym (ap (λ (k : ClauseLists). k.has_empty) c.self.view_is) ∙ c.if-not-self.false) (ap not c.if-not-self.false) h
