use Rattle.std.proofs.Common.{ap, refl, List, ℕ, subst}
use Rattle.lrat_check.specs.Lists.{ClauseLists, Keeps, listed}
use Rattle.lrat_check.proofs.Listed.{holds_empty, holds_more}
use Rattle.lrat_check.proofs.lists.Lists.keep.Goals as goal

pub returns-in-None : goal.returns-in-None
returns-in-None c = λ clauses h. holds_empty c.args.self.now _ clauses c.args.clause.now c.in-None.ensures (ap (λ (k : ClauseLists). k.lists) c.self.view_is) refl h

pub returns-in_ok-keep_under-in-Some : goal.returns-in_ok-keep_under-in-Some
returns-in_ok-keep_under-in-Some c = λ clauses h.
    let later = listed c.keep_under.new.lists.items in
    let put = subst (λ (x : List ℕ). Keeps (listed c.self.inside.lists.items) later c.in-Some.literal x) c.in_ok-kept-in-Some.ensures c.in_ok-keep_under-in-Some.ensures in
    let here = subst (λ (lists : List (List (List ℕ))). Keeps lists later c.in-Some.literal c.args.clause.now) (ap (λ (k : ClauseLists). k.lists) c.self.view_is) put in
    holds_more c.args.self.now _ clauses c.args.clause.now c.in-Some.literal (ap (λ (k : ClauseLists). k.has_empty) c.self.view_is) here c.in-Some.ensures h
