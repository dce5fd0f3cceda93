use Rattle.std.proofs.Common.{ℕ, ◌==◌, ◌∙◌, sym, rules, tests}
use Rattle.std.proofs.lemmas.Iterator.{YieldsList-from_slice}
use Rattle.std.proofs.lemmas.Iterator.Search.{any_from_yields_List}
use Rattle.table_audit.proofs.Names.{one_of_has}
use Rattle.table_audit.proofs.families.is_pooled.Goals as goal

pub returns : goal.returns
returns c =
    any_from_yields_List (λ (member : ℕ). member == c.args.number) _ _ _ c.any.ensures.ran (YieldsList-from_slice c.args.members.now cc) (λ x b q k. search (rules, tests))
    ∙ sym (one_of_has c.args.number c.args.members.now)
