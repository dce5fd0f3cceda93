use Rattle.std.proofs.Common.{◌≡◌, ◌∙◌, Some, refl, subst, sym}
use Rattle.std.specs.Prelude.{slice_get}
use Rattle.std.proofs.lemmas.Option.{slice_get_read, same_Some}
use Rattle.rule_model.specs.Rules.{Rule}
use Rattle.rule_table.specs.declared.table.Entry.{Entry}
use Rattle.window_rewrite.specs.Rules.{entry_rule, AreAlike}
use Rattle.window_rewrite.proofs.Accepted.{entry_at}
use Rattle.window_rewrite.proofs.shadows.leads.Goals as goal

pub returns : goal.returns
returns c = λ same a b first second.
    let e : Entry = c.index-entries-earlier.result in
    let f : Entry = c.index-entries-number.result in
    let at_e : slice_get c.args.entries.now c.args.earlier ≡ Some e = slice_get_read c.args.entries.now _ _ e refl c.requires.earlier c.index-entries-earlier.is in
    let at_f : slice_get c.args.entries.now c.args.number ≡ Some f = slice_get_read c.args.entries.now _ _ f refl c.requires.within c.index-entries-number.is in
    let a_is : a ≡ entry_rule e = same_Some a (entry_rule e) (sym first ∙ entry_at c.args.entries.now c.args.earlier e at_e) in
    let b_is : b ≡ entry_rule f = same_Some b (entry_rule f) (sym second ∙ entry_at c.args.entries.now c.args.number f at_f) in
    subst (λ (r : Rule). AreAlike r b) (sym a_is) (subst (λ (r : Rule). AreAlike (entry_rule e) r) (sym b_is) (c.are_alike.ensures same))
