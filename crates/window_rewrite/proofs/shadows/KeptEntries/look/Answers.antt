use Rattle.std.proofs.Common.{◌≡◌, ◌∙◌, Some, true, refl, sym, subst, true≢false}
use Rattle.std.specs.Prelude.{slice_get}
use Rattle.std.proofs.lemmas.Option.{same_Some, slice_get_read}
use Rattle.rule_model.specs.Rules.{Rule}
use Rattle.rule_table.specs.declared.table.Entry.{Entry}
use Rattle.window_rewrite.specs.Rules.{rules_in, entry_rule, is_lighter}
use Rattle.window_rewrite.proofs.Accepted.{entry_at}
use Rattle.window_rewrite.proofs.Keeping.{kept_so}
use Rattle.window_rewrite.proofs.shadows.KeptEntries.look.Goals as goal

pub returns-then-not-is_lighter : goal.returns-then-not-is_lighter
returns-then-not-is_lighter c =
    let e : Entry = c.index-entries-number.result in
    let at : slice_get c.args.entries.now c.args.number ≡ Some e = slice_get_read c.args.entries.now _ _ e refl c.requires.within c.index-entries-number.is in
    kept_so c.args.costs.now (rules_in c.args.entries.now) c.args.number (entry_rule e) c.args.self.now (entry_at c.args.entries.now c.args.number e at) c.requires.kept (λ s. absurd (true≢false (sym s ∙ sym c.is_lighter.ensures ∙ c.if-not-is_lighter.true)))

pub returns-then-has_leader : goal.returns-then-has_leader
returns-then-has_leader c =
    let e : Entry = c.index-entries-number.result in
    let at : slice_get c.args.entries.now c.args.number ≡ Some e = slice_get_read c.args.entries.now _ _ e refl c.requires.within c.index-entries-number.is in
    let rule = entry_at c.args.entries.now c.args.number e at in
    kept_so c.args.costs.now (rules_in c.args.entries.now) c.args.number (entry_rule e) c.args.self.now rule c.requires.kept (λ _. c.has_leader.ensures c.if-has_leader.true (entry_rule e) rule)

pub keep-requires-clause-lighter : goal.keep-requires-clause-lighter
keep-requires-clause-lighter c = λ rule there.
    let e : Entry = c.index-entries-number.result in
    let at : slice_get c.args.entries.now c.args.number ≡ Some e = slice_get_read c.args.entries.now _ _ e refl c.requires.within c.index-entries-number.is in
    let lighter : is_lighter c.args.costs.now (entry_rule e) ≡ true = sym c.is_lighter.ensures ∙ c.if-not-is_lighter.false in
    subst (λ (r : Rule). is_lighter c.args.costs.now r ≡ true) (same_Some (entry_rule e) rule (sym (entry_at c.args.entries.now c.args.number e at) ∙ there)) lighter
