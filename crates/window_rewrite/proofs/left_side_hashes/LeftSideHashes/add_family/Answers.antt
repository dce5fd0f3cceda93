use Rattle.std.proofs.Common.{◌≡◌, ◌∙◌, false, List, Some, ap, map, subst, sym, true≢false}
use Rattle.std.proofs.lemmas.Option.{same_Some}
use Rattle.thumb_instr.specs.declared.instr.Instr.{Instr}
use Rattle.rule_table.specs.Table as tables
use Rattle.rule_table.specs.declared.table.Entry.{Entry}
use Rattle.rule_table.specs.Views.{family_of, rule_of}
use Rattle.table_audit.specs.Families.{entry_at}
use Rattle.table_audit.specs.Soundness.{rewriting_rule}
use Rattle.window_rewrite.specs.Rules.{is_lighter, IsNoted}
use Rattle.window_rewrite.specs.Hashes.{blind}
use Rattle.window_rewrite.proofs.Heads.{family_noted}
use Rattle.window_rewrite.proofs.left_side_hashes.LeftSideHashes.add_family.Goals as goal

pub returns-then-is_lighter-clause-noted : goal.returns-then-is_lighter-clause-noted
returns-then-is_lighter-clause-noted c =
    let e : Entry = c.in-Some.entry.now in
    let own : entry_at (map rule_of c.args.entries.now) c.args.family.now.entry ≡ Some (rule_of e) = sym c.in-Some.ensures in
    let side : c.as_slice-then-is_lighter.result.now ≡ map blind e.left = c.as_slice-then-is_lighter.ensures.value ∙ c.blind_all.ensures ∙ ap (map blind) c.as_slice.ensures.value in
    family_noted c.args.costs.now (family_of c.args.family.now) (entry_at (map rule_of c.args.entries.now) c.args.family.now.entry) c.add_side.new.self (λ x at s.
    subst (λ (l : List Instr). IsNoted c.add_side.new.self l) (side ∙ ap (λ (r : tables.Rule). map blind r.left) (same_Some (rule_of e) x (sym own ∙ at))) c.add_side.ensures.noted)

pub returns-else-is_lighter-clause-noted : goal.returns-else-is_lighter-clause-noted
returns-else-is_lighter-clause-noted c =
    let e : Entry = c.in-Some.entry.now in
    let own : entry_at (map rule_of c.args.entries.now) c.args.family.now.entry ≡ Some (rule_of e) = sym c.in-Some.ensures in
    let heavier : is_lighter c.args.costs.now (rewriting_rule (rule_of e)) ≡ false = sym c.is_lighter.ensures ∙ c.if-is_lighter.false in
    family_noted c.args.costs.now (family_of c.args.family.now) (entry_at (map rule_of c.args.entries.now) c.args.family.now.entry) c.args.self.now (λ x at s.
    let same = same_Some (rule_of e) x (sym own ∙ at) in
    absurd (true≢false (sym s ∙ sym (ap (λ (r : tables.Rule). is_lighter c.args.costs.now (rewriting_rule r)) same) ∙ heavier)))
