use Rattle.std.proofs.Common.{◌≡◌, ◌∙◌, ℕ, true, List, [], ◌∷◌, Some, slice_index_or, ap, refl, sym, subst, true≢false}
use Rattle.std.specs.Prelude.{slice_get}
use Rattle.std.proofs.lemmas.Option.{slice_get_read}
use Rattle.thumb_instr.specs.declared.instr.Instr.{Instr}
use Rattle.rule_model.specs.Rules.{Rule, alone}
use Rattle.rule_table.specs.declared.table.Entry.{Entry}
use Rattle.window_rewrite.specs.Rules.{entry_rule, is_lighter, left_side, rules_in, IsNoted}
use Rattle.window_rewrite.proofs.Accepted.{entry_at}
use Rattle.window_rewrite.proofs.Heads.{alone_there, more_noted, one_alone, stay_there}
use Rattle.window_rewrite.proofs.left_side_hashes.LeftSideHashes.add.Goals as goal

pub returns-then-not-is_lighter : goal.returns-then-not-is_lighter
returns-then-not-is_lighter c =
    let n : ℕ = c.args.number in
    let e : Entry = c.index-entries-number.result in
    let at : slice_get c.args.entries.now n ≡ Some e = slice_get_read c.args.entries.now _ _ e refl c.requires.number c.index-entries-number.is in
    let heavier = sym c.is_lighter.ensures ∙ c.if-not-is_lighter.true in
    more_noted c.args.costs.now left_side (alone (rules_in c.args.entries.now)) n (entry_rule e ∷ []) c.args.self.now c.args.self.now (alone_there (rules_in c.args.entries.now) n (entry_rule e) (entry_at c.args.entries.now n e at)) c.requires.marks c.requires.marks.many (stay_there c.args.self.now)
    (one_alone (entry_rule e) (λ (r : Rule). is_lighter c.args.costs.now r ≡ true → IsNoted c.args.self.now r.left) (λ s. absurd (true≢false (sym s ∙ heavier))))

pub add_side-requires : goal.add_side-requires
add_side-requires c = c.requires.marks.many

pub returns : goal.returns
returns c =
    let n : ℕ = c.args.number in
    let e : Entry = slice_index_or c.args.entries.now n c.index-entries-number-2.result in
    let at : slice_get c.args.entries.now n ≡ Some e = slice_get_read c.args.entries.now _ _ c.index-entries-number-2.result refl c.requires.number c.index-entries-number-2.is ∙ ap Some c.index-entries-number-2.is in
    let noted : IsNoted c.add_side.new.self e.left = subst (λ (l : List Instr). IsNoted c.add_side.new.self l) c.as_slice.ensures.value c.add_side.ensures.noted in
    more_noted c.args.costs.now left_side (alone (rules_in c.args.entries.now)) n (entry_rule e ∷ []) c.args.self.now c.add_side.new.self (alone_there (rules_in c.args.entries.now) n (entry_rule e) (entry_at c.args.entries.now n e at)) c.requires.marks c.add_side.ensures.many c.add_side.ensures.stay
    (one_alone (entry_rule e) (λ (r : Rule). is_lighter c.args.costs.now r ≡ true → IsNoted c.add_side.new.self r.left) (λ s. noted))
