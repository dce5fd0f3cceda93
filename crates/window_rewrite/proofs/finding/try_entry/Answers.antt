use Rattle.std.proofs.Common.{◌≡◌, ◌∙◌, ℕ, ◌+◌, ◌-◌, ◌<◌, List, Some, length, map, slice_index_or, ap, arith, refl, sym}
use Rattle.std.specs.Prelude.{slice_get}
use Rattle.std.proofs.lemmas.Option.{slice_get_read, IfSome_then}
use Rattle.std.proofs.lemmas.Result.{IfOk-weaker}
use Rattle.thumb_instr.specs.declared.instr.Instr.{Instr}
use Rattle.rule_model.specs.Rules.{Rule, alone, rule_at}
use Rattle.rule_table.specs.declared.table.Entry.{Entry}
use Rattle.rule_table.specs.Views.{family_of, rule_of}
use Rattle.window_rewrite.specs.declared.finding.Rules.{Rules}
use Rattle.window_rewrite.specs.Rules.{entry_rule, rules_in, side_length, IsFit}
use Rattle.window_rewrite.specs.Choices.{AreReady}
use Rattle.window_rewrite.specs.Scenes.{number_seen}
use Rattle.window_rewrite.proofs.Accepted.{entry_at}
use Rattle.window_rewrite.proofs.Applied.{made}
use Rattle.window_rewrite.proofs.Chosen.{counted, length_at}
use Rattle.window_rewrite.proofs.Joined.{entry_used}
use Rattle.window_rewrite.proofs.Results.{any_ok, any_some, if_none}
use Rattle.rule_model.proofs.Alone.{alone_at}
use Rattle.window_rewrite.proofs.finding.try_entry.Goals as goal

-- what is known of the entry that was read
record IsEntry (r : Rules) (number : ℕ) (window : List Instr) (rule : Rule) : Type 0 where
  at : slice_get (rules_in r.entries.now) number ≡ Some rule
  fit : IsFit r.longest rule
  long : length rule.left ≡ length window

entry : (r : Rules) (number count : ℕ) (window : List Instr) (read : Entry) → AreReady r → number < length r.entries.now → read ≡ slice_index_or r.entries.now number read → count ≡ length (slice_index_or r.entries.now number read).left → count ≡ length window
    → IsEntry r number window (entry_rule (slice_index_or r.entries.now number read))
entry r number count window read ready within is e f =
    let one : Entry = slice_index_or r.entries.now number read in
    let there : slice_get r.entries.now number ≡ Some one = slice_get_read r.entries.now _ _ read refl within is ∙ ap Some is in
    let at : slice_get (rules_in r.entries.now) number ≡ Some (entry_rule one) = entry_at r.entries.now number one there in
    record { at = at; fit = ready.fit number 0 (entry_rule one) (entry_used (map rule_of r.entries.now) (map family_of r.families.now) number (entry_rule one) at); long = sym e ∙ f }

-- how long the left side of an entry that was read is
long : (entries : List Entry) (number : ℕ) (read : Entry) → number < length entries → read ≡ slice_index_or entries number read → side_length (rules_in entries) number ≡ length (slice_index_or entries number read).left
long entries number read within is =
    let e : Entry = slice_index_or entries number read in
    let there : slice_get entries number ≡ Some e = slice_get_read entries _ _ read refl within is ∙ ap Some is in
    length_at (rules_in entries) number (entry_rule e) (entry_at entries number e there)

-- the left side is as long as the window
as_long : (entries : List Entry) (number count : ℕ) (window : List Instr) (read : Entry) → number < length entries → read ≡ slice_index_or entries number read → count ≡ length (slice_index_or entries number read).left → count ≡ length window
    → side_length (rules_in entries) number ≡ length window
as_long entries number count window read within is e f = long entries number read within is ∙ (sym e ∙ f)

pub returns-then-len-sight-clause-none : goal.returns-then-len-sight-clause-none
returns-then-len-sight-clause-none g c = λ is registers a.
    let was = long c.args.sight.now.lookup.now.rules.now.entries.now c.args.number c.index-sight-number.result c.requires.number c.index-sight-number.is in
    absurd (c.if-len-sight.true (c.len.ensures.value ∙ sym was ∙ is))

pub try_rule-requires-clause-fit : goal.try_rule-requires-clause-fit
try_rule-requires-clause-fit g c = (entry c.args.sight.now.lookup.now.rules.now c.args.number c.len.result c.args.sight.now.window.now c.index-sight-number.result c.requires.sight.lookup.ready c.requires.number c.index-sight-number.is c.len.ensures.value c.if-len-sight.false).fit

pub try_rule-requires-clause-long : goal.try_rule-requires-clause-long
try_rule-requires-clause-long g c = (entry c.args.sight.now.lookup.now.rules.now c.args.number c.len.result c.args.sight.now.window.now c.index-sight-number.result c.requires.sight.lookup.ready c.requires.number c.index-sight-number.is c.len.ensures.value c.if-len-sight.false).long

pub returns-clause-some : goal.returns-clause-some
returns-clause-some g c =
    let rule : Rule = entry_rule (slice_index_or c.args.sight.now.lookup.now.rules.now.entries.now c.args.number c.index-sight-number.result) in
    let e = entry c.args.sight.now.lookup.now.rules.now c.args.number c.len.result c.args.sight.now.window.now c.index-sight-number.result c.requires.sight.lookup.ready c.requires.number c.index-sight-number.is c.len.ensures.value c.if-len-sight.false in
    let rules : List Rule = rules_in c.args.sight.now.lookup.now.rules.now.entries.now in
    let number : c.args.number ≡ c.args.number + 1 - 1 = omega arith in
    let used : rule_at (alone rules) (c.args.number + 1 - 1) 0 ≡ Some rule = ap (λ k. rule_at (alone rules) k 0) (sym number) ∙ alone_at rules c.args.number rule e.at in
    IfOk-weaker c.try_rule.result _ _ (λ o h. IfSome_then o h (λ x by. (by.is (alone rules) rule.open_numbers used, by.at, by.entry_is ∙ sym number))) c.try_rule.ensures.some

pub returns-clause-none : goal.returns-clause-none
returns-clause-none g c =
    let rule : Rule = entry_rule (slice_index_or c.args.sight.now.lookup.now.rules.now.entries.now c.args.number c.index-sight-number.result) in
    let e = entry c.args.sight.now.lookup.now.rules.now c.args.number c.len.result c.args.sight.now.window.now c.index-sight-number.result c.requires.sight.lookup.ready c.requires.number c.index-sight-number.is c.len.ensures.value c.if-len-sight.false in
    let rules : List Rule = rules_in c.args.sight.now.lookup.now.rules.now.entries.now in
    IfOk-weaker c.try_rule.result _ _ (λ o h. if_none o h (λ none is registers m. none (alone rules) rule.open_numbers (made (number_seen c.args.sight.now.lookup.now) c.args.number registers) (alone_at rules c.args.number rule e.at) refl m)) c.try_rule.ensures.none

pub returns-clause-cost : goal.returns-clause-cost
returns-clause-cost g c = counted _ _ c.args.steps.now c.try_rule.new.steps (as_long c.args.sight.now.lookup.now.rules.now.entries.now c.args.number c.len.result c.args.sight.now.window.now c.index-sight-number.result c.requires.number c.index-sight-number.is c.len.ensures.value c.if-len-sight.false) c.try_rule.ensures.cost

pub returns-clause-long : goal.returns-clause-long
returns-clause-long g c = any_ok c.try_rule.result _ (λ o. any_some o (as_long c.args.sight.now.lookup.now.rules.now.entries.now c.args.number c.len.result c.args.sight.now.window.now c.index-sight-number.result c.requires.number c.index-sight-number.is c.len.ensures.value c.if-len-sight.false))
