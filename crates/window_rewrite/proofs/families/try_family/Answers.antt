use Rattle.std.proofs.Common.{◌≡◌, ◌∙◌, ℕ, ◌+◌, ◌-◌, ◌<◌, Some, length, map, slice_index_or, ap, arith, refl, sym, subst}
use Rattle.std.specs.Prelude.{slice_get}
use Rattle.std.proofs.lemmas.Option.{slice_get_read, IfSome_then}
use Rattle.std.proofs.lemmas.Result.{IfOk-weaker}
use Rattle.rule_table.specs.declared.table.Entry.{Entry}
use Rattle.rule_table.specs.declared.table.Family.{Family}
use Rattle.rule_table.specs.Views.{family_of, rule_of}
use Rattle.table_audit.specs.Families.{entry_at}
use Rattle.window_rewrite.specs.Rules.{entry_rule}
use Rattle.window_rewrite.specs.Choices.{AreReady, IsChoiceBy}
use Rattle.window_rewrite.specs.declared.finding.Rules.{Rules}
use Rattle.window_rewrite.specs.Scenes.{lines_seen, number_seen}
use Rattle.window_rewrite.proofs.Chosen.{counted}
use Rattle.window_rewrite.proofs.Raised.{family_choice, family_length, family_read, instance_fit, instance_long, none_long, none_stands, none_tried, raised_at, IsFamily}
use Rattle.window_rewrite.proofs.Results.{if_none}
use Rattle.window_rewrite.proofs.families.try_family.Goals as goal

-- what is known of the family that was read
there : (r : Rules) (n : ℕ) (read : Family) → n < length r.families.now → read ≡ slice_index_or r.families.now n read → slice_get r.families.now n ≡ Some (slice_index_or r.families.now n read)
there r n read within is = slice_get_read r.families.now _ _ read refl within is ∙ ap Some is

known : (r : Rules) (n : ℕ) (read : Family) (e : Entry) → AreReady r → n < length r.families.now → read ≡ slice_index_or r.families.now n read
    → entry_at (map rule_of r.entries.now) (slice_index_or r.families.now n read).entry ≡ Some (rule_of e) → IsFamily r n (family_of (slice_index_or r.families.now n read)) (rule_of e)
known r n read e ready within is entry = family_read r n (slice_index_or r.families.now n read) e ready (there r n read within is) entry

pub entry_raised-entry-requires : goal.entry_raised-entry-requires
entry_raised-entry-requires g c = raised_at c.args.sight.now.lookup.now.rules.now c.args.number (slice_index_or c.args.sight.now.lookup.now.rules.now.families.now c.args.number c.index-sight-number.result) c.requires.sight.lookup.ready (there c.args.sight.now.lookup.now.rules.now c.args.number c.index-sight-number.result c.requires.number c.index-sight-number.is)

pub returns-then-len-sight-clause-none : goal.returns-then-len-sight-clause-none
returns-then-len-sight-clause-none g c =
    let k = known c.args.sight.now.lookup.now.rules.now c.args.number c.index-sight-number.result c.entry_raised-entry.result.now c.requires.sight.lookup.ready c.requires.number c.index-sight-number.is c.entry_raised-entry.ensures in
    none_long c.args.sight.now.lookup.now.rules.now c.args.number (family_of (slice_index_or c.args.sight.now.lookup.now.rules.now.families.now c.args.number c.index-sight-number.result)) (rule_of c.entry_raised-entry.result.now) k _ (lines_seen c.args.sight.now.lookup.now) (number_seen c.args.sight.now.lookup.now) (length c.args.sight.now.window.now) (λ e. c.if-len-sight.true (c.len.ensures.value ∙ e))

pub instance_at-requires-clause-bytes : goal.instance_at-requires-clause-bytes
instance_at-requires-clause-bytes g c = (known c.args.sight.now.lookup.now.rules.now c.args.number c.index-sight-number.result c.entry_raised-entry.result.now c.requires.sight.lookup.ready c.requires.number c.index-sight-number.is c.entry_raised-entry.ensures).bytes

pub instance_at-requires-clause-held : goal.instance_at-requires-clause-held
instance_at-requires-clause-held g c = (known c.args.sight.now.lookup.now.rules.now c.args.number c.index-sight-number.result c.entry_raised-entry.result.now c.requires.sight.lookup.ready c.requires.number c.index-sight-number.is c.entry_raised-entry.ensures).held

pub returns-in-None-clause-none : goal.returns-in-None-clause-none
returns-in-None-clause-none g c =
    let k = known c.args.sight.now.lookup.now.rules.now c.args.number c.index-sight-number.result c.entry_raised-entry.result.now c.requires.sight.lookup.ready c.requires.number c.index-sight-number.is c.entry_raised-entry.ensures in
    none_stands c.args.sight.now.lookup.now.rules.now c.args.number (family_of (slice_index_or c.args.sight.now.lookup.now.rules.now.families.now c.args.number c.index-sight-number.result)) (rule_of c.entry_raised-entry.result.now) k _ (lines_seen c.args.sight.now.lookup.now) (number_seen c.args.sight.now.lookup.now) c.args.sight.now.window.now c.args.sight.now.form.now c.requires.sight.lookup.ready c.requires.sight.stands.is_window c.requires.sight.form
    (λ x within same. c.in-None.ensures x within (same ∙ sym c.as_slice.ensures.value))

pub try_rule-requires-clause-fit : goal.try_rule-requires-clause-fit
try_rule-requires-clause-fit g c =
    let k = known c.args.sight.now.lookup.now.rules.now c.args.number c.index-sight-number.result c.entry_raised-entry.result.now c.requires.sight.lookup.ready c.requires.number c.index-sight-number.is c.entry_raised-entry.ensures in
    instance_fit c.args.sight.now.lookup.now.rules.now c.args.number (family_of (slice_index_or c.args.sight.now.lookup.now.rules.now.families.now c.args.number c.index-sight-number.result)) (rule_of c.entry_raised-entry.result.now) k c.as_slice.result.now c.in-Some.instance c.in-Some.ensures c.requires.sight.lookup.ready.fit

pub try_rule-requires-clause-long : goal.try_rule-requires-clause-long
try_rule-requires-clause-long g c =
    let k = known c.args.sight.now.lookup.now.rules.now c.args.number c.index-sight-number.result c.entry_raised-entry.result.now c.requires.sight.lookup.ready c.requires.number c.index-sight-number.is c.entry_raised-entry.ensures in
    instance_long c.args.sight.now.lookup.now.rules.now c.args.number (family_of (slice_index_or c.args.sight.now.lookup.now.rules.now.families.now c.args.number c.index-sight-number.result)) (rule_of c.entry_raised-entry.result.now) k c.as_slice.result.now c.in-Some.instance c.in-Some.ensures ∙ (sym c.len.ensures.value ∙ c.if-len-sight.false)

pub returns-in-Some-clause-some : goal.returns-in-Some-clause-some
returns-in-Some-clause-some g c =
    let k = known c.args.sight.now.lookup.now.rules.now c.args.number c.index-sight-number.result c.entry_raised-entry.result.now c.requires.sight.lookup.ready c.requires.number c.index-sight-number.is c.entry_raised-entry.ensures in
    let long = sym c.len.ensures.value ∙ c.if-len-sight.false in
    let entry : length c.args.sight.now.lookup.now.rules.now.entries.now + c.args.number + 1 - 1 ≡ length c.args.sight.now.lookup.now.rules.now.entries.now + c.args.number = omega arith in
    IfOk-weaker c.try_rule.result _ _ (λ o h. IfSome_then o h (λ x by.
    family_choice c.args.sight.now.lookup.now.rules.now c.args.number (family_of (slice_index_or c.args.sight.now.lookup.now.rules.now.families.now c.args.number c.index-sight-number.result)) (rule_of c.entry_raised-entry.result.now) k c.as_slice.result.now c.in-Some.instance c.in-Some.ensures (lines_seen c.args.sight.now.lookup.now) (number_seen c.args.sight.now.lookup.now) c.args.sight.now.window.now c.args.sight.now.form.now x c.requires.sight.lookup.ready c.requires.sight.stands.is_window c.requires.sight.form c.as_slice.ensures.value long
    (subst (λ n. IsChoiceBy c.args.sight.now.lookup.now.rules.now.costs.now c.args.sight.now.lookup.now.rules.now.base (entry_rule c.in-Some.instance.rule) (lines_seen c.args.sight.now.lookup.now) (number_seen c.args.sight.now.lookup.now) n c.in-Some.instance.number x) entry by))) c.try_rule.ensures.some

pub returns-in-Some-clause-none : goal.returns-in-Some-clause-none
returns-in-Some-clause-none g c =
    let k = known c.args.sight.now.lookup.now.rules.now c.args.number c.index-sight-number.result c.entry_raised-entry.result.now c.requires.sight.lookup.ready c.requires.number c.index-sight-number.is c.entry_raised-entry.ensures in
    IfOk-weaker c.try_rule.result _ _ (λ o h. if_none o h (λ none.
    none_tried c.args.sight.now.lookup.now.rules.now c.args.number (family_of (slice_index_or c.args.sight.now.lookup.now.rules.now.families.now c.args.number c.index-sight-number.result)) (rule_of c.entry_raised-entry.result.now) k c.as_slice.result.now c.in-Some.instance c.in-Some.ensures _ (lines_seen c.args.sight.now.lookup.now) (number_seen c.args.sight.now.lookup.now) c.args.sight.now.window.now c.args.sight.now.form.now c.requires.sight.lookup.ready c.requires.sight.stands.is_window c.requires.sight.form c.as_slice.ensures.value none)) c.try_rule.ensures.none

pub returns-in-Some-clause-cost : goal.returns-in-Some-clause-cost
returns-in-Some-clause-cost g c =
    let k = known c.args.sight.now.lookup.now.rules.now c.args.number c.index-sight-number.result c.entry_raised-entry.result.now c.requires.sight.lookup.ready c.requires.number c.index-sight-number.is c.entry_raised-entry.ensures in
    let long = sym c.len.ensures.value ∙ c.if-len-sight.false in
    let own = family_length c.args.sight.now.lookup.now.rules.now c.args.number (family_of (slice_index_or c.args.sight.now.lookup.now.rules.now.families.now c.args.number c.index-sight-number.result)) (rule_of c.entry_raised-entry.result.now) k in
    counted _ _ c.args.steps.now c.try_rule.new.steps (own ∙ long) c.try_rule.ensures.cost
