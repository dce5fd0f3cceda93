use Rattle.std.proofs.Common.{◌≡◌, ◌∙◌, List, Some, ap, arith, length, map, refl, subst}
use Rattle.std.specs.Prelude.{slice_get}
use Rattle.std.specs.Option.{option_map}
use Rattle.std.proofs.lemmas.Option.{slice_get-map, slice_get_read}
use Rattle.rule_table.specs.Table as tables
use Rattle.rule_table.specs.declared.table.Family.{Family}
use Rattle.rule_table.specs.Views.{family_of, rule_of}
use Rattle.table_audit.specs.Families.{entry_at}
use Rattle.table_audit.specs.Soundness.{instances_of}
use Rattle.window_rewrite.specs.Rules.{blind_side, families_in, AreNoted}
use Rattle.window_rewrite.proofs.Heads.{more_noted, none_noted}
use Rattle.window_rewrite.proofs.left_side_hashes.LeftSideHashes.of_families.Goals as goal

pub loop-number-init : goal.loop-number-init
loop-number-init c = none_noted c.args.costs.now blind_side (families_in (map rule_of c.args.entries.now) (map family_of c.args.families.now)) c.in_ok-marks.marks c.in_ok-marks.ensures

pub loop-number-preserved : goal.loop-number-preserved
loop-number-preserved c =
    let es : List tables.Rule = map rule_of c.args.entries.now in
    let n = c.loop-number.number in
    let f : Family = c.index-families-number.result in
    let at : slice_get c.args.families.now n ≡ Some f = slice_get_read c.args.families.now _ _ f refl c.loop-number-test.true c.index-families-number.is in
    let there : slice_get (families_in es (map family_of c.args.families.now)) n ≡ Some (instances_of (family_of f) (entry_at es (family_of f).entry)) =
    slice_get-map (λ g. instances_of g (entry_at es g.entry)) (map family_of c.args.families.now) n
    ∙ ap (option_map (λ g. instances_of g (entry_at es g.entry))) (slice_get-map family_of c.args.families.now n ∙ ap (option_map family_of) at) in
    more_noted c.args.costs.now blind_side (families_in es (map family_of c.args.families.now)) n (instances_of (family_of f) (entry_at es (family_of f).entry)) c.loop-number.marks c.add_family.new.self there c.loop-number.invariant c.add_family.ensures.many c.add_family.ensures.stay c.add_family.ensures.noted

pub returns : goal.returns
returns c =
    let end = c.loop-number-test.false in
    let within = c.loop-number.auto.number-end in
    let whole : c.loop-number.number ≡ length c.args.families.now = omega arith in
    subst (λ n. AreNoted c.args.costs.now blind_side (families_in (map rule_of c.args.entries.now) (map family_of c.args.families.now)) n c.loop-number.marks) whole c.loop-number.invariant
