use Rattle.std.proofs.Common.{◌∙◌, map, ap, replicate, subst, sym, true}
use Rattle.std.proofs.lemmas.List.{length-map}
use Rattle.rule_model.specs.Rules.{alone}
use Rattle.rule_table.specs.Views.{family_of, rule_of}
use Rattle.window_rewrite.specs.Rules.{blind_side, families_in, left_side, rules_in, AreNoted}
use Rattle.window_rewrite.proofs.index.RuleIndex.of.Goals as goal

pub returns : goal.returns
returns c = record {
  marks = subst (λ n. AreNoted c.args.costs.now left_side (alone (rules_in c.args.entries.now)) n c.in_ok-of.field-0) (sym (length-map c.args.entries.now rule_of)) c.in_ok-of.ensures;
  holes = subst (λ n. AreNoted c.args.costs.now blind_side (families_in (map rule_of c.args.entries.now) (map family_of c.args.families.now)) n c.in_ok-of_families.field-0) (sym (length-map c.args.families.now family_of)) c.in_ok-of_families.ensures;
  led = c.in_ok-entry_chains.ensures.led;
  entry_chains = c.in_ok-entry_chains.ensures.chains;
  family_chains = c.in_ok-family_chains.ensures.chains;
  all = c.in_ok-family_chains.ensures.all ∙ ap (λ n. replicate n true) (sym (length-map c.args.families.now family_of));
}
