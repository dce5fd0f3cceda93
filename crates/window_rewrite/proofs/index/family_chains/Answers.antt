use Rattle.std.proofs.Common.{◌∙◌, ℕ, List, length, map, ap, subst, sym}
use Rattle.std.proofs.lemmas.List.{length-map}
use Rattle.std.proofs.lemmas.Result.{IfOk-weaker}
use Rattle.rule_table.specs.Views.{family_of, rule_of}
use Rattle.window_rewrite.specs.Rules.{AreChains}
use Rattle.window_rewrite.proofs.Raised.{forms_many}
use Rattle.window_rewrite.proofs.index.family_chains.Goals as goal

pub of-requires : goal.of-requires
of-requires c =
    sym c.in_ok-kept.kept.ok.0 ∙ c.in_ok-kept.ensures.len
    ∙ sym (ap (λ (forms : List ℕ). length forms) (c.deref.ensures.value ∙ c.in_ok-forms.ensures) ∙ forms_many (map rule_of c.args.entries.now) (map family_of c.args.families.now) ∙ length-map c.args.families.now family_of)

pub returns-clause-chains : goal.returns-clause-chains
returns-clause-chains c = IfOk-weaker c.of.result _ _ (λ chains h. subst (λ (forms : List ℕ). AreChains forms 0 chains) (c.deref.ensures.value ∙ c.in_ok-forms.ensures) h) c.of.ensures.chains

pub returns-clause-all : goal.returns-clause-all
returns-clause-all c = IfOk-weaker c.of.result _ _ (λ chains same. ap (λ v. v.items) same ∙ c.in_ok-kept.ensures.items_if_clones_equal (λ y e. e)) c.of.ensures.kept
