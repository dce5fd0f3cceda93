use Rattle.std.proofs.Common.{◌∙◌, ℕ, List, length, ap, subst, sym}
use Rattle.std.proofs.lemmas.List.{length-map}
use Rattle.std.proofs.lemmas.Result.{IfOk-weaker}
use Rattle.window_rewrite.specs.Forms.{form_of}
use Rattle.window_rewrite.specs.Rules.{rules_in, AreChains, AreLed}
use Rattle.window_rewrite.proofs.Accepted.{rules_length}
use Rattle.window_rewrite.proofs.index.entry_chains.Goals as goal

pub of-requires : goal.of-requires
of-requires c =
    c.in_ok-kept.ensures.many ∙ sym (ap (λ (forms : List ℕ). length forms) (c.deref.ensures.value ∙ c.in_ok-forms.ensures) ∙ length-map (rules_in c.args.entries.now) (λ r. form_of r.left) ∙ rules_length c.args.entries.now)

pub returns-clause-chains : goal.returns-clause-chains
returns-clause-chains c = IfOk-weaker c.of.result _ _ (λ chains h. subst (λ (forms : List ℕ). AreChains forms 0 chains) (c.deref.ensures.value ∙ c.in_ok-forms.ensures) h) c.of.ensures.chains

pub returns-clause-led : goal.returns-clause-led
returns-clause-led c =
    let led : AreLed c.args.costs.now (rules_in c.args.entries.now) c.in_ok-kept.kept.items (length (rules_in c.args.entries.now)) =
    subst (λ n. AreLed c.args.costs.now (rules_in c.args.entries.now) c.in_ok-kept.kept.items n) (sym (rules_length c.args.entries.now)) c.in_ok-kept.ensures.led in
    IfOk-weaker c.of.result _ _ (λ chains same. rw (same) led) c.of.ensures.kept
