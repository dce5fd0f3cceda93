use Rattle.std.proofs.Common.{◌≡◌, ◌∙◌, ap, arith, length, subst}
use Rattle.std.specs.Prelude.{◌%◌, drop}
use Rattle.window_rewrite.specs.Families.{family_forms}
use Rattle.window_rewrite.specs.Rules.{chain_of, chains_of, first_with}
use Rattle.window_rewrite.proofs.families.first_number.Goals as goal

pub first-requires : goal.first-requires
first-requires c = omega (arith, c.requires.index.family_chains.many_firsts)

pub returns : goal.returns
returns c =
    let firsts = length c.args.rules.now.index.now.families.firsts.items in
    subst (λ n. c.first.result ≡ first_with c.args.rules.now.index.now.families.kept.items n 0 (drop 0 (chains_of (family_forms c.args.rules.now))))
    (ap (λ m. c.hidden_of.result % m) c.requires.index.family_chains.many_firsts ∙ ap (chain_of (family_forms c.args.rules.now)) c.hidden_of.ensures)
    (c.requires.index.family_chains.firsts (c.hidden_of.result % firsts) c.first.result c.first.ensures)
