use Rattle.std.proofs.Common.{◌∙◌, ap, arith, length, map, sym}
use Rattle.std.specs.Prelude.{◌%◌}
use Rattle.rule_table.specs.Views.{family_of, rule_of}
use Rattle.window_rewrite.specs.Rules.{chain_of, left_forms, rules_in}
use Rattle.window_rewrite.proofs.Formed.{form_number}
use Rattle.window_rewrite.proofs.Joined.{entry_used}
use Rattle.window_rewrite.proofs.finding.first_number.Goals as goal

pub first-requires : goal.first-requires
first-requires c = omega (arith, c.requires.ready.index.entry_chains.many_firsts)

pub returns : goal.returns
returns c window is =
    let firsts = length c.args.rules.now.index.now.entries.firsts.items in
    record {
      chain = c.args.form.now.number % firsts;
      are_in = λ k rule registers at s.
          let f = c.requires.ready.fit k 0 rule (entry_used (map rule_of c.args.rules.now.entries.now) (map family_of c.args.rules.now.families.now) k rule at) in
          ap (chain_of (left_forms (rules_in c.args.rules.now.entries.now))) (form_number rule window c.args.form.now f.sound f.canonical is registers s.stands) ∙ ap (λ m. c.args.form.now.number % m) (sym c.requires.ready.index.entry_chains.many_firsts);
      is = c.requires.ready.index.entry_chains.firsts (c.args.form.now.number % firsts) c.first.result c.first.ensures;
    }
