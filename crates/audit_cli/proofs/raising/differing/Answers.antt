use Rattle.std.proofs.Common.{◌≡◌, rules, length}
use Rattle.rule_table.specs.Views.{family_of, rule_of, table_of}
use Rattle.audit_cli.proofs.GeneraliseLemmas.{differs}
use Rattle.audit_cli.proofs.raising.differing.Goals as goal

pub returns : goal.returns
returns c =
    let four : length c.state_of.result.r ≡ 4 = search rules in
    differs (table_of c.args.table.now) (family_of c.args.family.now) (rule_of c.args.entry.now) c.alphabet_registers-registers.result c.args.model.now c.state_of.result c.value_of.result
    c.requires.entry c.args.entry.now.mask.in_masks c.requires.raisable c.alphabet_registers-registers.ensures.value c.alphabet_registers-registers.ensures.few c.requires.model four c.state_of.ensures.items c.value_of.ensures
