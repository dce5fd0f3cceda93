use Rattle.std.proofs.Common.{Some, inr, sym}
use Rattle.rule_table.specs.Views.{family_of, rule_of, table_of}
use Rattle.table_audit.proofs.Raising.{raised_fits, none_raised, answer_raised, family_within}
use Rattle.table_audit.proofs.families.check_family.Goals as goal

pub returns-in-None-clause-answers : goal.returns-in-None-clause-answers
returns-in-None-clause-answers g c = inr (none_raised (table_of c.args.table.now) c.args.number (family_of c.args.family.now) c.in-None.ensures)

pub check_raised-requires : goal.check_raised-requires
check_raised-requires g c = raised_fits (table_of c.args.table.now) (family_of c.args.family.now) (rule_of c.in-Some.entry.now) c.requires (sym c.in-Some.ensures)

pub returns-in-Some-clause-answers : goal.returns-in-Some-clause-answers
returns-in-Some-clause-answers g c = answer_raised (table_of c.args.table.now) c.args.number (family_of c.args.family.now) (Some (rule_of c.in-Some.entry.now)) _ c.in-Some.ensures c.check_raised.ensures.answers

pub returns-in-Some-clause-cost : goal.returns-in-Some-clause-cost
returns-in-Some-clause-cost g c = family_within (table_of c.args.table.now) (family_of c.args.family.now) (Some (rule_of c.in-Some.entry.now)) _ _ c.in-Some.ensures c.check_raised.ensures.cost
