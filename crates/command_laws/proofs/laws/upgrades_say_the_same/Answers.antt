use Rattle.command_laws.proofs.UpgradeLemmas.{upgrades_are_tables, upgrades_audited_alike, upgrades_rewrite_alike, later_are_kept}
use Rattle.command_laws.proofs.laws.upgrades_say_the_same.Goals as goal

pub returns-clause-tables : goal.returns-clause-tables
returns-clause-tables c = upgrades_are_tables

pub returns-clause-audited : goal.returns-clause-audited
returns-clause-audited c = upgrades_audited_alike

pub returns-clause-rewriting : goal.returns-clause-rewriting
returns-clause-rewriting c = upgrades_rewrite_alike

pub returns-clause-later : goal.returns-clause-later
returns-clause-later c = later_are_kept
