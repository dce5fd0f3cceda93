use Rattle.std.proofs.Common.{subst}
use Rattle.rule_table.specs.Views.{table_of}
use Rattle.table_audit.specs.Soundness.{IsSound}
use Rattle.table_audit.proofs.Sound.{accepted_sound}
use Rattle.table_audit.proofs.audited.Audited.table.Goals as goal

pub returns-clause-sound : goal.returns-clause-sound
returns-clause-sound c = subst (λ t. IsSound (table_of t)) c.self.view_is (accepted_sound (table_of c.self.inside.table) c.self.invariant.0 c.self.invariant.1)
