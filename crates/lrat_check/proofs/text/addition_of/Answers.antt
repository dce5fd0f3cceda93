use Rattle.std.proofs.Common.{sym}
use Rattle.lrat_check.proofs.Texts.{hints_not_end}
use Rattle.lrat_check.proofs.text.addition_of.Goals as goal

pub returns-in_default : goal.returns-in_default
returns-in_default c = λ hints g e. let none = rw c.in_default.is at c.in_ok-hints.ensures in none hints g.2 (hints_not_end hints g.2) (sym e)
