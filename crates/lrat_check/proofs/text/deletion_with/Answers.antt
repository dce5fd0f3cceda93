use Rattle.std.proofs.Common.{sym}
use Rattle.lrat_check.proofs.Texts.{ids_not_end}
use Rattle.lrat_check.proofs.text.deletion_with.Goals as goal

pub returns-in-None : goal.returns-in-None
returns-in-None c = λ ids h e. let none = rw c.in-None.is at c.in_ok-read_last.ensures in none ids h (ids_not_end ids h) (sym e)
