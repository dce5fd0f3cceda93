use Rattle.std.proofs.Common.{sym, length}
use Rattle.std.proofs.lemmas.Bool.{ltb-true}
use Rattle.liveness.proofs.Windows.{nth_some, nth_none}
use Rattle.liveness.proofs.window.instr_at.Goals as goal

pub returns-in-Some : goal.returns-in-Some
returns-in-Some c = let h = c.in-Some.ensures.lookup in nth_some c.args.new.now c.args.number c.in-Some.instr.now (ltb-true c.args.number (length c.args.new.now) (sym h.0)) h.1

pub returns-in-None : goal.returns-in-None
returns-in-None c = nth_none c.args.new.now c.args.number c.in-None.ensures.lookup.3
