use Rattle.thumb_machine.proofs.world.World.hint.Goals as goal

pub returns-in-Yield : goal.returns-in-Yield
returns-in-Yield c = rw c.in-Yield.is c.tell_sys.ensures

pub returns-in-Wfe : goal.returns-in-Wfe
returns-in-Wfe c = rw c.in-Wfe.is c.tell_sys-in-Wfe.ensures

pub returns-in-Wfi : goal.returns-in-Wfi
returns-in-Wfi c = rw c.in-Wfi.is c.tell_sys-in-Wfi.ensures

pub returns-in-Sev : goal.returns-in-Sev
returns-in-Sev c = rw c.in-Sev.is c.tell_sys-in-Sev.ensures
