use Rattle.std.proofs.Common.{[], ◌∷◌, ◌+◌, map, refl, if◌then◌else◌}
use Rattle.thumb_instr.specs.declared.instr.Instr.TheVariants as instr
use Rattle.thumb_instr.specs.Shape.{pushed, registers_in}
use Rattle.thumb_model.specs.Effect.{sp}
use Rattle.thumb_model.specs.States.{puts, tells, On, Sys}
use Rattle.thumb_model.specs.Accesses.{behind, below, stores_many}
use Rattle.thumb_model.specs.Acts.{branches, holds, hints, jumps}
use Rattle.thumb_machine.specs.Acting.{around_of, landing_of, target_of}
use Rattle.thumb_machine.proofs.Acts.{acts_row}
use Rattle.thumb_machine.proofs.world.World.act.Goals as goal

pub returns-in-Bx : goal.returns-in-Bx
returns-in-Bx g c =
    acts_row (around_of c.args.around.now (g.P.Lands.lands c.args.place.now)) c.args.instr.now (instr.Bx c.in-Bx.source) (branches (landing_of c.lands.result) c.get-word.result)
    c.args.self.now c.args.answers.now c.branch-self.new.self c.args.answers.now c.branch-self.result c.in-Bx.is (rw (c.lands.ensures, c.get-word.ensures) refl) (c.branch-self.ensures c.args.answers.now)

pub returns-in-Push : goal.returns-in-Push
returns-in-Push g c =
    acts_row (around_of c.args.around.now (g.P.Lands.lands c.args.place.now)) c.args.instr.now (instr.Push c.in-Push.list)
    (λ w. stores_many sp (below (pushed c.in-Push.list.number) (w.values sp)) (below (pushed c.in-Push.list.number) (w.values sp)) (map w.values (pushed c.in-Push.list.number)) w)
    c.args.self.now c.args.answers.now c.push.new.self c.args.answers.now c.push.result c.in-Push.is refl (c.push.ensures c.args.answers.now)

pub returns-in-StoreMany : goal.returns-in-StoreMany
returns-in-StoreMany g c =
    acts_row (around_of c.args.around.now (g.P.Lands.lands c.args.place.now)) c.args.instr.now (instr.StoreMany c.in-StoreMany.stored)
    (λ w. stores_many c.in-StoreMany.stored.base.number (behind (registers_in c.in-StoreMany.stored.list.number) (w.values c.in-StoreMany.stored.base.number)) (w.values c.in-StoreMany.stored.base.number)
    (map w.values (registers_in c.in-StoreMany.stored.list.number)) w)
    c.args.self.now c.args.answers.now c.store_list.new.self c.args.answers.now c.store_list.result c.in-StoreMany.is refl (c.store_list.ensures c.args.answers.now)

pub returns-in-Breakpoint : goal.returns-in-Breakpoint
returns-in-Breakpoint g c =
    acts_row (around_of c.args.around.now (g.P.Lands.lands c.args.place.now)) c.args.instr.now (instr.Breakpoint c.in-Breakpoint.number) (tells (Sys (256 + c.in-Breakpoint.number.number) []))
    c.args.self.now c.args.answers.now c.tell_sys.new.self c.args.answers.now c.tell_sys.result c.in-Breakpoint.is refl (c.tell_sys.ensures c.args.answers.now)

pub returns-in-Hint : goal.returns-in-Hint
returns-in-Hint g c =
    acts_row (around_of c.args.around.now (g.P.Lands.lands c.args.place.now)) c.args.instr.now (instr.Hint c.in-Hint.hint) (hints c.in-Hint.hint)
    c.args.self.now c.args.answers.now c.hint.new.self c.args.answers.now c.hint.result c.in-Hint.is refl (c.hint.ensures c.args.answers.now)

pub returns-in-ChangeState : goal.returns-in-ChangeState
returns-in-ChangeState g c =
    acts_row (around_of c.args.around.now (g.P.Lands.lands c.args.place.now)) c.args.instr.now (instr.ChangeState c.in-ChangeState.interrupts) (tells (Sys c.interrupts_code.result []))
    c.args.self.now c.args.answers.now c.tell_sys-in-ChangeState.new.self c.args.answers.now c.tell_sys-in-ChangeState.result c.in-ChangeState.is (rw c.interrupts_code.ensures refl)
    (c.tell_sys-in-ChangeState.ensures c.args.answers.now)

pub returns-in-BranchIf : goal.returns-in-BranchIf
returns-in-BranchIf g c =
    acts_row (around_of c.args.around.now (g.P.Lands.lands c.args.place.now)) c.args.instr.now (instr.BranchIf c.in-BranchIf.condition c.in-BranchIf.distance)
    (λ w. if holds c.in-BranchIf.condition w.values then jumps (target_of c.args.around.now.target) w else puts [] On w)
    c.args.self.now c.args.answers.now c.jump_if.new.self c.args.answers.now c.jump_if.result c.in-BranchIf.is refl (c.jump_if.ensures c.args.answers.now)

pub returns-in-Branch : goal.returns-in-Branch
returns-in-Branch g c =
    acts_row (around_of c.args.around.now (g.P.Lands.lands c.args.place.now)) c.args.instr.now (instr.Branch c.in-Branch.distance) (jumps (target_of c.args.around.now.target))
    c.args.self.now c.args.answers.now c.jump.new.self c.args.answers.now c.jump.result c.in-Branch.is refl (c.jump.ensures c.args.answers.now)

pub returns-in-Barrier : goal.returns-in-Barrier
returns-in-Barrier g c =
    acts_row (around_of c.args.around.now (g.P.Lands.lands c.args.place.now)) c.args.instr.now (instr.Barrier c.in-Barrier.barrier) (tells (Sys c.barrier_code.result []))
    c.args.self.now c.args.answers.now c.tell_sys-in-Barrier.new.self c.args.answers.now c.tell_sys-in-Barrier.result c.in-Barrier.is (rw c.barrier_code.ensures refl)
    (c.tell_sys-in-Barrier.ensures c.args.answers.now)

pub returns-in-WriteMask : goal.returns-in-WriteMask
returns-in-WriteMask g c =
    acts_row (around_of c.args.around.now (g.P.Lands.lands c.args.place.now)) c.args.instr.now (instr.WriteMask c.in-WriteMask.source) (tells (Sys 523 (c.get-word-in-WriteMask.result ∷ [])))
    c.args.self.now c.args.answers.now c.tell_sys-in-WriteMask.new.self c.args.answers.now c.tell_sys-in-WriteMask.result c.in-WriteMask.is (rw c.get-word-in-WriteMask.ensures refl)
    (c.tell_sys-in-WriteMask.ensures c.args.answers.now)
