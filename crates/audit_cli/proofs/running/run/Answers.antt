use Rattle.std.proofs.Common.{◌≡◌, ◌∙◌, arith, subst, sym}
use Rattle.thumb_machine.specs.declared.program.Program.{Program}
use Rattle.thumb_machine.specs.Positions.{state_of}
use Rattle.thumb_machine.specs.Running.{IsProgram}
use Rattle.audit_cli.proofs.RunningLemmas.{all_taken, asks_more, asks_unseen, is_over, one_more, seen}
use Rattle.audit_cli.proofs.running.run.Goals as goal

pub loop-taken-preserved : goal.loop-taken-preserved
loop-taken-preserved c = record {
  program = c.in_ok-stage.ensures.program ∙ c.loop-taken.invariant.program;
  far = λ names code is. one_more names code (state_of c.args.machine.now.world c.args.machine.now.at c.args.answers.now) c.args.most c.loop-taken.taken c.loop-taken.machine c.step.new.self c.loop-taken.answers c.step.new.answers
      c.in_ok-stage.stage c.loop-taken-test.true (c.loop-taken.invariant.far names code is)
      (c.in_ok-stage.ensures.step names code (subst (λ (p : Program). IsProgram names code p) (sym c.loop-taken.invariant.program) is)) c.in-Going.is;
}

pub returns-in-Wants-clause-run : goal.returns-in-Wants-clause-run
returns-in-Wants-clause-run c = λ names code is.
    asks_more names code (state_of c.args.machine.now.world c.args.machine.now.at c.args.answers.now) c.args.most c.loop-taken.taken c.loop-taken.machine c.step.new.self c.loop-taken.answers c.step.new.answers
    c.in_ok-stage.stage c.loop-taken-test.true (c.loop-taken.invariant.far names code is)
    (c.in_ok-stage.ensures.step names code (subst (λ (p : Program). IsProgram names code p) (sym c.loop-taken.invariant.program) is)) c.in-Wants.is

pub returns-in-Wants-clause-events : goal.returns-in-Wants-clause-events
returns-in-Wants-clause-events c = λ names code is.
    asks_unseen names code (state_of c.args.machine.now.world c.args.machine.now.at c.args.answers.now) c.args.most c.loop-taken.taken c.loop-taken.machine c.step.new.self c.loop-taken.answers c.step.new.answers
    c.in_ok-stage.stage c.loop-taken-test.true (c.loop-taken.invariant.far names code is)
    (c.in_ok-stage.ensures.step names code (subst (λ (p : Program). IsProgram names code p) (sym c.loop-taken.invariant.program) is)) c.in-Wants.is

pub returns-in_default : goal.returns-in_default
returns-in_default c = record {
  run = λ names code is. is_over names code (state_of c.args.machine.now.world c.args.machine.now.at c.args.answers.now) c.args.most c.loop-taken.taken c.loop-taken.machine c.step.new.self c.loop-taken.answers c.step.new.answers
      c.in_ok-stage.stage c.loop-taken-test.true (c.loop-taken.invariant.far names code is)
      (c.in_ok-stage.ensures.step names code (subst (λ (p : Program). IsProgram names code p) (sym c.loop-taken.invariant.program) is)) c.in_default.not-Going c.in_default.not-Wants;
  events = λ names code is. seen names code (state_of c.args.machine.now.world c.args.machine.now.at c.args.answers.now) c.args.most c.loop-taken.taken c.loop-taken.machine c.step.new.self c.loop-taken.answers c.step.new.answers
      c.in_ok-stage.stage c.loop-taken-test.true (c.loop-taken.invariant.far names code is)
      (c.in_ok-stage.ensures.step names code (subst (λ (p : Program). IsProgram names code p) (sym c.loop-taken.invariant.program) is));
}

pub returns-clause-run : goal.returns-clause-run
returns-clause-run c = λ names code is.
    let all : c.loop-taken.taken ≡ c.args.most = omega arith in
    all_taken names code (state_of c.args.machine.now.world c.args.machine.now.at c.args.answers.now) c.args.most c.loop-taken.machine c.loop-taken.answers
    (rw all at (c.loop-taken.invariant.far names code is))
