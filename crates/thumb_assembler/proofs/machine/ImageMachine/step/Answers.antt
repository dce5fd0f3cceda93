use Rattle.thumb_assembler.proofs.Stepping.{ended_step, fall_steps}
use Rattle.thumb_assembler.proofs.machine.ImageMachine.step.Goals as goal

pub returns-in-Ended-clause-step : goal.returns-in-Ended-clause-step
returns-in-Ended-clause-step c = ended_step c.args.self.now c.args.answers.now c.in-Ended.end c.stage_of.result c.in-Ended.is c.stage_of.ensures

pub returns-in-None-clause-step : goal.returns-in-None-clause-step
returns-in-None-clause-step c = fall_steps c.args.self.now _ c.args.answers.now c.in-Here.at c.fall.result c.in-Here.is c.in-None.ensures c.fall.ensures.told c.fall.ensures.ended c.fall.ensures.kept
