use Rattle.std.proofs.Common.{◌∙◌, ℕ, ap, subst}
use Rattle.thumb_model.specs.States.{Around}
use Rattle.thumb_model.specs.Acts.{act}
use Rattle.thumb_model.specs.Steps.{arrives}
use Rattle.thumb_machine.specs.Acting.{Acted, next_of, world_of}
use Rattle.thumb_assembler.specs.Machines.{loaded_of}
use Rattle.thumb_assembler.proofs.Stepping.{around_is, does_step}
use Rattle.thumb_assembler.proofs.machine.ImageMachine.run.Goals as goal

pub returns-clause-step : goal.returns-clause-step
returns-clause-step c =
    does_step c.args.self.now c.args.answers.now c.args.address c.args.instr c.in_ok-next.next _ c.act.new.answers c.arrive.result c.requires.fetched
    (record {
      here = c.requires.here;
      acted = subst (λ (a : Around). Acted (act a c.args.instr (world_of c.args.self.now.world c.args.answers.now)) c.args.self.now.world c.act.new.self c.act.new.answers c.in_ok-next.next)
          (around_is (loaded_of c.args.self.now.image) c.args.address c.args.instr c.around-around.result c.around-around.ensures.target c.around-around.ensures.literal c.around-around.ensures.link) c.in_ok-next.ensures;
      at = c.arrive.ensures.at c.args.address c.requires.here ∙ ap (λ (y : ℕ). arrives c.args.address y (next_of c.in_ok-next.next)) c.behind.ensures;
      stage = c.arrive.ensures.stage;
      leads = c.arrive.ensures.ends;
    })
