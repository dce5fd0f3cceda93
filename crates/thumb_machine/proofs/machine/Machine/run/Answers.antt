use Rattle.std.proofs.Common.{Some, refl, subst, ap, ◌∙◌}
use Rattle.std.specs.Prelude.{slice_get, Option}
use Rattle.thumb_machine.specs.declared.program.PlaceContents.{PlaceContents}
use Rattle.thumb_machine.specs.Running.{IsPlaceContents}
use Rattle.thumb_machine.proofs.Stepping.{row_steps}
use Rattle.thumb_machine.proofs.machine.Machine.run.Goals as goal

pub returns-in_ok-next-in-Instruction-clause-step : goal.returns-in_ok-next-in-Instruction-clause-step
returns-in_ok-next-in-Instruction-clause-step c = λ names code is.
    row_steps names code c.args.self.now c.args.answers.now c.args.place (slice_get code.places c.args.place) c.in-Instruction.instr c.in-Instruction.around c.in_ok-next-in-Instruction.next _ c.act.new.answers c.arrive.result is refl
    (subst (λ (o : Option PlaceContents). IsPlaceContents names code c.args.place (slice_get code.places c.args.place) o) (c.requires.row ∙ ap (λ (r : PlaceContents). Some r) c.in-Instruction.is) (is.rows c.args.place))
    (record {
      here = c.requires.here;
      acted = c.in_ok-next-in-Instruction.ensures;
      at = c.arrive.ensures.at c.args.place c.requires.here;
      stage = c.arrive.ensures.stage;
      leads = c.arrive.ensures.ends;
    })
