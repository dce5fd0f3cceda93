use Rattle.std.proofs.Common.{ℕ, List, ◌∙◌, ap}
use Rattle.thumb_model.specs.Effect.{Values, assigned}
use Rattle.thumb_model.specs.States.{all_at, with_bytes}
use Rattle.thumb_machine.specs.Memory.{memory_of}
use Rattle.thumb_machine.specs.Outside.{answer_values, brought, event_of}
use Rattle.thumb_machine.proofs.Acts.{answer_taken}
use Rattle.thumb_machine.proofs.world.World.answered.Goals as goal

pub returns : goal.returns
returns c =
    answer_taken (brought c.args.asked) (event_of c.args.event) c.args.self.now _ c.args.answers.now c.pass.new.self c.in-Some.answer.now c.in-Some.ensures c.pass.ensures (record {
      registers = c.answer.ensures ∙ ap (λ (v : Values). assigned (all_at (brought c.args.asked) (answer_values c.in-Some.answer.now)) v) c.in_ok-tell.ensures.told.registers;
      memory =
          c.put_bytes.ensures
          ∙ ap (λ (bs : List (ℕ × ℕ)). with_bytes bs (memory_of c.tell.new.self.memory)) c.as_slice-bytes.ensures
          ∙ ap (λ (m : ℕ → ℕ). with_bytes c.in-Some.answer.now.bytes m) (c.in_ok-tell.ensures.told.memory ∙ c.reserve.ensures.same);
      events = c.in_ok-tell.ensures.told.events;
    })
