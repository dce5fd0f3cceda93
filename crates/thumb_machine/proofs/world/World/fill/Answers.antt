use Rattle.std.proofs.Common.{ℕ, [], ◌∷◌, ap, ◌∙◌, if◌then◌else◌}
use Rattle.thumb_model.specs.Effect.{Values, assigned, one_of, written_to}
use Rattle.thumb_model.specs.Accesses.{words_from}
use Rattle.thumb_machine.specs.Registers.{values_of}
use Rattle.thumb_machine.specs.Memory.{memory_of}
use Rattle.thumb_machine.specs.Outside.{answers_of}
use Rattle.thumb_machine.proofs.Listed.{base_word}
use Rattle.thumb_machine.proofs.world.World.fill.Goals as goal

pub returns-clause-registers : goal.returns-clause-registers
returns-clause-registers c =
    c.write_back.ensures.registers
    ∙ ap (λ (u : Values). assigned ((c.args.base, written_to c.args.base (if one_of c.args.base c.args.list.now then u c.args.base else c.args.back)) ∷ []) u) c.read_many.ensures.registers
    ∙ ap (λ (word : ℕ). assigned ((c.args.base, written_to c.args.base word) ∷ words_from (memory_of c.args.self.now.memory) (answers_of c.args.answers.now) c.args.address c.args.list.now) (values_of c.args.self.now.registers))
    (base_word (memory_of c.args.self.now.memory) (answers_of c.args.answers.now) c.args.address c.args.list.now c.args.base c.args.back (values_of c.args.self.now.registers))
