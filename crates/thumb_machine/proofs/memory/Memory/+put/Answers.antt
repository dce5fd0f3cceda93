use Rattle.std.proofs.Common.{◌≡◌, suc, [], ◌∷◌, ◌∙◌, ap, ◌-◌, ◌%◌, ℕ, arith}
use Rattle.thumb_model.specs.Effect.{assigned}
use Rattle.thumb_machine.specs.Memory.{memory_of}
use Rattle.thumb_machine.proofs.Values.{put_step}
use Rattle.thumb_machine.proofs.memory.Memory.+put.Goals as goal

pub returns-clause-put : goal.returns-clause-put
returns-clause-put t c =
    let e : c.args.size ≡ suc (c.args.size - 1) = omega arith in
    c.put_byte.ensures.put ∙ ap (λ (m : ℕ → ℕ). assigned ((c.args.address, c.args.value % 256) ∷ []) m) c.put.ensures.put
    ∙ put_step (memory_of c.args.self.now) c.args.address c.args.size (c.args.size - 1) c.args.value e
