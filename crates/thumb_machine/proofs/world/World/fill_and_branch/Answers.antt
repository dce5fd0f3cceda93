use Rattle.std.proofs.Common.{ℕ, List, ◌++◌, ◌<◌, ◌≤◌, length, refl, sym, ap, ◌∙◌}
use Rattle.std.proofs.lemmas.List.{length-map}
use Rattle.thumb_machine.specs.declared.world.World.{World}
use Rattle.thumb_model.specs.Effect.{assigned, sp}
use Rattle.thumb_model.specs.Accesses.{behind, device_words, left_from, many_outputs}
use Rattle.thumb_model.specs.Acts.{with_pc}
use Rattle.thumb_machine.specs.Registers.{values_of}
use Rattle.thumb_machine.specs.Memory.{memory_of}
use Rattle.thumb_machine.specs.Outside.{answers_of, events_of}
use Rattle.thumb_machine.specs.Acting.{landing_of, world_of}
use Rattle.thumb_machine.specs.Landings.{landed_events}
use Rattle.thumb_machine.proofs.Listed.{enough_before, enough_last, left_behind}
use Rattle.thumb_machine.proofs.Popped.{popped_acts}
use Rattle.thumb_machine.proofs.world.World.fill_and_branch.Goals as goal

pub fill-requires-clause-enough : goal.fill-requires-clause-enough
fill-requires-clause-enough g c = enough_before (length c.args.answers.now) c.args.address c.args.list.now 15 c.requires.enough

pub read-word-requires : goal.read-word-requires
read-word-requires g c = λ d.
    let enough : device_words c.args.address (with_pc c.args.list.now) ≤ length (answers_of c.args.answers.now) = rw length-map c.requires.enough in
    let last : 0 < length (left_from (answers_of c.args.answers.now) c.args.address c.args.list.now) =
    enough_last (answers_of c.args.answers.now) c.args.address c.args.list.now 15 enough (rw c.behind-2.ensures at d) in
    rw length-map at (rw (← c.fill.ensures.left) at last)

pub returns : goal.returns
returns g c =
    popped_acts c.args.self.now c.arrive.new.self c.args.answers.now c.read-word.new.answers (g.P.Lands.lands c.args.place.now) (landing_of c.lands.result) c.args.address c.read-word.result c.args.list.now
    (values_of c.read-word.new.self.registers) c.arrive.result
    (c.read-word.ensures.word ∙ rw (c.behind-2.ensures, c.fill.ensures.left, c.fill.ensures.memory) refl)
    c.lands.ensures
    (ap (λ (w : World). values_of w.registers) c.read-word.ensures.world ∙ c.fill.ensures.registers
    ∙ ap (λ (base : ℕ). assigned (many_outputs base c.behind.result c.args.address c.args.list.now (world_of c.args.self.now c.args.answers.now)) (values_of c.args.self.now.registers)) c.from.ensures
    ∙ ap (λ (back : ℕ). assigned (many_outputs sp back c.args.address c.args.list.now (world_of c.args.self.now c.args.answers.now)) (values_of c.args.self.now.registers))
    (c.behind.ensures ∙ ap (λ (xs : List ℕ). behind xs c.args.address) c.requires.all))
    (ap values_of c.arrive.ensures.registers)
    (ap memory_of (c.arrive.ensures.memory ∙ ap (λ (w : World). w.memory) c.read-word.ensures.world ∙ c.fill.ensures.memory))
    (c.arrive.ensures.events
    ∙ ap (λ (w : World). events_of w.events.items ++ landed_events (landing_of c.lands.result) c.read-word.result (values_of c.read-word.new.self.registers)) c.read-word.ensures.world
    ∙ rw (c.fill.ensures.events, c.tell_loads.ensures.told, c.requires.all) refl)
    (c.read-word.ensures.left ∙ rw (c.fill.ensures.left, c.behind-2.ensures) (sym (left_behind (answers_of c.args.answers.now) c.args.address c.args.list.now 15)))
    c.arrive.ensures.next
    c.arrive.ensures.ends
