use Rattle.std.proofs.Common.{◌≡◌, ◌<◌, ◌↔◌, ◌∙◌, true, length, refl, sym, ap, subst, arith}
use Rattle.std.proofs.lemmas.Option.{slice_get_read}
use Rattle.thumb_instr.specs.Items.{has}
use Rattle.thumb_model.specs.Flow.{LiveAfter}
use Rattle.liveness.specs.Live.{word_of, set_at, Sets}
use Rattle.liveness.proofs.sets.Live.after.Goals as goal

pub returns-clause-live : goal.returns-clause-live
returns-clause-live c = λ code live x.
    let len : length c.self.inside.after.items ≡ length c.args.self.now.after = ap (λ (s : Sets). length s.after) c.self.view_is in
    let within : c.args.place < length c.self.inside.after.items = omega (arith, len, c.requires) in
    let same : set_at c.args.self.now.after c.args.place ≡ c.index.result.now.bits =
    ap (λ (s : Sets). set_at s.after c.args.place) (sym c.self.view_is) ∙ ap word_of (slice_get_read c.self.inside.after.items _ c.args.place c.index.result.now refl within c.index.ensures) in
    subst (λ w. (has w x ≡ true) ↔ LiveAfter code c.args.place x) same (live.after c.args.place x (omega (arith, live.after_len, c.requires)))
