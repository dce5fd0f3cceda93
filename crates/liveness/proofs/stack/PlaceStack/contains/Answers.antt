use Rattle.std.proofs.Common.{◌∙◌, ap, sym, arith}
use Rattle.thumb_instr.specs.Items.{one_of}
use Rattle.kept_places.proofs.Ranks.{marked_at}
use Rattle.liveness.specs.Stack.{Stack}
use Rattle.liveness.proofs.stack.PlaceStack.contains.Goals as goal

pub returns : goal.returns
returns c =
    let room = ap (λ (s : Stack). s.room) c.self.view_is in
    c.index.ensures ∙ sym (marked_at c.self.inside.marks.items c.args.place c.index.result.now (omega (arith, c.requires, room))) ∙ c.self.invariant.marks c.args.place ∙ ap (λ (s : Stack). one_of c.args.place s.places) c.self.view_is
