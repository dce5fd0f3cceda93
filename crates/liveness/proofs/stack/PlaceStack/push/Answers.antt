use Rattle.std.proofs.Common.{◌≡◌, ◌∙◌, ◌<◌, ◌||◌, ◌==◌, true, length, ap, sym, refl, arith}
use Rattle.std.specs.Vec.{with_item}
use Rattle.thumb_instr.specs.Items.{one_of}
use Rattle.kept_places.proofs.Ranks.{marked_at}
use Rattle.liveness.specs.Stack.{Stack}
use Rattle.liveness.proofs.Stacks.{same_members, one_more, room_left, come, never_more}
use Rattle.liveness.proofs.stack.PlaceStack.push.Goals as goal

pub returns-then-index-clause-members : goal.returns-then-index-clause-members
returns-then-index-clause-members c = λ q.
    let room = ap (λ (s : Stack). s.room) c.self.view_is in
    let places : c.self.inside.places.items ≡ c.args.self.now.places = ap (λ (s : Stack). s.places) c.self.view_is in
    let here : one_of c.args.place c.args.self.now.places ≡ true =
    ap (one_of c.args.place) (sym places) ∙ sym (c.self.invariant.marks c.args.place) ∙ marked_at c.self.inside.marks.items c.args.place c.index.result.now (omega (arith, c.requires, room)) ∙ sym c.index.ensures ∙ c.if-index.true in
    same_members q c.args.place c.args.self.now.places here

pub unreachable-requires : goal.unreachable-requires
unreachable-requires c =
    let room = ap (λ (s : Stack). s.room) c.self.view_is in
    let inside : c.args.place < length c.self.inside.marks.items = omega (arith, c.requires, room) in
    let left = room_left c.self.inside c.args.place c.self.invariant inside (marked_at c.self.inside.marks.items c.args.place c.index.result.now inside ∙ sym c.index.ensures ∙ c.if-index.false) in
    omega (arith, left, c.in-Err.ensures.full)

pub invariant_of-self : goal.invariant_of-self
invariant_of-self c =
    let room = ap (λ (s : Stack). s.room) c.self.view_is in
    let inside : c.args.place < length c.self.inside.marks.items = omega (arith, c.requires, room) in
    come c.self.inside _ c.args.place c.self.invariant inside (marked_at c.self.inside.marks.items c.args.place c.index.result.now inside ∙ sym c.index.ensures ∙ c.if-index.false) c.in-Ok.ensures.items refl c.in-Ok.ensures.capacity

pub returns-clause-members : goal.returns-clause-members
returns-clause-members c = λ q. ap (one_of q) c.in-Ok.ensures.items ∙ one_more q c.args.place c.self.inside.places.items ∙ ap (λ (s : Stack). one_of q s.places || (q == c.args.place)) c.self.view_is

pub returns-clause-few : goal.returns-clause-few
returns-clause-few c =
    let room = ap (λ (s : Stack). s.room) c.self.view_is in
    let inside : c.args.place < length c.self.inside.marks.items = omega (arith, c.requires, room) in
    never_more _ (come c.self.inside (record { places = c.push.new.self; marks = with_item c.self.inside.marks c.args.place true }) c.args.place c.self.invariant inside (marked_at c.self.inside.marks.items c.args.place c.index.result.now inside ∙ sym c.index.ensures ∙ c.if-index.false) c.in-Ok.ensures.items refl c.in-Ok.ensures.capacity)

pub returns-then-index-clause-few : goal.returns-then-index-clause-few
returns-then-index-clause-few c = omega (arith, never_more c.self.inside c.self.invariant, ap (λ (s : Stack). s.room) c.self.view_is, ap (λ (s : Stack). length s.places) c.self.view_is)
