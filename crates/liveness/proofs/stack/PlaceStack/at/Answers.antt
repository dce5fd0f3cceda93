use Rattle.std.proofs.Common.{◌<◌, length, ap, arith}
use Rattle.std.proofs.lemmas.List.{get_or_default}
use Rattle.liveness.specs.Stack.{Stack}
use Rattle.liveness.proofs.Stacks.{member_within}
use Rattle.liveness.proofs.stack.PlaceStack.at.Goals as goal

pub returns-clause-within : goal.returns-clause-within
returns-clause-within c =
    let room = ap (λ (s : Stack). s.room) c.self.view_is in
    let many = ap (λ (s : Stack). length s.places) c.self.view_is in
    let within : c.args.number < length c.self.inside.places.items = omega (arith, c.requires, many) in
    let w = member_within c.self.inside c.args.number c.self.invariant within in
    omega (arith, w, room, c.index.ensures, get_or_default c.self.inside.places.items c.args.number c.index.result.now 0 within)
