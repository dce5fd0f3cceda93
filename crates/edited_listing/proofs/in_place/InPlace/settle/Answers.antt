use Rattle.std.proofs.Common.{◌≡◌, ◌∙◌, ◌+◌, ◌≤◌, length, arith}
use Rattle.edited_listing.proofs.Progress.{settled}
use Rattle.edited_listing.proofs.in_place.InPlace.settle.Goals as goal

pub returns-then-count-self : goal.returns-then-count-self
returns-then-count-self c =
    let many : c.len-count.result ≡ length c.self.inside.waiting.items = omega arith in
    let before : c.self.inside.done + length c.self.inside.waiting.items ≤ c.self.inside.next = omega (arith, c.self.invariant.before) in
    settled c.self.inside.lines.items c.self.inside.waiting.items c.put.new.lines.items c.put.new.new.items c.self.inside.done c.self.inside.next c.len-count.result many before c.self.invariant.within c.put.ensures.lines c.put.ensures.none ∙ c.self.view_is
