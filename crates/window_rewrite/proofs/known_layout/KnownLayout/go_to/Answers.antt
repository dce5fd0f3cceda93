use Rattle.std.proofs.Common.{◌≡◌, ◌∙◌}
use Rattle.kept_layout.specs.Kept.{Lays}
use Rattle.window_rewrite.proofs.known_layout.KnownLayout.go_to.Goals as goal

pub returns-in-Some-clause-layout : goal.returns-in-Some-clause-layout
returns-in-Some-clause-layout c = λ base lines h.
    let was : (c.in-Some.kept.base ≡ base) × Lays c.in-Some.kept lines = rw c.in-Some.is at h in
    (c.go_to.ensures.base ∙ was.0, c.go_to.ensures.lays lines was.1)
