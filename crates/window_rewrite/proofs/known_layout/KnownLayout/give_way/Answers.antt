use Rattle.std.proofs.Common.{◌≡◌, ◌∙◌, ◌<◌, length, arith}
use Rattle.thumb_model.specs.Layout.{Layable}
use Rattle.thumb_model.specs.Replaced.{replaced_lines}
use Rattle.listing_parser.specs.Parsing.{own_line}
use Rattle.kept_layout.specs.Kept.{Lays, IsNear}
use Rattle.window_rewrite.proofs.Unmoved.{unmoved}
use Rattle.window_rewrite.proofs.known_layout.KnownLayout.give_way.Goals as goal

pub give_way-requires-clause-leaves : goal.give_way-requires-clause-leaves
give_way-requires-clause-leaves c =
    let a = c.requires in
    let both : Lays c.in-Some.kept a.lines × Layable c.in-Some.kept.base (replaced_lines own_line a.place (length c.args.window.now) c.args.new.now a.lines) = rw c.in-Some.is at a.lays in
    let near : IsNear c.in-Some.kept a.place = rw c.in-Some.is at a.near in
    record {
      stands = record { lines = a.lines; place = a.place; lays = both.0; near = near; is_window = a.is_window };
      layable = both.1;
    }

pub returns-in_ok-give_way-clause-layout : goal.returns-in_ok-give_way-clause-layout
returns-in_ok-give_way-clause-layout c = λ base lines place has near window.
    let was : (c.in-Some.kept.base ≡ base) × Lays c.in-Some.kept lines = rw c.in-Some.is at has in
    let at : IsNear c.in-Some.kept place = rw c.in-Some.is at near in
    (c.in_ok-give_way.ensures.base ∙ was.0, c.in_ok-give_way.ensures.lays lines place was.1 at window)

pub returns-then-new-window-clause-layout : goal.returns-then-new-window-clause-layout
returns-then-new-window-clause-layout c = λ base lines place has near window.
    unmoved c.args.self.now base lines place c.args.window.now c.args.new.now has near window c.requires.some c.if-new-window.true c.requires.in_window

pub give_way-requires-clause-moved : goal.give_way-requires-clause-moved
give_way-requires-clause-moved c =
    let other = c.if-new-window.false in
    let no_longer = c.requires.no_longer in
    let fewer : length c.args.new.now < length c.args.window.now = omega arith in
    rw c.in-Some.is at (c.requires.moved fewer)
