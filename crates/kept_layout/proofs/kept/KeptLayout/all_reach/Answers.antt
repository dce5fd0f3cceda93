use Rattle.std.proofs.Common.{◌≡◌, ◌+◌, true, subst, sym, arith}
use Rattle.std.specs.Prelude.{Contains}
use Rattle.kept_layout.specs.Moves.{news}
use Rattle.kept_layout.proofs.ShrinkingKnown.{open_right}
use Rattle.kept_layout.proofs.ShrinkingReach.{met_first, met_more}
use Rattle.kept_layout.proofs.Skipping.{looked_at, Goes}
use Rattle.kept_layout.proofs.Walls.{end_news}
use Rattle.kept_layout.proofs.kept.KeptLayout.all_reach.Goals as goal

pub loop-number-init : goal.loop-number-init
loop-number-init c =
    let k = c.args.self.now in
    let m = c.args.moved.now in
    let right : c.is_right_if.result ≡ true = grind arith in
    met_first k (news k c.args.bytes m.at.items) m.by c.near-first.result (open_right k (news k c.args.bytes m.at.items) m.by k.here c.requires.laid c.requires.is c.requires.right c.requires.laid.here (c.is_right_if.ensures.0 right))

pub loop-number-preserved : goal.loop-number-preserved
loop-number-preserved c =
    let k = c.args.self.now in
    let m = c.args.moved.now in
    let laid = c.requires.laid in
    let within = c.requires.is.within in
    let end = end_news k c.args.bytes m.at.items laid in
    let right : c.is_met.result ≡ true = grind arith in
    met_more k (news k c.args.bytes m.at.items) m.by c.near-first.result c.loop-number.number (c.loop-number.number + 1) (omega arith) c.loop-number.invariant
    (open_right k (news k c.args.bytes m.at.items) m.by c.loop-number.number laid c.requires.is c.requires.right (omega arith) (c.is_met.ensures.own right))
    (λ j d e h. open_right k (news k c.args.bytes m.at.items) m.by j laid c.requires.is c.requires.right (laid.called c.loop-number.number j d e h) (c.is_met.ensures.callers right j d e h))

pub is_met-requires-clause-within : goal.is_met-requires-clause-within
is_met-requires-clause-within c =
    let within = c.requires.is.within in
    let end = end_news c.args.self.now c.args.bytes c.args.moved.now.at.items c.requires.laid in
    omega arith

pub are_right_if-requires-clause-within : goal.are_right_if-requires-clause-within
are_right_if-requires-clause-within c = λ j h. c.requires.laid.loose_within j (subst (λ xs. Contains xs j) c.deref.ensures.value h)

pub returns-then-are_right_if-clause-all : goal.returns-then-are_right_if-clause-all
returns-then-are_right_if-clause-all c = λ t.
    let k = c.args.self.now in
    let m = c.args.moved.now in
    let laid = c.requires.laid in
    let met = c.loop-number.invariant in
    let over = c.loop-number-test.false in
    let goes : Goes k c.args.bytes m.at.items m.by c.near-first.result = record { laid = laid; wide = c.requires.wide; few = c.requires.few; moved = c.requires.moved; far = c.near-first.ensures; known = c.requires.right } in
    looked_at k c.args.bytes m.at.items m.by c.near-first.result c.loop-number.number goes met (omega arith)
    (λ some j h. open_right k (news k c.args.bytes m.at.items) m.by j laid c.requires.is c.requires.right (laid.loose_within j h) (c.are_right_if.ensures.all c.if-are_right_if.true j (subst (λ xs. Contains xs j) (sym c.deref.ensures.value) h)))
    (λ some none j h. open_right k (news k c.args.bytes m.at.items) m.by j laid c.requires.is c.requires.right (laid.absolute_within j h) (c.keeps_reach.ensures.all t none j h))

pub returns-then-moved-eq0-clause-all : goal.returns-then-moved-eq0-clause-all
returns-then-moved-eq0-clause-all c = λ t.
    let k = c.args.self.now in
    let m = c.args.moved.now in
    let laid = c.requires.laid in
    let met = c.loop-number.invariant in
    let over = c.loop-number-test.false in
    let none = c.if-moved-eq0.true in
    let goes : Goes k c.args.bytes m.at.items m.by c.near-first.result = record { laid = laid; wide = c.requires.wide; few = c.requires.few; moved = c.requires.moved; far = c.near-first.ensures; known = c.requires.right } in
    looked_at k c.args.bytes m.at.items m.by c.near-first.result c.loop-number.number goes met (omega arith) (λ some j h. absurd (omega arith)) (λ some none j h. absurd (omega arith))
