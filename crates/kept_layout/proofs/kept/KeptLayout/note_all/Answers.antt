use Rattle.std.proofs.Common.{◌≡◌, ◌∙◌, ◌<◌, ◌≤◌, ℕ, true, Result, Ok, Err, OnOk, sym, subst, arith}
use Rattle.kept_layout.specs.Moves.{keeps_gap, unplaced, wall_of, AreNotedIn}
use Rattle.kept_layout.proofs.ShrinkingNotes.{map_length, noted_few, noted_most}
use Rattle.kept_layout.proofs.Walls.{bounds, end_news}
use Rattle.kept_layout.proofs.kept.KeptLayout.note_all.Goals as goal

on : {T E P Q : Type 0} (r : Result T E) → (P → Q) → OnOk r P → OnOk r Q
on (Ok x) f p = f p
on (Err e) f p = tt

pub note_range-requires-then-keeps_gap-clause-within : goal.note_range-requires-then-keeps_gap-clause-within
note_range-requires-then-keeps_gap-clause-within c =
    let k = c.args.self.now in
    let m = c.args.moved.now in
    let same = map_length unplaced c.note_range.new.self.blocks.items k.blocks.items c.in_ok-note_range.ensures.noted.same in
    let end = end_news k c.args.bytes m.at.items c.requires.laid in
    let within = c.requires.is.within in
    let border = c.requires.laid.border in
    let lag = c.requires.lag.border in
    let most = c.max-end.ensures in
    omega arith

pub note_range-requires-else-keeps_gap-clause-within : goal.note_range-requires-else-keeps_gap-clause-within
note_range-requires-else-keeps_gap-clause-within c =
    let end = end_news c.args.self.now c.args.bytes c.args.moved.now.at.items c.requires.laid in
    let within = c.requires.is.within in
    let border = c.requires.laid.border in
    let lag = c.requires.lag.border in
    let most = c.max-end.ensures in
    omega arith

pub returns-in_ok-note_range-clause-noted : goal.returns-in_ok-note_range-clause-noted
returns-in_ok-note_range-clause-noted c =
    let k = c.args.self.now in
    let m = c.args.moved.now in
    let middle = c.note_range.new.self in
    let wall = c.wall-wall.ensures in
    let from = (bounds k c.requires.laid).from in
    let lag = c.requires.lag.border in
    let most = c.max-end.ensures in
    let low = c.min.ensures in
    let high = c.max.ensures in
    let until = c.min-then-keeps_gap.ensures in
    let keeps : keeps_gap k ≡ true = sym c.keeps_gap.ensures ∙ c.if-keeps_gap.true in
    let calm : (j : ℕ) → c.min-then-keeps_gap.result ≤ j → j < wall_of k → (k.here < j) × (k.lag.from ≤ j) = λ j h w. (omega arith, omega arith) in
    on c.note_range-then-keeps_gap.result
    (λ rest. noted_few k middle c.args.bytes m.at.items m.by c.args.lag.now c.min.result c.min-then-keeps_gap.result c.max-end.result c.note_range-then-keeps_gap.new.self.blocks.items c.requires.laid c.requires.is c.requires.few c.requires.lag keeps (omega arith) (omega arith) (omega arith) calm (omega arith) (omega arith)
    c.in_ok-note_range.ensures.fields c.in_ok-note_range.ensures.noted (subst (λ w. AreNotedIn middle c.args.bytes m.at.items m.by c.args.lag.now w c.max-end.result c.note_range-then-keeps_gap.new.self.blocks.items) wall rest))
    c.note_range-then-keeps_gap.ensures.noted

pub returns-else-keeps_gap-clause-noted : goal.returns-else-keeps_gap-clause-noted
returns-else-keeps_gap-clause-noted c =
    let k = c.args.self.now in
    let m = c.args.moved.now in
    let lag = c.requires.lag.border in
    let most = c.max-end.ensures in
    let low = c.min-else-keeps_gap.ensures in
    let least = c.min-else-keeps_gap-2.ensures in
    on c.note_range-else-keeps_gap.result
    (λ noted. noted_most k c.args.bytes m.at.items m.by c.args.lag.now c.min-else-keeps_gap-2.result c.max-end.result c.note_range-else-keeps_gap.new.self.blocks.items c.requires.laid c.requires.is c.requires.lag (omega arith) (omega arith) (omega arith) (omega arith) (omega arith) noted)
    c.note_range-else-keeps_gap.ensures.noted
