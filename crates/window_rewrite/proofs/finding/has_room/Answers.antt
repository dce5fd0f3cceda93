use Rattle.std.proofs.Common.{◌≡◌, ◌∙◌, ℕ, List, ◌+◌, ◌≤◌, ◌⊎◌, true, false, Some, leb-true, le-leb, ap, arith, drop, length, refl, sym, subst}
use Rattle.std.specs.Prelude.{slice_get}
use Rattle.thumb_instr.specs.declared.instr.Instr.{Instr}
use Rattle.thumb_model.specs.Listing.{Label, is_op_place, labels_from, places_of}
use Rattle.thumb_model.specs.Replaced.{replaced_lines}
use Rattle.listing_parser.specs.Parsing.{own_line}
use Rattle.window_rewrite.specs.Scenes.{lines_left, lines_seen}
use Rattle.window_runs.specs.Rows.{rows_from}
use Rattle.window_runs.proofs.Lengths.{run_short}
use Rattle.window_rewrite.proofs.Scenes.{run_stands}
use Rattle.window_rewrite.proofs.finding.has_room.Goals as goal

pub lines_after-after-requires-clause-window : goal.lines_after-after-requires-clause-window
lines_after-after-requires-clause-window c = λ k h.
    let lookup = c.args.lookup.now in
    let site = lookup.site.now in
    let there = run_stands (lines_seen lookup) lookup.rules.now.longest site.number k site.run.instrs c.requires.lookup.site.instrs (omega (arith, h, c.requires.within)) in
    ap (λ p. is_op_place (slice_get (places_of (lines_seen lookup)) (p + k))) (sym c.requires.lookup.site.number) ∙ ap is_op_place there.stands

pub lines_after-after-requires-clause-unlabelled : goal.lines_after-after-requires-clause-unlabelled
lines_after-after-requires-clause-unlabelled c =
    subst (λ p. (k : ℕ) (l : Label) → slice_get (labels_from 0 (lines_seen c.args.lookup.now)) k ≡ Some l → (l.place ≤ p) ⊎ (p + length c.args.window.now ≤ l.place)) c.requires.lookup.site.number c.requires.window.unlabelled

pub returns : goal.returns
returns c =
    let lookup = c.args.lookup.now in
    let after : c.lines_after-after.result ≡ length (lines_left lookup c.args.window.now c.args.new.now) =
    c.lines_after-after.ensures c.args.new.now refl ∙ ap (λ p. length (replaced_lines own_line p (length c.args.window.now) c.args.new.now (lines_seen lookup))) (sym c.requires.lookup.site.number) in
    let now : c.line_count.result ≡ length (lines_seen lookup) = c.line_count.ensures in
    let most = c.max.ensures in (
      λ t. let small = leb-true c.lines_after-after.result c.max.result t in omega arith,
      λ h. le-leb c.lines_after-after.result c.max.result (omega arith),
    )

pub overflow_cast-window : goal.overflow_cast-window
overflow_cast-window c =
    let lookup = c.args.lookup.now in
    let short = run_short true lookup.rules.now.longest (drop lookup.site.now.number (rows_from false (lines_seen lookup))) in
    let as_many = ap (λ (is : List Instr). length is) c.requires.lookup.site.instrs in
    let few = c.requires.lookup.ready.few in
    let within = c.requires.within in
    omega arith
