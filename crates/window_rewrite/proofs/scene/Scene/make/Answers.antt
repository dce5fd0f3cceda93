use Rattle.std.proofs.Common.{◌≡◌, ◌∙◌, ◌+◌, ◌<◌, ℕ, List, length, take, get_or, ap, sym, arith}
use Rattle.std.specs.Prelude.{slice_get}
use Rattle.thumb_instr.specs.declared.instr.Instr.{Instr}
use Rattle.thumb_model.specs.Listing.{is_op_place, places_of}
use Rattle.kept_places.proofs.Ranks.{rank_zero}
use Rattle.padded_code.specs.Exchange.{exchanged, marks_after}
use Rattle.padded_code.specs.Windows.{AreRanked}
use Rattle.edited_listing.specs.Edited.{lines_now, marks, padded}
use Rattle.window_rewrite.specs.Choices.{setting_of}
use Rattle.window_rewrite.proofs.Scenes.{allowed_here, front_many, front_ranked, front_same, keeps_here, made_by, made_live, made_many, made_padded, made_stands, run_stands, still_over, window_here, IsMade}
use Rattle.window_rewrite.proofs.ScenesWindows.{ascending, ranked_at}
use Rattle.window_rewrite.proofs.scene.Scene.make.Goals as goal

pub give_way-requires : goal.give_way-requires
give_way-requires c =
    allowed_here c.args.rules.now c.args.self.now.layout (lines_now c.args.self.now.listing) c.args.choice.now c.args.site.now.number c.as_slice-window.result.now c.as_slice-new.result.now c.requires.over.over c.requires.near c.requires.is c.requires.here
    c.requires.moved c.as_slice-window.ensures.value c.as_slice-new.ensures.value

pub replace-requires-clause-ascending : goal.replace-requires-clause-ascending
replace-requires-clause-ascending c =
    let site = c.args.site.now in
    let gone = marks c.args.self.now.listing in
    let first = rank_zero gone in
    ascending gone 0 site.number _ (omega arith) (front_ranked gone site.number site.run.places.items c.as_slice.result.now (length c.as_slice-window.result.now) c.requires.site.places c.as_slice.ensures.value)

pub replace-requires-clause-within : goal.replace-requires-clause-within
replace-requires-clause-within c = λ k h.
    let site = c.args.site.now in
    let gone = marks c.args.self.now.listing in
    let ps = take (length c.as_slice-window.result.now) c.as_slice.result.now in
    let at = ranked_at gone site.number ps (front_ranked gone site.number site.run.places.items c.as_slice.result.now (length c.as_slice-window.result.now) c.requires.site.places c.as_slice.ensures.value) k h in
    let before = c.requires.over.kept.live.before_len in
    let many = c.requires.over.kept.as_many in
    let within : get_or ps k 0 < length c.args.self.now.live.before = omega (arith, at.0, before, many) in
    within

pub replace-requires-2-clause-window : goal.replace-requires-2-clause-window
replace-requires-2-clause-window c = λ k h.
    let site = c.args.site.now in
    let lines = lines_now c.args.self.now.listing in
    let same = ap (λ (is : List Instr). length is) c.as_slice-window.ensures.value in
    let there = run_stands lines c.args.rules.now.longest site.number k site.run.instrs c.requires.site.instrs (omega (arith, h, same, c.requires.within)) in
    ap (λ p. is_op_place (slice_get (places_of lines) (p + k))) (sym c.requires.site.number) ∙ ap is_op_place there.stands

ranked : (c : goal.After-replace-2) → AreRanked (marks c.args.self.now.listing) c.args.site.now.number (take (length c.as_slice-window.result.now) c.as_slice.result.now)
ranked c = front_ranked (marks c.args.self.now.listing) c.args.site.now.number c.args.site.now.run.places.items c.as_slice.result.now (length c.as_slice-window.result.now) c.requires.site.places c.as_slice.ensures.value

many : (c : goal.After-replace-2) → length (take (length c.as_slice-window.result.now) c.as_slice.result.now) ≡ length c.as_slice-window.result.now
many c =
    let same = ap (λ (is : List Instr). length is) c.as_slice-window.ensures.value in
    let as_many = c.requires.site.as_many in
    let within = c.requires.within in
    front_many c.args.site.now.run.places.items c.as_slice.result.now (length c.as_slice-window.result.now) c.as_slice.ensures.value (omega arith)

made : (c : goal.After-replace-2) → IsMade c.args.self.now.listing c.replace-2.new.self c.args.site.now.number (take (length c.as_slice-window.result.now) c.as_slice.result.now) c.as_slice-window.result.now c.as_slice-new.result.now
made c =
    made_by c.args.self.now.listing c.replace-2.new.self c.args.site.now.place c.args.site.now.number _ c.as_slice-window.result.now c.as_slice-new.result.now c.requires.site.number (ranked c) (many c)
    c.replace-2.ensures.gone c.replace-2.ensures.padded c.replace-2.ensures.lines

pub returns-clause-over : goal.returns-clause-over
returns-clause-over c =
    let rules = c.args.rules.now in
    let was = c.args.self.now.listing in
    let now = c.replace-2.new.self in
    let lines = lines_now was in
    let choice = c.args.choice.now in
    let number = c.args.site.now.number in
    let window = c.as_slice-window.result.now in
    let new = c.as_slice-new.result.now in
    let kept = c.requires.over.kept in
    let keeps = keeps_here (setting_of rules) lines choice number window new c.requires.is c.requires.here c.as_slice-window.ensures.value c.as_slice-new.ensures.value in
    let is_window = window_here (setting_of rules) lines choice number window c.requires.is c.requires.here c.as_slice-window.ensures.value in
    let layout = c.in_ok-give_way.ensures.layout rules.base lines number c.requires.over.over.layout c.requires.near is_window in
    record {
      kept = record {
        is_padded = made_padded was now number _ window new (made c) kept.is_padded kept.as_many (ranked c) (many c) keeps;
        as_many = made_many was now number _ window new (made c) kept.as_many;
        live = made_live was now number _ window new c.args.self.now.live c.replace.new.self (made c) kept.is_padded kept.as_many (ranked c) (many c) keeps c.replace.ensures.kept kept.live;
      };
      over = still_over rules c.args.self.now.layout c.give_way.new.self lines (lines_now now) choice number window new c.requires.is c.requires.here c.as_slice-window.ensures.value c.as_slice-new.ensures.value (made c).lines
          c.in_ok-give_way.ensures.steady layout c.requires.over.over;
    }

pub returns-clause-gone : goal.returns-clause-gone
returns-clause-gone c =
    let was = c.args.self.now.listing in
    let same = front_same c.args.site.now.run.places.items c.as_slice.result.now c.as_slice-window.result.now c.args.choice.now.window c.as_slice.ensures.value c.as_slice-window.ensures.value in
    (made c).gone
    ∙ ap (λ (ps : List ℕ). marks_after ps c.as_slice-new.result.now (marks was)) same
    ∙ ap (λ (is : List Instr). marks_after (take (length c.args.choice.now.window) c.args.site.now.run.places.items) is (marks was)) c.as_slice-new.ensures.value

pub returns-clause-padded : goal.returns-clause-padded
returns-clause-padded c =
    let was = c.args.self.now.listing in
    let same = front_same c.args.site.now.run.places.items c.as_slice.result.now c.as_slice-window.result.now c.args.choice.now.window c.as_slice.ensures.value c.as_slice-window.ensures.value in
    (made c).padded_now
    ∙ ap (λ (ps : List ℕ). exchanged ps c.as_slice-new.result.now (padded was)) same
    ∙ ap (λ (is : List Instr). exchanged (take (length c.args.choice.now.window) c.args.site.now.run.places.items) is (padded was)) c.as_slice-new.ensures.value

pub returns-clause-many : goal.returns-clause-many
returns-clause-many c = made_stands c.args.self.now.listing c.replace-2.new.self c.args.site.now.number _ c.as_slice-window.result.now c.as_slice-new.result.now (made c)
