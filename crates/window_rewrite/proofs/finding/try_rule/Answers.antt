use Rattle.std.proofs.Common.{◌≡◌, ◌∙◌, ℕ, ◌-◌, ◌≤◌, max, Option, List, true, false, length, map, ap, arith, refl, sym, subst, true≢false}
use Rattle.std.specs.Prelude.{is_some}
use Rattle.std.specs.List.{list_all}
use Rattle.std.proofs.lemmas.Bool.{lt-ltb}
use Rattle.std.proofs.lemmas.List.{length-map}
use Rattle.thumb_instr.specs.declared.instr.Instr.{Instr}
use Rattle.thumb_instr.specs.Window.{Low, renamed, is_in_window}
use Rattle.thumb_model.specs.Layout.{Layable}
use Rattle.thumb_model.specs.Listing.{ListingLine, code_of, labels_from, places_of}
use Rattle.rule_model.specs.Rules.{Rule, rule_registers}
use Rattle.rule_model.specs.Rewriting.{Replacement}
use Rattle.thumb_model.specs.Replaced.{replaced_lines}
use Rattle.listing_parser.specs.Grammar.{most_lines}
use Rattle.listing_parser.specs.Parsing.{own_line}
use Rattle.seq_enum.specs.Costs.{weight_under}
use Rattle.window_rewrite.specs.Settled.{IsSettled}
use Rattle.window_rewrite.specs.TableRewriting.{map_of, registers_of, setting_by}
use Rattle.window_rewrite.specs.Rules.{entry_rule, with_open}
use Rattle.window_rewrite.specs.Scenes.{lines_left, lines_seen, number_seen, MayBeLeft}
use Rattle.window_rewrite.proofs.Maps.{map_registers}
use Rattle.window_rewrite.proofs.Applied.{all_in_window, applied, laid, used_lighter, IsLeft, IsMade}
use Rattle.window_rewrite.proofs.Alike.{left_under, settled_under}
use Rattle.window_rewrite.proofs.Opened.{fitted_by, laid_by, sound_open, whole_open}
use Rattle.window_rewrite.specs.declared.choice.Choice.{Choice}
use Rattle.window_rewrite.specs.Choices.{IsChoiceBy}
use Rattle.window_rewrite.specs.Layouts.{is_steady, Moves}
use Rattle.window_rewrite.proofs.Weights.{lighter_some, lighter_true}
use Rattle.window_rewrite.proofs.finding.try_rule.Goals as goal

pub returns-then-not-is_lighter-clause-none : goal.returns-then-not-is_lighter-clause-none
returns-then-not-is_lighter-clause-none g c = λ table numbers o used here m.
    let rule : Rule = entry_rule c.args.rule.now in
    let costs : Option (List ℕ) = c.args.sight.now.lookup.now.rules.now.costs.now in
    let lighter = used_lighter costs c.args.sight.now.lookup.now.rules.now.base table (lines_seen c.args.sight.now.lookup.now) o (with_open rule numbers) used m.0 in
    absurd (true≢false (sym (lt-ltb (weight_under costs rule.right) (weight_under costs rule.left) lighter) ∙ sym c.is_lighter.ensures ∙ c.if-not-is_lighter.true))

pub fitting-requires-clause-form : goal.fitting-requires-clause-form
fitting-requires-clause-form g c = c.requires.sight.form

pub fitting-requires-clause-sound : goal.fitting-requires-clause-sound
fitting-requires-clause-sound g c = c.requires.fit.sound

pub fitting-requires-clause-canonical : goal.fitting-requires-clause-canonical
fitting-requires-clause-canonical g c = c.requires.fit.canonical

pub returns-in-None-clause-none : goal.returns-in-None-clause-none
returns-in-None-clause-none g c = λ table numbers o used here m.
    let rule : Rule = entry_rule c.args.rule.now in
    let f = fitted_by _ c.args.sight.now.lookup.now.rules.now.costs.now c.args.sight.now.lookup.now.rules.now.base c.args.sight.now.lookup.now.rules.now.longest table numbers (lines_seen c.args.sight.now.lookup.now) (number_seen c.args.sight.now.lookup.now) o rule c.args.sight.now.window.now c.args.sight.now.form.now.live.bits used c.requires.fit c.requires.long c.requires.sight.stands here m in
    c.in-None.ensures o.registers f.fits

pub returns-then-not-is_settled-clause-none : goal.returns-then-not-is_settled-clause-none
returns-then-not-is_settled-clause-none g c = λ table numbers o used here m.
    let rule : Rule = entry_rule c.args.rule.now in
    let registers : List Low = c.in-Some.registers.items in
    let new : c.renamed_all-new.result ≡ map (renamed registers) rule.right =
    c.renamed_all-new.ensures ∙ ap (λ (rs : List Low). map (renamed rs) c.as_slice.result.now) c.deref.ensures.0 ∙ ap (map (renamed registers)) c.as_slice.ensures.value in
    let f = fitted_by _ c.args.sight.now.lookup.now.rules.now.costs.now c.args.sight.now.lookup.now.rules.now.base c.args.sight.now.lookup.now.rules.now.longest table numbers (lines_seen c.args.sight.now.lookup.now) (number_seen c.args.sight.now.lookup.now) o rule c.args.sight.now.window.now c.args.sight.now.form.now.live.bits used c.requires.fit c.requires.long c.requires.sight.stands here m in
    let also = settled_under (code_of (lines_seen c.args.sight.now.lookup.now)) (number_seen c.args.sight.now.lookup.now) (length c.args.sight.now.window.now) o.registers registers rule.right f.settled in
    let settled = c.is_settled.ensures.1 (subst (λ (js : List Instr). IsSettled (places_of (lines_seen c.args.sight.now.lookup.now)) (labels_from 0 (lines_seen c.args.sight.now.lookup.now)) (number_seen c.args.sight.now.lookup.now) (length c.args.sight.now.window.now) js) (sym (c.as_slice-2.ensures.value ∙ new)) also) in
    let never : true ≡ false = sym settled ∙ c.if-not-is_settled.true in
    absurd (true≢false never)

pub moved_layout-requires-clause-in_window : goal.moved_layout-requires-clause-in_window
moved_layout-requires-clause-in_window g c =
    let rule : Rule = entry_rule c.args.rule.now in
    let registers : List Low = c.in-Some.registers.items in
    let new : c.renamed_all-new.result ≡ map (renamed registers) rule.right =
    c.renamed_all-new.ensures ∙ ap (λ (rs : List Low). map (renamed rs) c.as_slice.result.now) c.deref.ensures.0 ∙ ap (map (renamed registers)) c.as_slice.ensures.value in
    subst (λ (is : List Instr). list_all is_in_window is ≡ true) (sym (c.as_slice-3.ensures.value ∙ new)) (all_in_window (rule_registers rule) registers rule.right c.requires.fit.sound.right)

pub moved_layout-requires-clause-some : goal.moved_layout-requires-clause-some
moved_layout-requires-clause-some g c =
    let rule : Rule = entry_rule c.args.rule.now in
    let costs : Option (List ℕ) = c.args.sight.now.lookup.now.rules.now.costs.now in
    let some = lighter_some costs rule.left rule.right (lighter_true costs rule (sym c.is_lighter.ensures ∙ c.if-not-is_lighter.false)) in
    let long = c.requires.long in
    omega arith

pub moved_layout-requires-clause-no_longer : goal.moved_layout-requires-clause-no_longer
moved_layout-requires-clause-no_longer g c =
    let no_longer = c.requires.fit.sound.no_longer in
    let rule : Rule = entry_rule c.args.rule.now in
    let registers : List Low = c.in-Some.registers.items in
    let new : c.renamed_all-new.result ≡ map (renamed registers) rule.right =
    c.renamed_all-new.ensures ∙ ap (λ (rs : List Low). map (renamed rs) c.as_slice.result.now) c.deref.ensures.0 ∙ ap (map (renamed registers)) c.as_slice.ensures.value in
    let long = c.requires.long in
    let count = ap (λ (is : List Instr). length is) (c.as_slice-3.ensures.value ∙ new) in
    let as_many = length-map rule.right (renamed registers) in
    omega (arith, no_longer, long, count, as_many)

pub returns-in-None-2-clause-none : goal.returns-in-None-2-clause-none
returns-in-None-2-clause-none g c = λ table numbers o used here m.
    let rule : Rule = entry_rule c.args.rule.now in
    let registers : List Low = c.in-Some.registers.items in
    let new : c.renamed_all-new.result ≡ map (renamed registers) rule.right =
    c.renamed_all-new.ensures ∙ ap (λ (rs : List Low). map (renamed rs) c.as_slice.result.now) c.deref.ensures.0 ∙ ap (map (renamed registers)) c.as_slice.ensures.value in
    let laid = laid_by c.args.sight.now.lookup.now.rules.now.costs.now c.args.sight.now.lookup.now.rules.now.base table numbers (lines_seen c.args.sight.now.lookup.now) (number_seen c.args.sight.now.lookup.now) o rule c.args.sight.now.window.now used c.requires.long here m in
    let also = left_under c.args.sight.now.lookup.now.rules.now.base (number_seen c.args.sight.now.lookup.now) (length c.args.sight.now.window.now) (rule_registers rule) o.registers registers rule.right (lines_seen c.args.sight.now.lookup.now) c.requires.fit.sound.right laid in
    let left : IsLeft c.args.sight.now.lookup.now.rules.now.base (lines_seen c.args.sight.now.lookup.now) (lines_left c.args.sight.now.lookup.now c.args.sight.now.window.now c.as_slice-3.result.now) =
    subst (λ (js : List Instr). IsLeft c.args.sight.now.lookup.now.rules.now.base (lines_seen c.args.sight.now.lookup.now) (lines_left c.args.sight.now.lookup.now c.args.sight.now.window.now js)) (sym (c.as_slice-3.ensures.value ∙ new)) also in
    let may = c.in_ok-moved_layout.ensures.allowed.1 (record { few = left.few; layable = λ _. left.layable }) in
    let never : true ≡ false = sym may ∙ ap is_some c.in-None-2.is in
    absurd (true≢false never)

pub choice_at-requires-clause-short : goal.choice_at-requires-clause-short
choice_at-requires-clause-short g c =
    let short = c.requires.fit.short in
    let long = c.requires.long in
    let few = c.requires.sight.lookup.ready.few in
    omega arith

pub choice_at-requires-clause-few : goal.choice_at-requires-clause-few
choice_at-requires-clause-few g c = subst (λ (rs : List Low). length rs ≤ 8) (sym c.deref-2.ensures.0) c.in-Some.ensures.2

pub returns-clause-some : goal.returns-clause-some
returns-clause-some g c =
    let lines : List ListingLine = lines_seen c.args.sight.now.lookup.now in
    let place : ℕ = number_seen c.args.sight.now.lookup.now in
    let rule : Rule = entry_rule c.args.rule.now in
    let registers : List Low = c.in-Some.registers.items in
    let kept : registers_of (map_of 8 c.deref-2.result.now) ≡ registers = map_registers 8 c.deref-2.result.now (subst (λ (rs : List Low). length rs ≤ 8) (sym c.deref-2.ensures.0) c.in-Some.ensures.2) ∙ c.deref-2.ensures.0 in
    let back : registers ≡ registers_of (map_of 8 c.deref-2.result.now) = sym kept in
    let new : c.renamed_all-new.result ≡ map (renamed registers) rule.right =
    c.renamed_all-new.ensures ∙ ap (λ (rs : List Low). map (renamed rs) c.as_slice.result.now) c.deref.ensures.0 ∙ ap (map (renamed registers)) c.as_slice.ensures.value in
    let count : length c.args.sight.now.window.now ≡ length rule.left = sym c.requires.long in
    let settled : IsSettled (places_of lines) (labels_from 0 lines) place (length c.args.sight.now.window.now) c.renamed_all-new.result =
    subst (λ (js : List Instr). IsSettled (places_of lines) (labels_from 0 lines) place (length c.args.sight.now.window.now) js) c.as_slice-2.ensures.value (c.is_settled.ensures.0 c.if-not-is_settled.false) in
    let allowed : MayBeLeft c.args.sight.now.lookup.now c.args.sight.now.window.now c.as_slice-3.result.now = c.in_ok-moved_layout.ensures.allowed.0 (ap is_some c.in-Some-2.is) in
    let asked : is_steady c.args.sight.now.lookup.now.scene.now.layout ≡ false → Layable c.args.sight.now.lookup.now.rules.now.base (replaced_lines own_line place (length c.args.sight.now.window.now) (map (renamed registers) rule.right) lines) =
    λ f. subst (λ (js : List Instr). Layable c.args.sight.now.lookup.now.rules.now.base (replaced_lines own_line place (length c.args.sight.now.window.now) js lines)) (c.as_slice-3.ensures.value ∙ new) (allowed.layable f) in
    let few : length (replaced_lines own_line place (length rule.left) (map (renamed registers) rule.right) lines) ≤ max (length lines) most_lines =
    subst (λ n. length (replaced_lines own_line place n (map (renamed registers) rule.right) lines) ≤ max (length lines) most_lines) count
    (subst (λ (js : List Instr). length (replaced_lines own_line place (length c.args.sight.now.window.now) js lines) ≤ max (length lines) most_lines) (c.as_slice-3.ensures.value ∙ new) allowed.few) in
    let costs : Option (List ℕ) = c.args.sight.now.lookup.now.rules.now.costs.now in
    let lighter = lighter_true costs rule (sym c.is_lighter.ensures ∙ c.if-not-is_lighter.false) in
    let some = lighter_some costs rule.left rule.right lighter in
    let made : Replacement = record { place = place; entry = c.args.entry - 1; instance = c.args.instance; registers = registers } in
    subst (IsChoiceBy costs c.args.sight.now.lookup.now.rules.now.base rule lines place (c.args.entry - 1) c.args.instance) (sym c.choice_at.ensures) (record {
      is = λ table numbers used.
          let own : Rule = with_open rule numbers in
          let sound = sound_open rule numbers c.requires.fit.sound in
          let m : IsMade (setting_by c.args.sight.now.lookup.now.rules.now.costs.now c.args.sight.now.lookup.now.rules.now.base table) lines (record { place = place; entry = c.args.entry - 1; instance = c.args.instance; registers = registers_of (map_of 8 c.deref-2.result.now) }) c.args.sight.now.window.now c.renamed_all-new.result =
          subst (λ (rs : List Low). IsMade (setting_by c.args.sight.now.lookup.now.rules.now.costs.now c.args.sight.now.lookup.now.rules.now.base table) lines (record { place = place; entry = c.args.entry - 1; instance = c.args.instance; registers = rs }) c.args.sight.now.window.now c.renamed_all-new.result) back
          (applied c.args.sight.now.lookup.now.rules.now.costs.now c.args.sight.now.lookup.now.rules.now.base table lines made own c.args.sight.now.window.now c.args.sight.now.form.now.live.bits c.renamed_all-new.result used sound lighter c.requires.sight.stands
          (whole_open rule numbers registers c.args.sight.now.window.now c.args.sight.now.form.now.live.bits c.in-Some.ensures.0) c.in-Some.ensures.1 new settled few
          (laid c.args.sight.now.lookup.now.rules.now c.args.sight.now.lookup.now.scene.now.layout lines place own registers c.args.sight.now.window.now c.requires.sight.lookup.over.over sound some count asked)) in
          record { whole = record { counted = c.requires.counted; in_place = ap (map_of 8) (c.deref-2.ensures.0 ∙ back) }; applies = m.applies; is_window = m.is_window; gives_way = m.gives_way; leaves = m.leaves; long = m.long };
      at = refl;
      entry_is = refl;
      instance_is = refl;
    })

pub returns-clause-moved : goal.returns-clause-moved
returns-clause-moved g c =
    subst (λ (x : Choice). Moves c.args.sight.now.lookup.now.scene.now.layout x.window x.new x.moved) (sym c.choice_at.ensures)
    (subst (λ (js : List Instr). Moves c.args.sight.now.lookup.now.scene.now.layout c.args.sight.now.window.now js c.in-Some-2.moved) c.as_slice-3.ensures.value (rw c.in-Some-2.is at c.in_ok-moved_layout.ensures.moved))
