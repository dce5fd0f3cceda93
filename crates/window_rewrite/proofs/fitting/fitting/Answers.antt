use Rattle.std.proofs.Common.{◌≡◌, ◌∙◌, ℕ, List, Option, Some, None, length, true, sym, subst, true≢false}
use Rattle.std.specs.Prelude.{MatchOption}
use Rattle.thumb_instr.specs.declared.instr.Instr.{Instr}
use Rattle.thumb_instr.specs.Items.{has}
use Rattle.thumb_instr.specs.Window.{Low}
use Rattle.rule_model.specs.Rules.{Rule}
use Rattle.thumb_model.specs.Effect.{one_of, register_count}
use Rattle.table_audit.proofs.Names.{has_one, one_has}
use Rattle.window_rewrite.specs.Rules.{entry_rule}
use Rattle.window_rewrite.specs.Fitting.{left_registers, Fits}
use Rattle.window_rewrite.proofs.Formed.{form_allowed, form_mask, form_registers, form_side, form_stands}
use Rattle.window_rewrite.proofs.Sides.{windows_over}
use Rattle.window_rewrite.proofs.fitting.fitting.Goals as goal

-- an implication in each of the two cases of an option
matched : {X : Type 0} (o : Option X) (P R : Type 0) (Q S : X → Type 0) → (P → R) → ((x : X) → Q x → S x) → MatchOption o P Q → MatchOption o R S
matched None P R Q S f g h = f h
matched (Some x) P R Q S f g h = g x h

pub returns-then-not-are_same : goal.returns-then-not-are_same
returns-then-not-are_same c = λ registers f.
    let rule : Rule = entry_rule c.args.entry.now in
    let same = form_side rule c.args.sight.now.window.now c.args.sight.now.form.now c.requires.sound c.requires.canonical c.requires.form (left_registers rule registers) f.fits.stands in
    let windows = windows_over (register_count rule.left) rule.left c.requires.sound.left in
    true≢false (sym (c.are_same.ensures.all (rw (c.as_slice.ensures.value) windows) (c.as_slice.ensures.value ∙ same ∙ sym c.as_slice-2.ensures.value)) ∙ c.if-not-are_same.true)

pub returns-then-not-may_fit : goal.returns-then-not-may_fit
returns-then-not-may_fit c = λ registers f.
    let rule : Rule = entry_rule c.args.entry.now in
    let all : (x : ℕ) → has c.args.sight.now.form.now.mask.items.bits x ≡ true → has c.args.entry.now.mask.items.bits x ≡ true =
    λ x h. (has_one c.args.entry.now.mask.items.bits x (form_mask rule c.args.sight.now.window.now c.args.sight.now.form.now c.requires.sound c.requires.canonical c.requires.form (left_registers rule registers) x f.fits h)).0 in
    true≢false (sym (c.may_fit.ensures.1 all) ∙ c.if-not-may_fit.true)

pub with_scratch-requires-clause-own : goal.with_scratch-requires-clause-own
with_scratch-requires-clause-own c =
    let same = sym c.as_slice.ensures.value ∙ c.are_same.ensures.same c.if-not-are_same.false ∙ c.as_slice-2.ensures.value in
    let stands = form_stands (entry_rule c.args.entry.now) c.args.sight.now.window.now c.args.sight.now.form.now c.requires.sound c.requires.canonical c.requires.form same in
    subst (λ (rs : List Low). length rs ≡ register_count c.args.entry.now.left) (sym c.deref.ensures.0) stands.as_many

pub returns : goal.returns
returns c =
    let rule : Rule = entry_rule c.args.entry.now in
    let window : List Instr = c.args.sight.now.window.now in
    let live : ℕ = c.args.sight.now.form.now.live.bits in
    let own : List Low = c.args.sight.now.form.now.registers.items in
    let same = sym c.as_slice.ensures.value ∙ c.are_same.ensures.same c.if-not-are_same.false ∙ c.as_slice-2.ensures.value in
    let all : (x : ℕ) → has c.args.sight.now.form.now.mask.items.bits x ≡ true → one_of x rule.mask ≡ true =
    λ x h. one_has c.args.entry.now.mask.items.bits x (c.may_fit.ensures.0 c.if-not-may_fit.false x h) (c.args.sight.now.form.now.mask.in_masks x h) in
    let fits : Fits rule own window live = record {
      stands = form_stands rule window c.args.sight.now.form.now c.requires.sound c.requires.canonical c.requires.form same;
      allowed = form_allowed rule window c.args.sight.now.form.now c.requires.sound c.requires.canonical c.requires.form same all;
    } in
    matched c.with_scratch.result _ _ _ _
    (λ none given f. none given (form_registers rule window c.args.sight.now.form.now c.requires.sound c.requires.canonical c.requires.form (left_registers rule given) f.fits.stands ∙ sym c.deref.ensures.0) f.whole)
    (λ whole w. (record { fits = subst (λ (l : List Low). Fits rule l window live) (sym (w.front ∙ c.deref.ensures.0)) fits; whole = w.whole }, w.least, w.few))
    c.with_scratch.ensures
