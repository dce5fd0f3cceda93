use Rattle.std.proofs.Common.{◌≡◌, [], ◌∷◌, List, ap, subst, map, refl, rules, false}
use Rattle.std.proofs.lemmas.List.Elements.{All-cons, All-nil}
use Rattle.thumb_instr.specs.declared.instr.Instr.{Instr}
use Rattle.thumb_instr.specs.declared.items.Mask.{Mask}
use Rattle.rule_table.specs.Table.{Table}
use Rattle.rule_table.specs.Views.{header_in}
use Rattle.table_learn.specs.Learnt.{Settings}
use Rattle.table_learn.specs.Given.{settings_of, window_of, AreInLimits, AreWindows, IsWindow}
use Rattle.cases.proofs.learning.learnt_table.Goals as goal

only_window : (s : Settings) (w : List Instr × Mask) → IsWindow s (window_of w) → AreWindows s (map window_of (w ∷ []))
only_window s w h = All-cons (IsWindow s) (window_of w) [] h (All-nil (IsWindow s))

pub learn-requires-clause-windows : goal.learn-requires-clause-windows
learn-requires-clause-windows c =
    let made : c.in_ok-windows.windows.items ≡ (c.in_ok-entry.entry.left, c.in_ok-entry.entry.mask) ∷ [] = search rules in
    let held = header_in c.args.table in
    let fits = c.if-not-sides_fit.ensures.fit.0 refl in
    let w : IsWindow held (window_of (c.in_ok-entry.entry.left, c.in_ok-entry.entry.mask)) =
    record { canonical = fits.canonical; short = fits.short; few = fits.few; over = fits.left; mask = fits.mask } in
    let same : held ≡ settings_of c.into_parts-settings.result.0 = ap (λ (t : Table). t.header) c.into_parts-settings.ensures in
    rw made
    (only_window (settings_of c.into_parts-settings.result.0) (c.in_ok-entry.entry.left, c.in_ok-entry.entry.mask)
    (subst (λ s. IsWindow s (window_of (c.in_ok-entry.entry.left, c.in_ok-entry.entry.mask))) same w))

pub learn-requires-clause-settings : goal.learn-requires-clause-settings
learn-requires-clause-settings c =
    let held = header_in c.args.table in
    let same : held ≡ settings_of c.into_parts-settings.result.0 = ap (λ (t : Table). t.header) c.into_parts-settings.ensures in
    subst AreInLimits same (record { header = c.requires.header; version = c.is_learnt.ensures.0 c.if-not-is_learnt.false })
