use Rattle.std.proofs.Common.{◌≡◌, ◌∙◌, ap, sym, subst, true}
use Rattle.std.specs.Prelude.{nat_lt}
use Rattle.std.specs.List.{list_all}
use Rattle.thumb_instr.specs.Window.{Low, AreBelow, is_in_window}
use Rattle.rule_table.proofs.InstrTexts.{low_tests, low_tested}
use Rattle.rule_table.proofs.tails.is_low.Goals as goal

pub returns-then-in_window : goal.returns-then-in_window
returns-then-in_window c =
    let rs = c.registers_of.result.items in
    let tests : c.are_low.result ≡ list_all (λ (r : Low). nat_lt r.number 4) rs = c.are_low.ensures ∙ ap (list_all (λ (r : Low). nat_lt r.number 4)) c.deref.ensures.0 in
    let window : is_in_window c.args.instr.now ≡ true = sym c.in_window.ensures ∙ c.if-in_window.true in
    (λ h. record { window = window; low = subst (AreBelow 4) c.registers_of.ensures (low_tests rs (sym tests ∙ h)) }, λ is. tests ∙ low_tested rs (subst (AreBelow 4) (sym c.registers_of.ensures) is.low))
