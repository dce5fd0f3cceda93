use Rattle.std.proofs.Common.{◌++◌, ◌∷◌, [], ◌-◌, ◌/◌, ◌%◌, ◌<◌, sym, ◌∙◌, ap, arith, append_assoc, append-nil}
use Rattle.ascii_scan.specs.Numeral.{hex_digit}
use Rattle.rule_table.specs.Text.{hex_of}
use Rattle.rule_table.proofs.HexTexts.{hex_suc}
use Rattle.rule_table.proofs.lines.«+write_hex».Goals as goal

pub returns-then-digits-eq0 : goal.returns-then-digits-eq0
unfolding hex_of
returns-then-digits-eq0 t c = rw c.if-digits-eq0.true (sym (append-nil c.args.out.now.items))

pub returns : goal.returns
returns t c =
    let old = c.args.out.now.items in
    let some : 0 < c.args.digits = omega (arith, c.if-digits-eq0.false) in
    c.in_ok-push.ensures.items
    ∙ ap (λ d. c.write_hex.new.out.items ++ d ∷ []) c.hex_digit.ensures
    ∙ ap (λ xs. xs ++ hex_digit (c.args.number % 16) ∷ []) c.in_ok-write_hex.ensures
    ∙ append_assoc old (hex_of (c.args.digits - 1) (c.args.number / 16)) (hex_digit (c.args.number % 16) ∷ [])
    ∙ ap (λ xs. old ++ xs) (sym (hex_suc c.args.digits c.args.number some))
