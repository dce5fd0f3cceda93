use Rattle.std.proofs.Common.{◌≡◌, ◌∙◌, ap, refl}
use Rattle.window_rewrite.specs.Forms.{form_of}
use Rattle.window_rewrite.proofs.Formed.{stands_renamable, is_form}
use Rattle.window_rewrite.proofs.forms.Form.of.Goals as goal

pub returns-in-None-clause-none : goal.returns-in-None-clause-none
returns-in-None-clause-none c = λ rule registers s left h. c.in-None.ensures (stands_renamable rule registers c.args.window.now s left c.requires h)

pub returns-in-Some-clause-some : goal.returns-in-Some-clause-some
returns-in-Some-clause-some c =
    let number : c.form_of-number.result ≡ form_of c.in-Some.side = c.form_of-number.ensures.value ∙ ap form_of c.as_slice.ensures.value in
    is_form c.args.window.now _ c.in-Some.side c.in-Some.map refl number c.registers_of.ensures c.in-Some.ensures.0 c.in-Some.ensures.1
