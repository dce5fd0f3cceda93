use Rattle.std.proofs.Common.{◌≡◌, ◌<◌, drop}
use Rattle.window_rewrite.specs.Forms.{form_from, form_of}
use Rattle.window_rewrite.proofs.forms.form_of.Given as goal

abbrev pub invariant-loop-instr : goal.invariant-loop-instr
invariant-loop-instr l = record {
  form : form_from l.form (drop l.instr-index l.instrs) ≡ form_of l.instrs;
  small : l.form < 65536;
}
