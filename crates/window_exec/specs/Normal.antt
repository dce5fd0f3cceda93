-- Of two encodings with one effect a table uses one, the normal form: it has the same effect.
use Rattle.std.specs.Prelude.{◌≡◌}
use Rattle.thumb_instr.specs.declared.instr.Instr.{Instr}
use Rattle.thumb_instr.specs.Window.{normal_of}
use Rattle.thumb_model.specs.Effect.{Values, after}

abbrev pub NormalKeepsTheStep : Type 0
NormalKeepsTheStep = (i : Instr) (v : Values) → after (normal_of i) v ≡ after i v
