use Rattle.std.proofs.Common.{◌≡◌, map, drop}
use Rattle.thumb_syntax.specs.LeftView.{left}
use Rattle.thumb_syntax.specs.Operands.{first_some}
use Rattle.thumb_syntax.specs.Mnemonics.{row_of, read_by}
use Rattle.thumb_syntax.proofs.reading.read_in.Given as goal

abbrev pub invariant-loop-form : goal.invariant-loop-form
invariant-loop-form l =
    first_some (read_by (left l.operands)) (map row_of (drop l.form-index l.forms)) ≡ first_some (read_by (left l.operands)) (map row_of l.forms)
