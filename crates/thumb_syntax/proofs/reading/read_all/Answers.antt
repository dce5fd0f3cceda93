use Rattle.std.proofs.Common.{◌∙◌, ◌++◌, ap, map, List}
use Rattle.ascii_scan.specs.Tokens.{tokens}
use Rattle.thumb_syntax.specs.declared.operands.Operand.{Operand}
use Rattle.thumb_syntax.specs.Operands.{operand}
use Rattle.thumb_syntax.specs.Views.{view}
use Rattle.thumb_syntax.proofs.Named.{read_by_forms}
use Rattle.thumb_syntax.proofs.reading.read_all.Goals as goal

pub returns : goal.returns
returns c =
    let same = ap (λ (os : List Operand). map view os ++ map operand (tokens c.read_ahead-ahead.result.1.now)) c.deref.ensures.0 in
    read_by_forms _ _ _ _ _ c.read_in.ensures c.forms_of-forms.ensures (same ∙ c.read_ahead-ahead.ensures)
