use Rattle.std.proofs.Common.{◌∙◌, ap, sym}
use Rattle.std.specs.List.{list_all}
use Rattle.std.proofs.lemmas.Bool.{false≢true}
use Rattle.thumb_instr.specs.Window.{is_in_window}
use Rattle.rule_table.proofs.MapLemmas.{left_windows}
use Rattle.rule_table.proofs.matching.matches.Goals as goal

pub returns-then-not-are_windows-2 : goal.returns-then-not-are_windows-2
returns-then-not-are_windows-2 c = λ registers m.
    let left = left_windows c.args.entry.now.left c.args.window.now registers m in
    let bad = sym c.if-not-are_windows-2.true ∙ c.are_windows-2.ensures ∙ ap (list_all is_in_window) c.as_slice-left.ensures.value ∙ left in
    false≢true bad
