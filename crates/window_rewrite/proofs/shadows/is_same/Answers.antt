use Rattle.std.proofs.Common.{◌≡◌, ◌∙◌, ap, eqb-true, sym}
use Rattle.thumb_instr.specs.declared.kind.Parts.{Parts}
use Rattle.thumb_instr.proofs.PartLemmas.{same_parts, same_fields}
use Rattle.rule_table.proofs.KindLemmas.{same_kind}
use Rattle.window_rewrite.proofs.shadows.is_same.Goals as goal

pub returns-clause-same : goal.returns-clause-same
returns-clause-same c = λ third.
    let own : Parts = c.parts-own.result in
    let others : Parts = c.parts-others.result in
    let kinds : own.kind ≡ others.kind = same_kind c.args.instr.now own.kind others.kind (sym c.in_window.ensures ∙ c.if-not-in_window.false) (ap (λ (p : Parts). p.kind) c.parts-own.ensures) (c.same_kind.ensures.0 c.if-not-same_kind.false) in
    same_parts c.args.instr.now c.args.other.now (sym c.parts-own.ensures ∙ same_fields own others kinds c.if-own-others.false c.if-own-others-2.false (eqb-true own.third others.third third) ∙ c.parts-others.ensures)
