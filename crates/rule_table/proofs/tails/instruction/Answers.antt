use Rattle.std.proofs.Common.{◌≡◌, ◌∙◌, ap, sym, subst, Option, Some, None, ℕ, List}
use Rattle.std.specs.Prelude.{option_map}
use Rattle.std.proofs.lemmas.Bool.{false≢true}
use Rattle.std.proofs.lemmas.Option.{same_Some}
use Rattle.thumb_instr.specs.declared.instr.Instr.{Instr}
use Rattle.thumb_syntax.specs.Rows.{Shown, reading, shown_with}
use Rattle.thumb_syntax.specs.FieldViews.{label_of}
use Rattle.thumb_syntax.specs.ParsedView.{shown}
use Rattle.thumb_syntax.specs.declared.reading.Parsed.{Parsed}
use Rattle.rule_table.specs.Text.{instr_text}
use Rattle.rule_table.specs.Table.{IsInstr}
use Rattle.rule_table.proofs.InstrTexts.{read_is, same_shown}
use Rattle.rule_table.proofs.tails.instruction.Goals as goal

-- what was read is the instruction whose text it is
read_so : (i : Instr) (p : Parsed) (bs : List ℕ) → ◌≡◌ {A = Option Shown} (Some (shown p)) (reading bs) → IsInstr i → instr_text i ≡ bs → i ≡ p.instr
read_so i p bs e is text =
    let same : shown p ≡ shown_with i None = same_Some _ _ (read_is i (Some (shown p)) bs e is text) in
    (same_shown i p.instr (option_map label_of p.label) (sym same)).0

pub returns-in_default : goal.returns-in_default
returns-in_default c = λ i is e. let bad : None ≡ Some (shown_with i None) = read_is i None c.args.text.now c.in_default.ensures is e in absurd cc

pub returns-then-not-is_low : goal.returns-then-not-is_low
returns-then-not-is_low c = λ i is e.
    let same = read_so i c.in-Some.parsed c.args.text.now c.in-Some.ensures is e in
    false≢true (c.if-not-is_low.ensures.1 (subst IsInstr same is))

pub returns-else-branch : goal.returns-else-branch
returns-else-branch c = λ i is e.
    let same = read_so i c.in-Some.parsed c.args.text.now c.in-Some.ensures is e in
    false≢true (sym c.if-branch.false ∙ c.in_ok-is_canonical.ensures.1 (ap instr_text (sym same) ∙ e))
