use Rattle.std.proofs.Common.{◌∙◌, sym, true≢false}
use Rattle.edited_listing.specs.Edited.{Edited}
use Rattle.edited_listing.proofs.Looking.{instr_end, instr_begins, instr_goes, instr_stops}
use Rattle.edited_listing.proofs.looks.next_instr.Goals.{then-begins, else-begins}
use Rattle.edited_listing.proofs.looks.next_instr.Goals as goal

pub returns-then-place-stands-clause-instr : goal.returns-then-place-stands-clause-instr
returns-then-place-stands-clause-instr c =
    let e : Edited = record { given = c.args.given.now; stands = c.args.stands.now } in
    instr_end e c.args.begins c.args.place c.requires.edited c.if-place-stands.true c.requires.kept

pub returns-then-is_joined-clause-instr : goal.returns-then-is_joined-clause-instr
returns-then-is_joined-clause-instr c =
    let e : Edited = record { given = c.args.given.now; stands = c.args.stands.now } in
    c.standing_instr.ensures ∙ (elim c.if-begins.branch [
      | then-begins w ↦ instr_begins e c.args.begins c.args.place c.requires.edited c.if-place-stands.false c.requires.kept w.if-begins.true
      | else-begins w ↦ instr_goes e c.args.begins c.args.place c.requires.edited c.if-place-stands.false c.requires.kept (sym w.is_joined.ensures ∙ sym w.value-is ∙ c.if-is_joined.true)
    ])

pub returns-else-is_joined-clause-instr : goal.returns-else-is_joined-clause-instr
returns-else-is_joined-clause-instr c =
    let e : Edited = record { given = c.args.given.now; stands = c.args.stands.now } in
    elim c.if-begins.branch [
      | then-begins w ↦ absurd (true≢false (sym w.if-begins.true ∙ sym w.value-is ∙ c.if-is_joined.false))
      | else-begins w ↦ instr_stops e c.args.begins c.args.place c.requires.edited c.if-place-stands.false c.requires.kept w.if-begins.false (sym w.is_joined.ensures ∙ sym w.value-is ∙ c.if-is_joined.false)
    ]
