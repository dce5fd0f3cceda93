use Rattle.std.proofs.Common.{sym, ap, ◌∙◌, arith}
use Rattle.seq_enum.specs.Places.{rank}
use Rattle.seq_enum.proofs.Mnemonics.{IsPlace-outside, IsPlace-alphabet}
use Rattle.seq_enum.proofs.alphabet.place_of.Goals as goal

pub returns-in-None-clause-value : goal.returns-in-None-clause-value
returns-in-None-clause-value c =
    IsPlace-outside c.args.numbering.now.registers c.args.numbering.now.pool.now c.args.instr.now (omega (arith, c.requires.few))
    (sym (ap (λ p. rank p.kind) c.parts-parts.ensures) ∙ sym c.rank.ensures.value ∙ c.in-None.is)

pub returns-in-Some-clause-value : goal.returns-in-Some-clause-value
returns-in-Some-clause-value c =
    rw c.behind.ensures.value
    (IsPlace-alphabet c.args.numbering.now.registers c.args.numbering.now.pool.now c.args.instr.now c.in-Some.row c.place_of_parts-place.result (omega (arith, c.requires.few))
    (sym (ap (λ p. rank p.kind) c.parts-parts.ensures) ∙ sym c.rank.ensures.value ∙ c.in-Some.is)
    (rw c.parts-parts.ensures at c.place_of_parts-place.ensures.value))
