use Rattle.std.proofs.Common.{◌<◌, add-one, arith, refl, length}
use Rattle.std.proofs.Math.Nat.{pow-zero}
use Rattle.std.proofs.Math.Seq.{take-suc}
use Rattle.std.proofs.lemmas.Option.{slice_get_within, slice_get_read}
use Rattle.seq_enum.specs.Alphabet.{alphabet}
use Rattle.seq_enum.proofs.Words.{IsPlace-empty, IsPlace-no_word, IsPlace-word, horner_fits, power_fits}
use Rattle.seq_enum.proofs.numbering.Numbering.place_of_word.Goals as goal

pub loop-instr-init : goal.loop-instr-init
loop-instr-init c = record { so_far = IsPlace-empty (alphabet c.args.self.now.registers c.args.self.now.pool.now); small = omega (arith, pow-zero c.args.self.now.size) }

pub returns-in-None-clause-value : goal.returns-in-None-clause-value
returns-in-None-clause-value c =
    IsPlace-no_word (alphabet c.args.self.now.registers c.args.self.now.pool.now) (length c.args.instrs.now) c.args.instrs.now c.loop-instr.instr-index c.instr-item.result
    (slice_get_read c.args.instrs.now (length c.args.instrs.now) c.loop-instr.instr-index c.instr-item.result refl c.loop-instr-test.true c.instr-item.is)
    c.in-None.ensures.value

-- an instruction's place is below the number of instructions
pub overflow_mul-place : goal.overflow_mul-place
overflow_mul-place c =
    let digit : c.in-Some.digit < length (alphabet c.args.self.now.registers c.args.self.now.pool.now) =
    slice_get_within (alphabet c.args.self.now.registers c.args.self.now.pool.now) c.in-Some.digit c.instr-item.result (c.in-Some.ensures.value.stands c.in-Some.digit refl) in
    let f = horner_fits c.args.self.now.size c.loop-instr.instr-index c.loop-instr.place c.in-Some.digit c.requires.is.small (omega arith) c.loop-instr.invariant.small (omega arith) in
    omega (arith, f.0)

pub overflow_add-place : goal.overflow_add-place
overflow_add-place c =
    let digit : c.in-Some.digit < length (alphabet c.args.self.now.registers c.args.self.now.pool.now) =
    slice_get_within (alphabet c.args.self.now.registers c.args.self.now.pool.now) c.in-Some.digit c.instr-item.result (c.in-Some.ensures.value.stands c.in-Some.digit refl) in
    let f = horner_fits c.args.self.now.size c.loop-instr.instr-index c.loop-instr.place c.in-Some.digit c.requires.is.small (omega arith) c.loop-instr.invariant.small (omega arith) in
    omega (arith, f.1, f.2)

pub loop-instr-preserved : goal.loop-instr-preserved
loop-instr-preserved c =
    let digit : c.in-Some.digit < length (alphabet c.args.self.now.registers c.args.self.now.pool.now) =
    slice_get_within (alphabet c.args.self.now.registers c.args.self.now.pool.now) c.in-Some.digit c.instr-item.result (c.in-Some.ensures.value.stands c.in-Some.digit refl) in
    let f = horner_fits c.args.self.now.size c.loop-instr.instr-index c.loop-instr.place c.in-Some.digit c.requires.is.small (omega arith) c.loop-instr.invariant.small (omega arith) in
    record {
      so_far = rw (add-one, take-suc c.args.instrs.now c.loop-instr.instr-index c.instr-item.result c.loop-instr-test.true, ← c.instr-item.is, c.requires.is.size)
          (IsPlace-word (alphabet c.args.self.now.registers c.args.self.now.pool.now) c.loop-instr.instr-index _ c.instr-item.result c.loop-instr.place c.in-Some.digit
          c.loop-instr.invariant.so_far c.in-Some.ensures.value);
      small = f.1;
    }

pub returns-clause-small : goal.returns-clause-small
returns-clause-small c =
    omega (arith, c.loop-instr.invariant.small, power_fits c.args.self.now.size c.loop-instr.instr-index c.requires.is.small (omega arith))
