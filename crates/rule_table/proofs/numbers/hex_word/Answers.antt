use Rattle.std.proofs.Common.{◌^◌, ◌<◌, arith, add-one, ap, sym, ◌∙◌, length}
use Rattle.std.proofs.Math.Nat.{pow-suc}
use Rattle.std.proofs.lemmas.Nat.{mul-add-lt}
use Rattle.rule_table.proofs.HexTexts.{hex_none, hex_step, hex_start, length-hex}
use Rattle.rule_table.proofs.numbers.hex_word.Goals as goal

pub returns-then-text-ne8-clause-none : goal.returns-then-text-ne8-clause-none
returns-then-text-ne8-clause-none c = λ w e. absurd (omega (arith, ap length e, length-hex 8 w))

pub loop-byte-init : goal.loop-byte-init
loop-byte-init c = record { so_far = hex_start; small = omega arith }

pub returns-in-None-clause-none : goal.returns-in-None-clause-none
returns-in-None-clause-none c = λ w e.
    hex_none c.args.text.now c.loop-byte.byte-index 8 w c.loop-byte-test.true (sym c.digit.ensures.value ∙ c.in-None.is) e

pub loop-byte-preserved : goal.loop-byte-preserved
loop-byte-preserved c =
    let small : c.in-Some.value < 16 = c.in-Some.ensures.small in
    let next = mul-add-lt c.loop-byte.word 16 c.in-Some.value (16 ^ c.loop-byte.byte-index) c.loop-byte.invariant.small small in
    record {
      so_far = rw c.from.ensures (hex_step c.args.text.now c.loop-byte.byte-index c.loop-byte.word c.in-Some.value c.loop-byte-test.true
          c.loop-byte.invariant.so_far (sym c.digit.ensures.value ∙ c.in-Some.is));
      small = omega (arith, next, c.from.ensures, pow-suc 16 c.loop-byte.byte-index, ap (λ n. 16 ^ n) (add-one c.loop-byte.byte-index));
    }
