use Rattle.std.proofs.Common.{◌∙◌, sym}
use Rattle.std.proofs.lemmas.Str.{IsUtf8-from_ascii}
use Rattle.ascii_scan.proofs.NumeralLemmas.{parsed, digits_ascii}
use Rattle.ascii_scan.proofs.numerals.digits.Goals as goal

pub returns-in-Ok : goal.returns-in-Ok
returns-in-Ok c =
    let all = sym c.all_digits.ensures ∙ c.if-all_digits.true in
    c.ok.ensures.value ∙ parsed c.args.radix c.args.bytes.now c.from_str_radix.result c.requires.high all (rw c.in-Ok.ensures.cases.0 at c.from_str_radix.ensures.value)

pub returns-in-Err : goal.returns-in-Err
returns-in-Err c =
    let all = sym c.all_digits.ensures ∙ c.if-all_digits.true in
    absurd (c.in-Err.ensures.cases.0 (IsUtf8-from_ascii c.args.bytes.now (digits_ascii c.args.radix c.args.bytes.now c.requires.high all)))
