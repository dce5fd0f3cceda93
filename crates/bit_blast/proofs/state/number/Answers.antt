use Rattle.std.proofs.Common.{◌≡◌, ◌<◌, ◌+◌, ◌*◌, ◌^◌, ◌%◌, ℕ, ◌∙◌, ap, sym, arith, subst, rules}
use Rattle.std.specs.Int.{from_bool}
use Rattle.cnf_gates.specs.Meaning.{assigned}
use Rattle.bit_blast.specs.Differences.{variables_from}
use Rattle.bit_blast.specs.Exactness.{number_of}
use Rattle.bit_blast.proofs.Read.{one_bit, number_fits}
use Rattle.bit_blast.proofs.state.number.Goals as goal

pub overflow_add-number : goal.overflow_add-number
overflow_add-number c =
    let m = assigned c.args.model.now in
    let i : ℕ = c.loop-i.i in
    let bit : c.from.result ≡ from_bool (m (c.args.first + i)) = search rules in
    let next : c.loop-i.number + c.from.result * 2 ^ i % 2 ^ 32 ≡ number_of m (variables_from c.args.first (i + 1)) = ap (λ x. c.loop-i.number + x * 2 ^ i % 2 ^ 32) bit ∙ one_bit m c.args.first i c.loop-i.number (omega arith) c.loop-i.invariant in
    let below : number_of m (variables_from c.args.first (i + 1)) < 2 ^ 32 = number_fits m c.args.first (i + 1) (omega arith) in
    let sum : c.loop-i.number + c.from.result * 2 ^ i % 2 ^ 32 < 2 ^ 32 = subst (λ n. n < 2 ^ 32) (sym next) below in
    omega (arith, sum)

pub loop-i-preserved : goal.loop-i-preserved
loop-i-preserved c =
    let m = assigned c.args.model.now in
    let i : ℕ = c.loop-i.i in
    let bit : c.from.result ≡ from_bool (m (c.args.first + i)) = search rules in
    ap (λ x. c.loop-i.number + x * 2 ^ i % 2 ^ 32) bit ∙ one_bit m c.args.first i c.loop-i.number (omega arith) c.loop-i.invariant

pub returns : goal.returns
returns c = c.loop-i.invariant ∙ ap (λ (i : ℕ). number_of (assigned c.args.model.now) (variables_from c.args.first i)) (let e : c.loop-i.i ≡ c.args.n = omega arith in e)
