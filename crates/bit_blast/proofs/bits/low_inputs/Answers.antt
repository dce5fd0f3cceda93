use Rattle.std.proofs.Common.{◌∙◌, refl, ap, arith, ◌≡◌, ◌+◌, ℕ}
use Rattle.std.proofs.lemmas.List.{length-set}
use Rattle.bit_blast.specs.Differences.{low_inputs}
use Rattle.bit_blast.proofs.Inputs.{input_built, low_inputs_step}
use Rattle.bit_blast.proofs.bits.low_inputs.Goals as goal

pub loop-i-init : goal.loop-i-init
unfolding low_inputs
loop-i-init c = record {
  wide = refl;
  built = ap (λ (n : ℕ). record c.args.builder.now { variables = n }) (let e : c.args.builder.now.variables ≡ c.args.builder.now.variables + 0 = omega arith in e);
  bits = refl;
}

pub loop-i-preserved : goal.loop-i-preserved
loop-i-preserved c = record {
  wide = length-set c.loop-i.word c.loop-i.i c.in_ok-word.field-0 ∙ c.loop-i.invariant.wide;
  built = input_built c.args.builder.now c.loop-i.builder c.input.new.self c.loop-i.i c.in_ok-word.field-0 c.loop-i.invariant.built c.in_ok-word.ensures.ok;
  bits = low_inputs_step c.args.builder.now c.loop-i.builder c.input.new.self c.loop-i.i c.loop-i.word c.in_ok-word.field-0 (omega arith) c.loop-i.invariant.built c.loop-i.invariant.bits c.in_ok-word.ensures.ok;
}

pub returns : goal.returns
returns c =
    let i : c.loop-i.i ≡ c.args.n = omega arith in (
      c.loop-i.invariant.built ∙ ap (λ (n : ℕ). record c.args.builder.now { variables = c.args.builder.now.variables + n }) i,
      c.loop-i.invariant.bits ∙ ap (low_inputs c.args.builder.now.variables) i,
    )
