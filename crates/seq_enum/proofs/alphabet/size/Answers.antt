use Rattle.std.proofs.Common.{◌≡◌, ap, ◌∙◌, arith, length}
use Rattle.std.specs.List.{flat_map}
use Rattle.seq_enum.specs.Alphabet.{those_within, alphabet, members}
use Rattle.seq_enum.proofs.Mnemonics.{size_formula, size_bound}
use Rattle.seq_enum.proofs.Bounds.{whole_pool, within_few}
use Rattle.seq_enum.proofs.alphabet.size.Goals as goal

pub returns-clause-value : goal.returns-clause-value
unfolding alphabet
returns-clause-value c = c.total_of.ensures.value ∙ ap (λ rs. length (flat_map (members c.args.k c.args.pool.now) rs)) c.rows.ensures.value

pub returns-clause-formula : goal.returns-clause-formula
unfolding alphabet
returns-clause-formula c =
    c.total_of.ensures.value ∙ ap (λ rs. length (flat_map (members c.args.k c.args.pool.now) rs)) c.rows.ensures.value
    ∙ size_formula c.args.k c.args.pool.now (omega arith)
    ∙ rw (whole_pool c.args.pool.now c.numbers-numbers.ensures.valid) (omega arith)

pub returns-clause-small : goal.returns-clause-small
unfolding alphabet
returns-clause-small c =
    let ns = c.args.pool.now in
    let valid = c.numbers-numbers.ensures.valid in
    let is : c.total_of.result ≡ _ =
    c.total_of.ensures.value ∙ ap (λ rs. length (flat_map (members c.args.k c.args.pool.now) rs)) c.rows.ensures.value ∙ size_formula c.args.k c.args.pool.now (omega arith) in
    omega (
      arith,
      is,
      size_bound c.args.k (length (those_within 0 8 ns)) (length (those_within 0 256 ns)) (length (those_within 1 32 ns)) (length (those_within 1 33 ns)) c.requires.few
          (within_few 0 8 ns valid) (within_few 0 256 ns valid) (within_few 1 32 ns valid) (within_few 1 33 ns valid),
    )
