use Rattle.std.proofs.Common.{arith, ap, length, List, ℕ, refl}
use Rattle.seq_enum.proofs.Starts.{starts_fewer, starts_at}
use Rattle.seq_enum.proofs.numbering.Numbering.before.Goals as goal
use Rattle.seq_enum.proofs.Mnemonics.{length-rows}

pub bounds-deref-row : goal.bounds-deref-row
bounds-deref-row c = omega (arith, c.requires.listed, ap (λ (xs : List ℕ). length xs) c.deref.ensures.0, c.requires.is.starts.as_many, length-rows)

pub returns-clause-value : goal.returns-clause-value
returns-clause-value c =
    starts_at c.args.self.now.registers c.args.self.now.pool.now c.args.self.now.starts.items c.deref.result.now c.args.row c.args.row c.requires.is.starts c.deref.ensures.0 refl c.requires.listed

pub returns-clause-small : goal.returns-clause-small
returns-clause-small c =
    omega (
      arith,
      starts_at c.args.self.now.registers c.args.self.now.pool.now c.args.self.now.starts.items c.deref.result.now c.args.row c.args.row c.requires.is.starts c.deref.ensures.0 refl c.requires.listed,
      starts_fewer c.args.self.now.registers c.args.self.now.pool.now c.args.row,
      c.requires.is.size,
      c.requires.is.small,
    )
