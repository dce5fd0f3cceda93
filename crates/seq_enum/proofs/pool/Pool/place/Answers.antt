use Rattle.std.proofs.Common.{sym}
use Rattle.seq_enum.specs.Alphabet.{inside}
use Rattle.seq_enum.proofs.Bounds.{bounds, below_more, IsPlace-filtered}
use Rattle.seq_enum.proofs.pool.Pool.place.Goals as goal

pub returns-clause-value : goal.returns-clause-value
returns-clause-value c =
    let is = c.numbers.ensures.value in
    let known = bounds c.args.self.now c.numbers.ensures.valid in
    IsPlace-filtered (inside c.args.least c.args.limit) c.args.self.now c.args.number c.place_among.result known.ascends (rw (← is) (sym c.place_among.ensures.value))

pub returns-clause-small : goal.returns-clause-small
returns-clause-small c =
    let is = c.numbers.ensures.value in
    let known = bounds c.args.self.now c.numbers.ensures.valid in
    below_more c.place_among.result _ 16 (rw is at c.place_among.ensures.small) known.few
