use Rattle.std.proofs.Common.{◌≡◌, filter, drop, slice_get}
use Rattle.seq_enum.specs.Alphabet.{inside}
use Rattle.seq_enum.proofs.pool.number_among.Given as goal

abbrev pub invariant-loop-x : goal.invariant-loop-x
invariant-loop-x l = slice_get (filter (inside l.least l.limit) (drop l.x-index l.numbers)) l.before
    ≡ slice_get (filter (inside l.least l.limit) l.numbers) l.place
