use Rattle.std.proofs.Common.{◌<◌, ◌+◌, arith, refl, length}
use Rattle.std.proofs.Math.Facts.{Fits-of_lt}
use Rattle.std.proofs.lemmas.Option.{slice_get_read}
use Rattle.seq_enum.proofs.Steps.{stands_small, next_stands}
use Rattle.seq_enum.proofs.walk.Walk.next.Goals as goal

pub overflow_add-next : goal.overflow_add-next
overflow_add-next c =
    let small = stands_small _ _ _ _ c.requires in
    Fits-of_lt (omega (arith, small.1, c.requires.few))

pub overflow_add-self : goal.overflow_add-self
overflow_add-self c = Fits-of_lt (stands_small _ _ _ _ c.requires).0

pub overflow_add-self-2 : goal.overflow_add-self-2
overflow_add-self-2 c = Fits-of_lt (stands_small _ _ _ _ c.requires).0

pub overflow_add-self-in-Some : goal.overflow_add-self-in-Some
overflow_add-self-in-Some c = Fits-of_lt (stands_small _ _ _ _ c.requires).0

pub returns-then-next-alphabet-clause-stands : goal.returns-then-next-alphabet-clause-stands
returns-then-next-alphabet-clause-stands c =
    let w = c.args.self.now in
    let low : w.last + 1 < length w.alphabet.now = c.if-next-alphabet.true in
    rw (c.push.ensures.items, c.truncate.ensures.items, c.len-count.ensures.value)
    (next_stands w.alphabet.now w.instrs.items w.number w.last c.index-alphabet-next.result c.requires
    (omega (arith, c.if-count-gt0.true, c.len-count.ensures.value)) low
    (slice_get_read w.alphabet.now (length w.alphabet.now) (w.last + 1) c.index-alphabet-next.result refl low c.index-alphabet-next.is))
