use Rattle.std.proofs.Common.{◌≡◌, ◌∙◌, None, Some, refl, sym, subst, arith}
use Rattle.thumb_model.specs.Effect.{register_count}
use Rattle.seq_enum.specs.Alphabet.{IsPlace, IsOver, sequences}
use Rattle.seq_enum.proofs.Shared.{over_sequences}
use Rattle.window_harvest.proofs.Alphabet.{over_number, over_none}
use Rattle.window_harvest.proofs.keys.key_of.Goals as goal

pub returns-then-count-eq0 : goal.returns-then-count-eq0
returns-then-count-eq0 c = λ l.
    let count : register_count c.args.seq.now ≡ 0 = sym c.requires.count ∙ c.if-count-eq0.true in
    over_none c.args.limits.pool.now c.args.seq.now c.requires.some (subst (λ k. IsOver k c.args.limits.pool.now c.args.seq.now) count l.over)

pub number_of-requires : goal.number_of-requires
number_of-requires c = (c.over.ensures c.args.limits.pool.now c.requires.numberings).is

pub returns-in-None : goal.returns-in-None
returns-in-None c = λ l.
    let n = c.over.ensures c.args.limits.pool.now c.requires.numberings in
    let stands = over_number c.args.count c.args.limits.pool.now c.args.seq.now c.requires.short (subst (λ k. IsOver k c.args.limits.pool.now c.args.seq.now) (sym c.requires.count) l.over) in
    let place : IsPlace None (sequences c.args.count c.args.limits.pool.now) c.args.seq.now = rw (n.registers_are, n.pool_is) at c.in-None.ensures in
    let found : None ≡ Some stands.0 = place.found stands.0 stands.1 in
    absurd (cc)

pub returns-in-Some : goal.returns-in-Some
returns-in-Some c =
    let n = c.over.ensures c.args.limits.pool.now c.requires.numberings in
    let place : IsPlace (Some c.in-Some.number) (sequences c.args.count c.args.limits.pool.now) c.args.seq.now = rw (n.registers_are, n.pool_is) at c.in-Some.ensures in (
      record {
        few = omega (arith, c.requires.count, c.if-count-from.false, c.from.ensures);
        over = subst (λ k. IsOver k c.args.limits.pool.now c.args.seq.now) c.requires.count (over_sequences c.args.count c.args.limits.pool.now c.in-Some.number c.args.seq.now (place.stands c.in-Some.number refl));
      },
      record { registers = c.requires.count; number = place; mask = refl },
    )
