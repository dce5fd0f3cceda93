use Rattle.std.proofs.Common.{◌≡◌, ◌∙◌, ◌+◌, ◌<◌, ◌&&◌, nat_lt, length, get_or, sym, ap, refl, arith}
use Rattle.std.specs.Int.{from_bool}
use Rattle.std.proofs.lemmas.List.{get_or_default, length-set}
use Rattle.thumb_instr.specs.Items.{has}
use Rattle.liveness.proofs.Recounts.{done_more, rest_more, points_more, none_yet}
use Rattle.liveness.proofs.counted.recount.Goals as goal

pub loop-item-init : goal.loop-item-init
loop-item-init c = record {
  kinds = c.requires.kinds;
  done = λ x h. absurd (omega arith);
  rest = λ x h. refl;
  points = none_yet c.none-points.result.bits c.args.counts.now.items c.none-points.ensures;
}

pub recounted-count-requires-clause-had : goal.recounted-count-requires-clause-had
recounted-count-requires-clause-had c = λ h.
    let within : c.loop-item.item < length c.loop-item.counts.items = omega (arith, c.loop-item-test.true, c.loop-item.invariant.kinds) in
    omega (arith, c.index.ensures, get_or_default c.loop-item.counts.items c.loop-item.item c.index.result.now 0 within, c.loop-item.invariant.rest c.loop-item.item (omega arith), c.requires.had c.loop-item.item c.loop-item-test.true (sym c.has.ensures ∙ h))

pub recounted-count-requires-clause-room : goal.recounted-count-requires-clause-room
recounted-count-requires-clause-room c = λ h.
    let within : c.loop-item.item < length c.loop-item.counts.items = omega (arith, c.loop-item-test.true, c.loop-item.invariant.kinds) in
    omega (arith, c.index.ensures, get_or_default c.loop-item.counts.items c.loop-item.item c.index.result.now 0 within, c.loop-item.invariant.rest c.loop-item.item (omega arith), c.requires.room c.loop-item.item c.loop-item-test.true (sym c.has.ensures ∙ h))

pub loop-item-preserved : goal.loop-item-preserved
loop-item-preserved c =
    let cs = c.loop-item.counts.items in
    let i = c.loop-item.item in
    let n = c.recounted-count.result in
    let within : i < length cs = omega (arith, c.loop-item-test.true, c.loop-item.invariant.kinds) in
    let at : c.index.result.now ≡ get_or cs i 0 = c.index.ensures ∙ get_or_default cs i c.index.result.now 0 within in
    let new : n + from_bool (has c.args.old.bits i) ≡ get_or cs i 0 + from_bool (has c.args.new.bits i) =
    ap (λ b. n + from_bool b) (sym c.has.ensures) ∙ c.recounted-count.ensures ∙ ap (λ b. c.index.result.now + from_bool b) c.has-in-loop-item.ensures ∙ ap (λ y. y + from_bool (has c.args.new.bits i)) at in
    record {
      kinds = length-set cs i n ∙ c.loop-item.invariant.kinds;
      done = done_more cs c.args.counts.now.items i n (has c.args.old.bits) (has c.args.new.bits) within new c.loop-item.invariant.done c.loop-item.invariant.rest;
      rest = rest_more cs c.args.counts.now.items i n (has c.args.old.bits) (has c.args.new.bits) within new c.loop-item.invariant.rest;
      points = points_more cs i n c.loop-item.points.bits c.with_counted-points.result.bits within c.loop-item.invariant.points c.with_counted-points.ensures;
    }

pub returns-clause-counts : goal.returns-clause-counts
returns-clause-counts c = λ x h. c.loop-item.invariant.done x (omega (arith, h, c.loop-item-test.false))

pub returns-clause-points : goal.returns-clause-points
returns-clause-points c = λ x. c.loop-item.invariant.points x ∙ ap (λ n. nat_lt x n && nat_lt 0 (get_or c.loop-item.counts.items x 0)) (let e : c.loop-item.item ≡ 19 = omega (arith, c.loop-item-test.false, c.loop-item.auto.item-end) in e)
