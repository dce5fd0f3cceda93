use Rattle.std.proofs.Common.{◌≡◌, ◌-◌, arith}
use Rattle.std.proofs.lemmas.Bool.{leb-true}
use Rattle.kept_layout.proofs.ShrinkingPlaces.{address_is}
use Rattle.kept_layout.proofs.kept.KeptLayout.is_small.Goals as goal

pub returns-then-bytes-le-SMALL : goal.returns-then-bytes-le-SMALL
returns-then-bytes-le-SMALL c = λ t j at end e f g.
    let k = c.args.self.now in
    let low = leb-true _ _ t in
    let some = c.requires.here in
    let first = address_is k 0 c.address-start.result c.requires (omega arith) c.address-start.ensures in
    let last = address_is k (c.len.result - 1) c.address-end.result c.requires (omega arith) c.address-end.ensures in
    let is : c.len.result - 1 ≡ j = omega arith in
    let one : c.address-start.result ≡ at = cc in
    let two : c.address-end.result ≡ end = cc in
    let sub = c.saturating_sub.ensures in
    omega arith
