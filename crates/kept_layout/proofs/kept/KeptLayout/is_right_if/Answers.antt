use Rattle.std.proofs.Common.{◌≡◌, arith}
use Rattle.kept_layout.specs.Moves.{news}
use Rattle.kept_layout.proofs.ShrinkingKnown.{right_of}
use Rattle.kept_layout.proofs.kept.KeptLayout.is_right_if.Goals as goal

pub returns-then-is_known-known : goal.returns-then-is_known-known
returns-then-is_known-known c =
    let k = c.args.self.now in
    let m = c.args.moved.now in
    let same : c.is_known.result ≡ c.args.known = let t = c.if-is_known-known.true in grind arith in
    (λ t s e is. c.is_right.ensures.0 t, λ r. c.is_right.ensures.1 (right_of c.args.known c.is_known.result k (news k c.args.bytes m.at.items) m.by c.args.number c.requires.within (c.is_known.ensures c.args.bytes) same r))
