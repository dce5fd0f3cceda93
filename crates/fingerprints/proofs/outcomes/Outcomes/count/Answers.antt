use Rattle.std.proofs.Common.{◌≡◌, ◌+◌, ap, subst, length, arith}
use Rattle.fingerprints.specs.Outcomes.{Extent, sequences_below}
use Rattle.fingerprints.proofs.Growing.{count_is}
use Rattle.fingerprints.proofs.outcomes.Outcomes.count.Goals as goal

pub returns : goal.returns
returns c =
    let size : c.len.result ≡ length c.self.inside.alphabet.items = omega (arith, c.len.ensures) in
    let most : c.from.result + 1 ≡ c.args.longest + 1 = ap (λ n. n + 1) c.from.ensures in
    subst (λ (e : Extent). c.count_below.result ≡ length (sequences_below e.alphabet (c.args.longest + 1))) c.self.view_is
    (count_is c.self.inside.alphabet.items (c.args.longest + 1) (c.from.result + 1) c.len.result c.count_below.result size most c.count_below.ensures.value)
