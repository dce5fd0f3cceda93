use Rattle.std.proofs.Common.{◌≡◌, length, rules}
use Rattle.fingerprints.proofs.Growing.{begun}
use Rattle.fingerprints.proofs.outcomes.Outcomes.new.Goals as goal

pub invariant_of-result : goal.invariant_of-result
invariant_of-result c =
    let four : length c.args.start.r ≡ 4 = search rules in
    let none = c.in_ok-columns.ensures in
    begun c.args.k c.args.pool.now c.in_ok-alphabet.alphabet.items c.args.start c.in_ok-columns.columns c.push.new.self c.requires.some c.requires.few c.in_ok-alphabet.ensures.value c.in_ok-alphabet.ensures.some c.in_ok-alphabet.ensures.few four
    none.r0 none.r1 none.r2 none.r3 none.flags c.push.ensures.after
