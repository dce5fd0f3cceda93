use Rattle.std.proofs.Common.{◌≡◌, true, map, ap, subst, sym, ◌∙◌}
use Rattle.std.specs.Prelude.{decimal}
use Rattle.seq_enum.specs.Alphabet.{is_pool}
use Rattle.rule_table.specs.Text.{after_blanks}
use Rattle.rule_table.specs.Words.{AreBytes}
use Rattle.rule_table.proofs.ListTexts.{pool_bytes, pool_some, pool_found, made_list}
use Rattle.rule_table.proofs.tails.pool.Goals as goal

pub returns-in-None : goal.returns-in-None
returns-in-None c = λ ns is e.
    let none = rw c.in-None.is at c.in_ok-bytes_in.ensures in
    none ns (pool_bytes ns is) (pool_some ns is) e

pub returns-in-Some : goal.returns-in-Some
returns-in-Some c =
    let are = rw c.in-Some.is at c.in_ok-bytes_in.ensures in
    let same = c.deref.ensures.0 in
    made_list (λ ns. is_pool ns ≡ true) pool_bytes c.args.tail.now c.deref.result.now c.new.result (subst AreBytes (sym same) are.0)
    (ap (λ ns. after_blanks (map decimal ns)) same ∙ are.1) (pool_found c.deref.result.now c.new.result c.new.ensures.valid c.new.ensures.value)
