use Rattle.std.proofs.Common.{refl}
use Rattle.rule_table.proofs.windows.mask_of.Goals as goal

pub returns : goal.returns
returns c = λ x.
    rw (
      c.of.ensures x,
      c.union-named.ensures x,
      c.union-5.ensures x,
      c.union-4.ensures x,
      c.union-3.ensures x,
      c.union-registers.ensures x,
      c.union-2.ensures x,
      c.union.ensures x,
      c.kept_at.ensures x,
      c.kept_at-2.ensures x,
      c.kept_at-3.ensures x,
      c.kept_at-4.ensures x,
      c.kept.ensures x,
      c.kept-2.ensures x,
      c.kept-3.ensures x,
      c.kept-4.ensures x,
    ) refl
