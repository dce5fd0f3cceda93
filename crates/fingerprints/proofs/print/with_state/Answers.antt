use Rattle.fingerprints.proofs.PrintLemmas.{by_words}
use Rattle.fingerprints.proofs.print.with_state.Goals as goal

pub returns : goal.returns
returns c =
    by_words _ _ _ _ _ _ _ _ _ _ _ _ _ _ _ _ c.has.ensures c.has-2.ensures c.has-3.ensures c.has-4.ensures
    c.mixed_if-h.ensures c.mixed_if-h-2.ensures c.mixed_if-h-3.ensures c.mixed_if-h-4.ensures c.mixed.ensures
