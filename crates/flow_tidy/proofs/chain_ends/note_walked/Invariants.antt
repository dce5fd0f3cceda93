use Rattle.std.proofs.Common.{◌≡◌, ◌<◌, false, length}
use Rattle.kept_places.specs.Marks.{is_gone}
use Rattle.flow_tidy.specs.ChainEnds.{AreEnds, AreWalked}
use Rattle.flow_tidy.proofs.chain_ends.note_walked.Given as goal

abbrev pub invariant-loop-hops : goal.invariant-loop-hops
invariant-loop-hops l = record {
  same : l.draft ≡ l.fn.draft;
  within : l.at < length l.draft.gone;
  kept : is_gone l.draft.gone l.at ≡ false;
  walked : AreWalked l.draft l.ends l.last;
  known : AreEnds l.draft l.ends;
}
