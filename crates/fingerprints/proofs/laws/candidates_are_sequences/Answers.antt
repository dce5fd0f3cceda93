use Rattle.fingerprints.proofs.PrintCandidates.{candidate_is_sequence, sequence_is_candidate}
use Rattle.fingerprints.proofs.laws.candidates_are_sequences.Goals as goal

pub returns : goal.returns
returns c = λ mask longest print number states alphabet h. (candidate_is_sequence mask longest print number states alphabet h, sequence_is_candidate mask longest print number states alphabet h)
