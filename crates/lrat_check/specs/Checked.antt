-- What of a checker's state the verdicts on proofs depend on.
use Rattle.lrat_check.specs.Checking.{State, live_at}
use Rattle.lrat_check.specs.Proofs.{Known}

abbrev pub known_of : State → Known
known_of state = record { live = live_at state; last = state.last }
