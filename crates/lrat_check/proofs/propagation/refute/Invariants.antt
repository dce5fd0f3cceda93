use Rattle.std.proofs.Common.{◌≡◌, ℕ, ◌+◌, ◌≤◌, List, Option, drop, map}
use Rattle.std.specs.Prelude.{unsigned_abs}
use Rattle.clause_model.specs.Clauses.{hint_lengths}
use Rattle.lrat_check.specs.Costs.{IsPartOf}
use Rattle.clause_model.proofs.Runs.{Continues}
use Rattle.lrat_check.proofs.Looked.{Looked}
use Rattle.lrat_check.proofs.Sufficing.{GoesOn, Spends}
use Rattle.lrat_check.proofs.propagation.refute.Given as goal

abbrev pub invariant-loop-hint : goal.invariant-loop-hint
invariant-loop-hint g l =
    (l.place ≡ l.hint-index)
    × Continues (g.C.Clauses.at l.live) l.initial.assignment (map unsigned_abs l.hints) l.assignment (drop l.hint-index (map unsigned_abs l.hints)) l.hint-index
    × (l.steps + hint_lengths (g.C.Clauses.at l.live) (drop l.hint-index (map unsigned_abs l.hints)) ≤ l.initial.steps + hint_lengths (g.C.Clauses.at l.live) (map unsigned_abs l.hints))
    × Looked (g.C.Clauses.at l.live) l.initial.assignment (map unsigned_abs l.hints) l.assignment (drop l.hint-index (map unsigned_abs l.hints)) l.initial.steps l.steps
    × GoesOn (g.C.Clauses.at l.live) l.initial.assignment (map unsigned_abs l.hints) l.assignment l.hint-index
    × ((later : ℕ → Option (List ℕ)) → IsPartOf (g.C.Clauses.at l.live) later → Spends later l.initial.assignment (map unsigned_abs l.hints) l.assignment (drop l.hint-index (map unsigned_abs l.hints)) l.initial.steps l.steps)
