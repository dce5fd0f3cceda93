-- Upper bounds on the literals looked at while proofs and logs are checked.
use Rattle.std.specs.Prelude.{ℕ, ◌+◌, ◌++◌, List, [], ◌∷◌, length, map, sum_by, unsigned_abs}
use Rattle.clause_model.specs.Clauses.{hint_lengths}
use Rattle.lrat_check.specs.Text.{Content, addition, deletion}
use Rattle.lrat_check.specs.Proofs.{Known, started, after_line, additions}

-- the lengths of the live clauses that the hints name, line by line
abbrev pub line_cost : Known → Content → ℕ
line_cost known (addition id literals hints) = hint_lengths known.live (map unsigned_abs hints)
line_cost known (deletion id ids) = 0

abbrev pub lines_cost : Known → List Content → ℕ
lines_cost known [] = 0
lines_cost known (line ∷ lines) = line_cost known line + lines_cost (after_line known line) lines

-- for each of the clauses, the lengths of all clauses before it
abbrev pub newness_cost : List (List ℕ) → List (List ℕ) → ℕ
newness_cost before [] = 0
newness_cost before (clause ∷ clauses) = sum_by length before + newness_cost (before ++ clause ∷ []) clauses

abbrev pub spent_cost : List (List ℕ) → List Content → ℕ
spent_cost clauses log = lines_cost (started clauses) log + newness_cost clauses (additions log)
