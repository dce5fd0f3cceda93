-- What the solver's verdicts guarantee: models, refutations, and logs of a spent budget.
use Rattle.std.specs.Prelude.{ℕ, pos, ◌≡◌, ◌<◌, ◌≤◌, ◌+◌, ◌*◌, ◌⊎◌, Bool, List, [], ◌∷◌, ◌++◌, All, Any, Contains, Option, Some, map, length, take, get_or}
use Rattle.clause_model.specs.Clauses.{codes_of, negated, AllFalse, IsUnit, numbered, IsAsserting}
use Rattle.cnf_gates.specs.Cnf.{Cnf}
use Rattle.cnf_gates.specs.Meaning.{IsModel}
use Rattle.lrat_check.specs.declared.line.Addition.{Addition}
use Rattle.lrat_check.specs.declared.line.Line.{Line}
use Rattle.lrat_check.specs.declared.line.Line.TheVariants.{Addition as Adding, Deletion as Deleting}
use Rattle.cdcl_core.specs.declared.solving.Verdict.{Verdict}
use Rattle.cdcl_core.specs.declared.solving.Verdict.TheVariants.{Sat, Unsat, Spent}

-- ---- lines ----

-- a clause that the hints name has the literal
abbrev pub IsUsed : (ℕ → Option (List ℕ)) → ℕ → List ℕ → Type 0
IsUsed live l [] = ⊥
IsUsed live l (h ∷ hints) = ((clause : List ℕ) × (live h ≡ Some clause) × Contains clause l) ⊎ IsUsed live l hints

-- the hints refute: none comes twice or after the one whose clause became false, and each before it makes a literal true whose contrary stands in a later hint's clause
abbrev pub RefutesTidily : (ℕ → Option (List ℕ)) → List ℕ → List ℕ → Type 0
RefutesTidily live a [] = ⊥
RefutesTidily live a (h ∷ hints) = (clause : List ℕ) × (live h ≡ Some clause) × (Contains hints h → ⊥)
    × ((AllFalse a clause × (hints ≡ [])) ⊎ ((u : ℕ) × IsUnit a clause u × IsUsed live (negated u) hints × RefutesTidily live (a ++ u ∷ []) hints))

-- with each literal of the clause false, the hints refute, and none is redundant
abbrev pub TidyPropagation : (ℕ → Option (List ℕ)) → List ℕ → List ℕ → Type 0
TidyPropagation live clause hints = RefutesTidily live (map negated clause) hints

-- a line adds a clause under the id after those of the clauses, by hints of which none is redundant
pub record Adds (clauses : List (List ℕ)) (line : Addition) : Type 0 where
  pub id : line.id ≡ length clauses + 1
  pub hints : List ℕ
  pub hints_are : line.hints.items ≡ map pos hints
  pub tidy : TidyPropagation (numbered clauses) line.literals.items hints

-- the literals of the clause that a line adds
abbrev pub literals_in : Line → List ℕ
literals_in (Adding line) = line.literals.items
literals_in (Deleting line) = []

-- the clauses of a formula, followed by those that the lines of a log add
abbrev pub with_log : List (List ℕ) → List Line → List (List ℕ)
with_log formula log = formula ++ map literals_in log

-- the line adds an asserting clause
abbrev pub Teaches : List (List ℕ) → Line → Type 0
Teaches clauses (Adding line) = Adds clauses line × IsAsserting clauses line.literals.items
Teaches clauses (Deleting line) = ⊥

-- the line adds the empty clause
abbrev pub Refutes : List (List ℕ) → Line → Type 0
Refutes clauses (Adding line) = Adds clauses line × (line.literals.items ≡ [])
Refutes clauses (Deleting line) = ⊥

-- each line adds an asserting clause to the formula's and those of the lines before it
abbrev pub IsLog : List (List ℕ) → List Line → Type 0
IsLog formula log = (k : ℕ) (d : Line) → k < length log → Teaches (with_log formula (take k log)) (get_or log k d)

-- and the last line adds the empty clause
abbrev pub IsRefutation : List (List ℕ) → List Line → Type 0
IsRefutation formula log = (front : List Line) × (last : Line) × (log ≡ front ++ last ∷ []) × IsLog formula front × Refutes (with_log formula front) last

-- ---- verdicts ----

-- each literal is of one of the first n variables (2v and 2v + 1 are those of the variable v, counted from 0)
abbrev pub AreBelow : ℕ → List (List ℕ) → Type 0
AreBelow n clauses = All (λ clause. All (λ l. l < 2 * n) clause) clauses

-- a value for each variable that the formula has or that a clause of it names
abbrev pub HasValues : List Bool → Cnf → Type 0
HasValues model formula = (formula.variables ≤ length model) × AreBelow (length model) (codes_of formula.clauses)

abbrev pub HasEmpty : Cnf → Type 0
HasEmpty formula = Any (λ clause. clause ≡ []) formula.clauses

-- a model with a value for each variable; a refutation of at most as many lines as the budget, without lines exactly where a clause is empty; or as many asserting clauses as the budget, where none is
abbrev pub VerdictOf : Cnf → ℕ → Verdict → Type 0
VerdictOf formula budget (Sat model) = IsModel model formula × HasValues model formula
VerdictOf formula budget (Unsat log) =
    (length log.items ≤ budget) × (((log.items ≡ []) × HasEmpty formula) ⊎ IsRefutation (codes_of formula.clauses) log.items) × (HasEmpty formula → log.items ≡ [])
VerdictOf formula budget (Spent log) = (length log.items ≡ budget) × IsLog (codes_of formula.clauses) log.items × (HasEmpty formula → ⊥)
