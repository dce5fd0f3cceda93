-- The invariant of a solver before a search, what a search may change, and how it ends.
use Rattle.std.specs.Prelude.{ℕ, ◌≡◌, ◌≤◌, ◌+◌, ◌*◌, List, [], All, Any, Contains, Option, Some, None, length}
use Rattle.clause_model.specs.Clauses.{codes_of, IsConsistent, IsAsserting}
use Rattle.cnf_gates.specs.Cnf.{Cnf}
use Rattle.clause_arena.specs.Contents.{Content, HasLiteral, references_of}
use Rattle.unit_propagation.specs.Watching.{IsAttached, IsKnown}
use Rattle.cdcl_core.specs.declared.search.Ending.{Ending}
use Rattle.cdcl_core.specs.declared.search.Ending.TheVariants.{Model, Refuted, Taught}
use Rattle.cdcl_core.specs.declared.solver.Solver.{Solver}
use Rattle.cdcl_core.specs.Implied.{clauses_of, IsConflict, IsJustified, IsCovered, AreSpare}
use Rattle.cdcl_core.specs.Held.{Covers}
use Rattle.cdcl_core.specs.Solved.{Adds, AreBelow}

-- the arena has the clauses; what is true follows from them, and either a clause is false, or each watches two literals or has a true one, and those that are dropped are spare
pub record IsBase (clauses : List (List ℕ)) (size : ℕ) (content : Content) (references : List ℕ) (reasons : List (Option ℕ)) (trail : List ℕ) (conflict : Option ℕ) : Type 0 where
  pub clauses_are : clauses_of content ≡ clauses
  pub size_is : length content.chains ≡ size
  pub numbered_by : references ≡ references_of content
  pub attached : IsAttached content
  pub known : IsKnown content
  pub literals : All (HasLiteral content) trail
  pub justified : IsJustified content [] reasons trail
  pub covered : conflict ≡ None → IsCovered content trail
  pub spare : conflict ≡ None → AreSpare content reasons trail
  pub falsified : (at : ℕ) → conflict ≡ Some at → IsConflict content trail at

-- the same for a solver's fields
abbrev pub HasBase : List (List ℕ) → Solver → Option ℕ → Type 0
HasBase clauses solver conflict = IsBase clauses (2 * solver.variables) solver.arena solver.refs.items solver.reasons.items solver.trail conflict

-- the invariant of a solver between searches
pub record IsReady (solver : Solver) (conflict : Option ℕ) : Type 0 where
  pub base : HasBase (clauses_of solver.arena) solver conflict
  pub ids : length solver.ids.items ≡ length solver.refs.items
  pub variables : solver.variables ≤ 200000

-- the solver has the formula's clauses, but for some that have a literal that is true before any decision
pub record IsLoaded (formula : Cnf) (solver : Solver) : Type 0 where
  pub variables : solver.variables ≤ 200000
  pub reached : formula.variables ≤ solver.variables
  pub below : AreBelow solver.variables (codes_of formula.clauses)
  pub base : HasBase (clauses_of solver.arena) solver solver.conflict
  pub covers : Covers (codes_of formula.clauses) (clauses_of solver.arena) solver.ids.items solver.trail

-- only the watches, the trail and the reasons changed
abbrev pub IsPropagated : Solver → Solver → Type 0
IsPropagated before after = after ≡ record before { arena = after.arena; trail = after.trail; reasons = after.reasons }

-- these, the conflict before any decision, and the order of decisions changed, and nothing else
abbrev pub IsSearched : Solver → Solver → Type 0
IsSearched before after = after ≡ record before { arena = after.arena; trail = after.trail; reasons = after.reasons; conflict = after.conflict; order = after.order }

-- each clause has a literal that is true
pub record IsModelOf (clauses : List (List ℕ)) (a : List ℕ) : Type 0 where
  pub consistent : IsConsistent a
  pub holds : All (λ clause. Any (Contains a) clause) clauses

-- a model, the empty clause, or an asserting clause
abbrev pub EndsAs : List (List ℕ) → List ℕ → Ending → Type 0
EndsAs clauses a Model = IsModelOf clauses a
EndsAs clauses a (Refuted line) = Adds clauses line × (line.literals.items ≡ [])
EndsAs clauses a (Taught line) = Adds clauses line × IsAsserting clauses line.literals.items

-- the search ends so for any clauses of which these are held, where the line's id is the next one
abbrev pub EndsOver : List (List ℕ) → List ℕ → List ℕ → ℕ → List ℕ → Ending → Type 0
EndsOver held ids base id a ending = (clauses : List (List ℕ)) → Covers clauses held ids base → id ≡ length clauses + 1 → EndsAs clauses a ending

-- after a clause was taught, the search may begin anew, and no less is true before any decision; the clause's literals are the arena's
abbrev pub GoesOn : Solver → Solver → Ending → Type 0
GoesOn before after Model = Unit {0}
GoesOn before after (Refuted line) = Unit {0}
GoesOn before after (Taught line) =
    HasBase (clauses_of before.arena) after None × (after.conflict ≡ None) × All (Contains after.trail) before.trail × All (HasLiteral after.arena) line.literals.items
