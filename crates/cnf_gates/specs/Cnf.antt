-- Formulas, and their DIMACS text.
use Rattle.std.specs.Prelude.{◌≢◌, ℕ, ℤ, pos, ◌+ℤ◌, ◌≤ℤ◌, List, [], ◌∷◌, ◌++◌, length, codes}
use Rattle.std.specs.Fmt.{decimal, signed_decimal}
use Rattle.std.specs.List.{flat_map}

-- Formulas in conjunctive normal form.

-- a formula: how many variables there are, and the clauses in order, each a list of literals
pub record Cnf : Type 0 where
  pub variables : ℕ
  pub clauses : List (List ℤ)

-- a literal of one of n variables: a number from -n to n that is not 0
abbrev pub IsLiteralOf : ℕ → ℤ → Type 0
IsLiteralOf n z = (z ≢ pos 0) × (pos 0 ≤ℤ (z +ℤ pos n)) × (z ≤ℤ pos n)

-- a literal of as many variables as there may be
abbrev pub IsLiteral : ℤ → Type 0
IsLiteral z = IsLiteralOf 200000 z

-- a clause of such literals
abbrev pub AreLiteralsOf : ℕ → List ℤ → Type 0
AreLiteralsOf n [] = Unit {0}
AreLiteralsOf n (z ∷ zs) = IsLiteralOf n z × AreLiteralsOf n zs

abbrev pub AreLiterals : List ℤ → Type 0
AreLiterals zs = AreLiteralsOf 200000 zs

-- clauses of such literals
abbrev pub AreClausesOf : ℕ → List (List ℤ) → Type 0
AreClausesOf n [] = Unit {0}
AreClausesOf n (c ∷ cs) = AreLiteralsOf n c × AreClausesOf n cs

abbrev pub AreClauses : List (List ℤ) → Type 0
AreClauses cs = AreClausesOf 200000 cs

-- The DIMACS text of a formula.

-- a literal and the blank behind it
abbrev pub literal_text : ℤ → List ℕ
literal_text z = signed_decimal z ++ 32 ∷ []

-- a clause's line: its literals, and 0
abbrev pub clause_line : List ℤ → List ℕ
clause_line literals = flat_map literal_text literals ++ 48 ∷ 10 ∷ []

-- the first line, with the counts of variables and clauses
abbrev pub header_line : ℕ → ℕ → List ℕ
header_line variables clauses = codes "p cnf " ++ decimal variables ++ 32 ∷ decimal clauses ++ 10 ∷ []

-- the whole text
abbrev pub dimacs : Cnf → List ℕ
dimacs f = header_line f.variables (length f.clauses) ++ flat_map clause_line f.clauses
