-- The additions of a proof up to the first empty clause, as trimming holds them.
use Rattle.std.specs.Prelude.{ℕ, List, [], ◌∷◌, Vec, map}
use Rattle.std.specs.Borrow.{Bor}
use Rattle.std.specs.Global.{Global}
use Rattle.lrat_check.specs.declared.line.Addition.{Addition}
use Rattle.lrat_check.specs.Text.{Content, addition, deletion}

-- an addition that the code borrows, as content
abbrev pub add_of : Bor Addition → Content
add_of a = addition a.now.id a.now.literals.items a.now.hints.items

abbrev pub adds_of : List (Bor Addition) → List Content
adds_of additions = map add_of additions

-- the clause of an addition
abbrev pub clause_of : Bor Addition → List ℕ
clause_of a = a.now.literals.items

-- the values of borrowed slices
abbrev pub slices_in : List (Bor (List ℕ)) → List (List ℕ)
slices_in slices = map (λ (s : Bor (List ℕ)). s.now) slices

-- the literals of clauses
abbrev pub literals_in : List (Vec ℕ Global) → List (List ℕ)
literals_in clauses = map (λ (c : Vec ℕ Global). c.items) clauses

-- the additions up to the first of the empty clause
abbrev pub up_to_empty : List Content → List Content
up_to_empty [] = []
up_to_empty (addition id [] hints ∷ lines) = addition id [] hints ∷ []
up_to_empty (addition id (l ∷ ls) hints ∷ lines) = addition id (l ∷ ls) hints ∷ up_to_empty lines
up_to_empty (deletion id ids ∷ lines) = up_to_empty lines
