-- Lines of a proof: their content, their text, what deletions leave, and what trimming leaves.
use Rattle.std.specs.Prelude.{ℕ, ℤ, List, [], ◌∷◌, ◌++◌, All, map, decimal, ◌≡◌, ◌+◌, ◌⊎◌, Contains, Option, None, cond, nat_eq, IsSome, ◌<◌, ◌≤◌, Some, AllPairs, Any, sum_by, take, unsigned_abs}
use Rattle.lrat_check.specs.declared.line.Line.{Line}
use Rattle.lrat_check.specs.declared.line.Line.TheVariants.{Addition as Adding, Deletion as Deleting}
use Rattle.std.specs.Fmt.{signed_decimal}
use Rattle.std.specs.List.{join_with_byte, flat_map}
use Rattle.clause_model.specs.Clauses.{number_of, HasDistinctVariables, negated, Refutes, numbered, hint_lengths}
use Rattle.lrat_check.specs.Numbers.{IsId, IsHint, AllWithin}

-- the content of a line: it adds a clause under an id, with hints, or deletes the clauses under ids
pub data Content : Type 0 where
  addition : ℕ → List ℕ → List ℤ → Content
  deletion : ℕ → List ℕ → Content

abbrev pub content_of : Line → Content
content_of (Adding a) = addition a.id a.literals.items a.hints.items
content_of (Deleting d) = deletion d.id d.ids.items

-- The text of a line: words separated by single blanks.

-- `0`, which ends a list, and `d`, which stands before the ids to delete
abbrev pub end_word : List ℕ
end_word = 48 ∷ []

abbrev pub deletion_word : List ℕ
deletion_word = 100 ∷ []

-- the literal's DIMACS number, as a decimal numeral
abbrev pub literal_text : ℕ → List ℕ
literal_text l = signed_decimal (number_of l)

-- the words between the id of a line and its last word: the literals, `0` and the hints, or `d` and the ids
abbrev pub middle_of : Content → List (List ℕ)
middle_of (addition id literals hints) = map literal_text literals ++ end_word ∷ map signed_decimal hints
middle_of (deletion id ids) = deletion_word ∷ map decimal ids

abbrev pub id_of : Content → ℕ
id_of (addition id literals hints) = id
id_of (deletion id ids) = id

abbrev pub words_of : Content → List (List ℕ)
words_of content = decimal (id_of content) ∷ (middle_of content ++ end_word ∷ [])

abbrev pub text_of : Content → List ℕ
text_of content = join_with_byte 32 (words_of content)

-- the words with a blank after each
abbrev pub spaced : List (List ℕ) → List ℕ
spaced words = flat_map (λ w. w ++ 32 ∷ []) words

-- what the parts of a line, apart from its id, must satisfy
abbrev pub HasGoodParts : Content → Type 0
HasGoodParts (addition id literals hints) = AllWithin literals × HasDistinctVariables literals × All IsHint hints
HasGoodParts (deletion id ids) = All IsId ids

-- the content of a valid line
abbrev pub IsLine : Content → Type 0
IsLine content = IsId (id_of content) × HasGoodParts content

-- Deletion of clauses, one id after another.

-- the clauses without that under an id
abbrev pub without : (ℕ → Option (List ℕ)) → ℕ → ℕ → Option (List ℕ)
without live id q = cond (nat_eq q id) None (live q)

-- each id is live in its turn, and `later` is what is left
abbrev pub Deletes : (ℕ → Option (List ℕ)) → List ℕ → (ℕ → Option (List ℕ)) → Type 0
Deletes live [] later = (q : ℕ) → later q ≡ live q
Deletes live (id ∷ ids) later = IsSome (live id) × Deletes (without live id) ids later

-- the first id that isn't live in its turn stands at the place, counting from n
abbrev pub DeadAt : (ℕ → Option (List ℕ)) → List ℕ → ℕ → ℕ → Type 0
DeadAt live [] n place = ⊥
DeadAt live (id ∷ ids) n place = ((live id ≡ None) × (place ≡ n)) ⊎ (IsSome (live id) × DeadAt (without live id) ids (n + 1) place)

-- `later` has nothing under the ids, and otherwise what `live` has
abbrev pub IsAfter : (ℕ → Option (List ℕ)) → List ℕ → (ℕ → Option (List ℕ)) → Type 0
IsAfter live ids later = (q : ℕ) → (Contains ids q → later q ≡ None) × ((Contains ids q → ⊥) → later q ≡ live q)

-- A proof without what it doesn't need.

-- the clause that an id names, whether deleted or not: that which a line adds, or the formula's
abbrev pub meant : List (List ℕ) → List Content → ℕ → Option (List ℕ)
meant clauses [] q = numbered clauses q
meant clauses (addition id literals hints ∷ lines) q = cond (nat_eq q id) (Some literals) (meant clauses lines q)
meant clauses (deletion id ids ∷ lines) q = meant clauses lines q

-- the first n hints refute, and no fewer do: the n-th names the clause that became false
pub record Suffice (live : ℕ → Option (List ℕ)) (a hints : List ℕ) (n : ℕ) : Type 0 where
  pub enough : Refutes live a (take n hints)
  pub fewest : (m : ℕ) → Refutes live a (take m hints) → n ≤ m

-- the ids that the hints of a line name
abbrev pub names_of : Content → List ℕ
names_of (addition id literals hints) = map unsigned_abs hints
names_of (deletion id ids) = []

-- an addition of the lines, with its hints up to the one whose clause became false
abbrev pub IsShortened : List (List ℕ) → List Content → Content → Type 0
IsShortened clauses lines (addition id literals hints) =
    (all : List ℤ) × (n : ℕ) × Contains lines (addition id literals all) × Suffice (meant clauses lines) (map negated literals) (map unsigned_abs all) n × (hints ≡ take n all)
IsShortened clauses lines (deletion id ids) = ⊥

-- the first line that adds the empty clause has this id: the least, since ids ascend
pub record AddsFirstEmpty (lines : List Content) (id : ℕ) : Type 0 where
  pub adds : (hints : List ℤ) × Contains lines (addition id [] hints)
  pub first : (q : ℕ) (hints : List ℤ) → Contains lines (addition q [] hints) → id ≤ q

-- the ids that are used: that of the first empty clause, and those that the hints of a used line name, up to the one whose clause became false
pub data IsUsed (clauses : List (List ℕ)) (lines : List Content) : ℕ → Type 0 where
  empty : {id : ℕ} → AddsFirstEmpty lines id → IsUsed clauses lines id
  named : {q : ℕ} (line : Content) → IsShortened clauses lines line → IsUsed clauses lines (id_of line) → Contains (names_of line) q → IsUsed clauses lines q

-- the used additions in order, each shortened
pub record IsUsedPart (clauses : List (List ℕ)) (lines result : List Content) : Type 0 where
  pub only : All (λ line. IsShortened clauses lines line × IsUsed clauses lines (id_of line)) result
  pub every : (line : Content) → IsShortened clauses lines line → IsUsed clauses lines (id_of line) → Contains result line
  pub in_order : AllPairs (λ line later. id_of line < id_of later) result

abbrev pub HasEmpty : List (List ℕ) → Type 0
HasEmpty clauses = Any (λ clause. clause ≡ []) clauses

-- where the formula has an empty clause, no line is left, and else just the used ones
abbrev pub IsTrimmed : List (List ℕ) → List Content → List Content → Type 0
IsTrimmed clauses lines result = (HasEmpty clauses × (result ≡ [])) ⊎ ((HasEmpty clauses → ⊥) × IsUsedPart clauses lines result)

-- each line but the last is named by a hint of a later line
abbrev pub EachIsNamed : List Content → Type 0
EachIsNamed [] = Unit {0}
EachIsNamed (line ∷ lines) = ((lines ≡ []) ⊎ Any (λ later. Contains (names_of later) (id_of line)) lines) × EachIsNamed lines

-- the lengths of the clauses that the hints of the result name
abbrev pub used_lengths : List (List ℕ) → List Content → List Content → ℕ
used_lengths clauses lines result = sum_by (λ line. hint_lengths (meant clauses lines) (names_of line)) result
