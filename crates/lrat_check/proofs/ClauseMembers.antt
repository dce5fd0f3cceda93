-- The literals of a clause as members, and the clauses that are part of it.
use Rattle.std.proofs.Common.{◌≡◌, ℕ, ◌+◌, ◌<◌, ◌≤◌, List, ◌∷◌, ◌++◌, length, get_or, take, sym, ◌∙◌, ap, subst, arith, refl, true, false, Bool, Option, Some, None}
use Rattle.std.specs.Prelude.{All, Contains, sum_by, IsTrue, ◌↔◌}
use Rattle.std.specs.Option.{option_to_list}
use Rattle.std.proofs.Math.Seq.{get_or-take}
use Rattle.std.proofs.lemmas.List.{length-take, get_or_default, take_all}
use Rattle.std.proofs.lemmas.List.Elements.{All-more, All-cons, All-tail}
use Rattle.std.proofs.lemmas.Bool.{false≢true}
use Rattle.std.proofs.lemmas.List.Sums.{sum_by_more}
use Rattle.clause_model.specs.Clauses.{negated, variable_of, HasDistinctVariables, IsUnset, IsNew}
use Rattle.clause_model.proofs.LiteralLaws.{variable_of-negated}

-- the literals before a place don't have the variable of the one there
pub members_unset : (clause : List ℕ) (i l : ℕ) → i < length clause → l ≡ get_or clause i l → HasDistinctVariables clause → IsUnset (take i clause) l
members_unset clause i l b e h = (λ p. apart l p refl, λ p. apart (negated l) p (variable_of-negated l))
  where
    apart : (m : ℕ) → Contains (take i clause) m → variable_of m ≡ variable_of l → ⊥
    apart m c same =
        let k : c.0 < i = omega (arith, length-take {A = ℕ}) in
        let s : get_or (take i clause) c.0 m ≡ get_or clause c.0 m = get_or-take i clause c.0 m k in
        let t : get_or clause c.0 l ≡ get_or clause c.0 m = get_or_default clause c.0 l m (omega arith) in
        h c.0 i l k b (ap variable_of (t ∙ sym s ∙ c.2) ∙ same ∙ ap variable_of e)

-- a clause with a literal that is no member isn't contained
pub part_missing : (members clause : List ℕ) (i l : ℕ) → i < length clause → l ≡ get_or clause i l → (Contains members l → ⊥) → All (Contains members) clause → ⊥
part_missing members clause i l b e n h = n (subst (Contains members) (sym e) (h i l b))

-- the lengths of the clauses up to one that was looked at
pub lengths_next : (lists : List (List ℕ)) (before after start i : ℕ) (clause : List ℕ) → i < length lists → get_or lists i clause ≡ clause → before ≤ start + sum_by length (take i lists) → after ≤ before + length clause → after ≤ start + sum_by length (take (i + 1) lists)
lengths_next lists before after start i clause b e h k =
    let s : sum_by length (take (i + 1) lists) ≡ sum_by length (take i lists) + length (get_or lists i clause) = sum_by_more length lists i clause b in
    let t : length (get_or lists i clause) ≡ length clause = ap length e in
    omega (arith, h, k, s, t)

-- a test's answer tells whether P holds
pub says_no : (P : Type 0) → (P → ⊥) → IsTrue false ↔ P
says_no P n = (λ t. absurd (false≢true t), λ p. absurd (n p))

pub says_yes : (P : Type 0) → P → IsTrue true ↔ P
says_yes P p = (λ t. p, λ q. refl)

pub denied : (P : Type 0) → IsTrue false ↔ P → P → ⊥
denied P h p = false≢true (h.1 p)

pub part_more : (members clause : List ℕ) (i l : ℕ) → i < length clause → l ≡ get_or clause i l → All (Contains members) (take i clause) → Contains members l → All (Contains members) (take (i + 1) clause)
part_more members clause i l b e h p = All-more (Contains members) clause i l b h (subst (Contains members) e p)

pub new_more : (lists : List (List ℕ)) (members clause : List ℕ) (i : ℕ) → i < length lists → get_or lists i clause ≡ clause → IsNew (take i lists) members → (All (Contains members) clause → ⊥) → IsNew (take (i + 1) lists) members
new_more lists members clause i b e h n = All-more (λ c. All (Contains members) c → ⊥) lists i clause b h (subst (λ (c : List ℕ). All (Contains members) c → ⊥) (sym e) n)

pub part_found : (lists : List (List ℕ)) (members clause : List ℕ) (i : ℕ) → i < length lists → get_or lists i clause ≡ clause → All (Contains members) clause → IsNew lists members → ⊥
part_found lists members clause i b e p n = n i clause b (subst (All (Contains members)) (sym e) p)

pub new_all : (lists : List (List ℕ)) (members : List ℕ) (i : ℕ) → length lists ≤ i → IsNew (take i lists) members → IsNew lists members
new_all lists members i b h = subst (λ (cs : List (List ℕ)). IsNew cs members) (take_all i lists b) h

pub part_all : (members clause : List ℕ) (i : ℕ) → length clause ≤ i → All (Contains members) (take i clause) → All (Contains members) clause
part_all members clause i b h = subst (All (Contains members)) (take_all i clause b) h

-- a clause whose first literal is a member is a part where the others are members, and so is one without literals
pub part_first : (members whole rest : List ℕ) (first : Option ℕ) (l : ℕ) (result : Bool) → first ≡ Some l → option_to_list first ++ rest ≡ whole → Contains members l → IsTrue result ↔ All (Contains members) rest → IsTrue result ↔ All (Contains members) whole
part_first members whole rest first l result e view p h =
    let is : l ∷ rest ≡ whole = ap (λ (o : Option ℕ). option_to_list o ++ rest) (sym e) ∙ view in (
      λ t. subst (All (Contains members)) is (All-cons (Contains members) l rest p (h.0 t)),
      λ a. h.1 (All-tail (Contains members) l rest (subst (All (Contains members)) (sym is) a)),
    )

pub part_none : (members whole rest : List ℕ) (first : Option ℕ) (result : Bool) → first ≡ None → option_to_list first ++ rest ≡ whole → IsTrue result ↔ All (Contains members) rest → IsTrue result ↔ All (Contains members) whole
part_none members whole rest first result e view h =
    let is : rest ≡ whole = ap (λ (o : Option ℕ). option_to_list o ++ rest) (sym e) ∙ view in
    subst (λ (xs : List ℕ). IsTrue result ↔ All (Contains members) xs) is h
