-- The loops that test whether literals have distinct variables.
use Rattle.std.proofs.Common.{◌≡◌, ◌≢◌, ℕ, ◌+◌, ◌<◌, List, length, get_or, take, map, sym, ◌∙◌, ap, arith}
use Rattle.std.specs.Prelude.{All, Contains}
use Rattle.std.proofs.lemmas.List.{take_more, length-take, length-map, get_or-map, get_or-take}
use Rattle.std.proofs.lemmas.List.Quantifiers.{all_pairs_push}
use Rattle.clause_model.specs.Clauses.{variable_of, HasDistinctVariables}

module _ (literals : List ℕ) (i l : ℕ) (b : i < length literals) (is : l ≡ get_or literals i l) where
  pub variable_at : get_or (map variable_of literals) i 0 ≡ variable_of l
  variable_at = get_or-map variable_of literals i l 0 b ∙ ap variable_of (sym is)

  pub variable_within : i < length (map variable_of literals)
  variable_within = rw length-map b

  pub distinct_pairs : All (λ m. variable_of m ≢ variable_of l) (take i literals) → HasDistinctVariables (take i literals) → HasDistinctVariables (take (i + 1) literals)
  distinct_pairs n h = rw (take_more literals i l b, ← is) (all_pairs_push (λ l m. variable_of l ≢ variable_of m) (take i literals) l h n)

  pub distinct_next : (Contains (take i (map variable_of literals)) (variable_of l) → ⊥) → HasDistinctVariables (take i literals) → HasDistinctVariables (take (i + 1) literals)
  distinct_next n h = rw (take_more literals i l b, ← is) (all_pairs_push (λ l m. variable_of l ≢ variable_of m) (take i literals) l h (λ k d kb e.
      let k' : k < i = omega (arith, length-take {A = ℕ}) in
      let kl : k < length literals = omega arith in
      let m : k < length (take i (map variable_of literals)) = omega (arith, length-take {A = ℕ}, length-map literals variable_of) in
      let g : get_or (take i (map variable_of literals)) k (variable_of l) ≡ variable_of (get_or literals k d) = get_or-take i (map variable_of literals) k (variable_of l) k' ∙ get_or-map variable_of literals k d (variable_of l) kl in
      let t : get_or (take i literals) k d ≡ get_or literals k d = get_or-take i literals k d k' in
      n (k, m, g ∙ ap variable_of (sym t) ∙ e)))

  pub not_distinct : Contains (take i (map variable_of literals)) (variable_of l) → HasDistinctVariables literals → ⊥
  not_distinct c h =
      let k : c.0 < i = omega (arith, length-take {A = ℕ}, c.1) in
      let kl : c.0 < length literals = omega arith in
      let g : get_or (take i (map variable_of literals)) c.0 (variable_of l) ≡ variable_of (get_or literals c.0 l) = get_or-take i (map variable_of literals) c.0 (variable_of l) k ∙ get_or-map variable_of literals c.0 l (variable_of l) kl in
      h c.0 i l k b (sym g ∙ c.2 ∙ ap variable_of is)
