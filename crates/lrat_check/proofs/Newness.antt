-- For the loop over a log's clauses: the remaining ones are new just where all are.
use Rattle.std.proofs.Common.{◌≡◌, ℕ, ◌+◌, ◌≤◌, List, [], ◌∷◌, ◌++◌, length, sym, subst, arith, ap}
use Rattle.std.specs.Prelude.{sum_by}
use Rattle.clause_model.specs.Clauses.{IsNew}
use Rattle.lrat_check.specs.Proofs.{EachIsNew}
use Rattle.lrat_check.specs.ProofCosts.{newness_cost}

pub record NewRest (before clauses : List (List ℕ)) (whole : Type 0) : Type 0 where
  pub forth : whole → EachIsNew before clauses
  pub back : EachIsNew before clauses → whole

pub new_step : (before later clauses more : List (List ℕ)) (clause : List ℕ) (whole : Type 0) → clauses ≡ clause ∷ more → NewRest before clauses whole → IsNew before clause → later ≡ before ++ clause ∷ [] → NewRest later more whole
new_step before later clauses more clause whole e rest n q = rw q (record {
  forth = λ w. (subst (EachIsNew before) e (rest.forth w)).1;
  back = λ m. rest.back (subst (EachIsNew before) (sym e) (n, m));
})

pub new_same : (before clauses more : List (List ℕ)) (whole : Type 0) → clauses ≡ more → NewRest before clauses whole → NewRest before more whole
new_same before clauses more whole e rest = subst (λ (cs : List (List ℕ)). NewRest before cs whole) e rest

pub new_fault : (before clauses more : List (List ℕ)) (clause : List ℕ) (whole : Type 0) → clauses ≡ clause ∷ more → NewRest before clauses whole → (IsNew before clause → ⊥) → whole → ⊥
new_fault before clauses more clause whole e rest n w = n (subst (EachIsNew before) e (rest.forth w)).0

pub new_end : (before clauses : List (List ℕ)) (whole : Type 0) → clauses ≡ [] → NewRest before clauses whole → whole
new_end before clauses whole e rest = rest.back (subst (EachIsNew before) (sym e) tt)

-- the cost of one clause, and the bound left for those after it
pub newness_next : (before later clauses more : List (List ℕ)) (clause : List ℕ) (now next bound : ℕ) → clauses ≡ clause ∷ more → later ≡ before ++ clause ∷ [] → now + newness_cost before clauses ≤ bound → next ≤ now + sum_by length before → next + newness_cost later more ≤ bound
newness_next before later clauses more clause now next bound e q h k =
    let s : newness_cost before clauses ≡ sum_by length before + newness_cost (before ++ clause ∷ []) more = ap (newness_cost before) e in
    let t : newness_cost later more ≡ newness_cost (before ++ clause ∷ []) more = ap (λ (b : List (List ℕ)). newness_cost b more) q in
    omega (arith, h, k, s, t)

pub newness_within : (before clauses more : List (List ℕ)) (clause : List ℕ) (now next bound : ℕ) → clauses ≡ clause ∷ more → now + newness_cost before clauses ≤ bound → next ≤ now + sum_by length before → next ≤ bound
newness_within before clauses more clause now next bound e h k =
    let s : newness_cost before clauses ≡ sum_by length before + newness_cost (before ++ clause ∷ []) more = ap (newness_cost before) e in
    omega (arith, h, k, s)

pub newness_same : (before clauses more : List (List ℕ)) (now bound : ℕ) → clauses ≡ more → now + newness_cost before clauses ≤ bound → now + newness_cost before more ≤ bound
newness_same before clauses more now bound e h = subst (λ (cs : List (List ℕ)). now + newness_cost before cs ≤ bound) e h
