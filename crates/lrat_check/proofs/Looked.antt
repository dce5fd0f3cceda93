-- The literals looked at while hints are followed, from a place on.
use Rattle.std.proofs.Common.{◌≡◌, ℕ, ◌+◌, ◌<◌, ◌≤◌, ◌⊎◌, List, [], ◌∷◌, ◌++◌, length, get_or, drop, refl, inl, inr, Option, Some, None, arith}
use Rattle.std.proofs.lemmas.List.{drop_more, drop_all}
use Rattle.clause_model.specs.Clauses.{AllFalse, IsUnit, IsOpen}
use Rattle.step_ledger.specs.Counts.{RisesBy}
use Rattle.step_ledger.proofs.Rises.{stays, goes_on}
use Rattle.lrat_check.specs.Costs.{LooksAt}

-- what was looked at so far, plus what the remaining hints look at, is the whole
pub record Looked (live : ℕ → Option (List ℕ)) (from hints later rest : List ℕ) (before after : ℕ) : Type 0 where
  pub done : ℕ
  pub rises : RisesBy before after done
  pub goes : (m : ℕ) → LooksAt live later rest m → LooksAt live from hints (done + m)

-- how much is looked at in all
abbrev pub HasLooked : (ℕ → Option (List ℕ)) → List ℕ → List ℕ → ℕ → ℕ → Type 0
HasLooked live from hints before after = (n : ℕ) × LooksAt live from hints n × RisesBy before after n

-- none of the hints is left
pub Looked-all : (live : ℕ → Option (List ℕ)) (from hints later : List ℕ) (i before now : ℕ) → length hints ≤ i → Looked live from hints later (drop i hints) before now → HasLooked live from hints before now
Looked-all live from hints later i before now end h =
    (h.done + 0, h.goes 0 (rw (drop_all i hints end) refl), goes_on before now now h.done 0 h.rises (stays now))

module _ (live : ℕ → Option (List ℕ)) (from hints later : List ℕ) (i before now : ℕ) (b : i < length hints) (h : Looked live from hints later (drop i hints) before now) where
  pub Looked-dead : live (get_or hints i 0) ≡ None → HasLooked live from hints before now
  Looked-dead n = (h.done + 0, h.goes 0 (rw (drop_more hints i 0 b) (inl (n, refl))), goes_on before now now h.done 0 h.rises (stays now))

  module _ (clause : List ℕ) (e : live (get_or hints i 0) ≡ Some clause) (after : ℕ) (r : RisesBy now after (length clause)) where
    pub Looked-ends : AllFalse later clause ⊎ IsOpen later clause → HasLooked live from hints before after
    Looked-ends s = (h.done + length clause, h.goes (length clause) (rw (drop_more hints i 0 b) (inr (clause, e, inl (s, refl)))), goes_on before now after h.done (length clause) h.rises r)

    pub Looked-unit : (u : ℕ) → IsUnit later clause u → Looked live from hints (later ++ u ∷ []) (drop (i + 1) hints) before after
    Looked-unit u n = record {
      done = h.done + length clause;
      rises = goes_on before now after h.done (length clause) h.rises r;
      goes = λ m g. rw (assoc h.done (length clause) m) (h.goes (length clause + m) (rw (drop_more hints i 0 b) (inr (clause, e, inr (u, m, n, g, refl)))));
    }
      where
        assoc : (a b c : ℕ) → (a + b) + c ≡ a + (b + c)
        assoc a b c = omega arith
