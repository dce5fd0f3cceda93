-- A model of the formula satisfies the checker's first clauses, and so all clauses that it accepts.
use Rattle.std.proofs.Common.{◌≡◌, ℕ, ◌+◌, ◌-◌, ◌*◌, ◌⊎◌, ℤ, List, [], ◌∷◌, map, refl, sym, ◌∙◌, inl, inr, arith, Option, Some, None, subst, Bool, true, false, zero, suc, true≢false, Result, Ok, Err}
use Rattle.std.specs.Prelude.{All, Any, IfSome, IfOk, not, nat_eq, slice_get, ◌||◌, ◌&&◌, pos, negsuc}
use Rattle.std.proofs.lemmas.Bool.{cases_eq}
use Rattle.std.proofs.lemmas.Bool.Decides.{nat_tests}
use Rattle.std.proofs.lemmas.List.Elements.{All-contains, All-cons, All-nil}
use Rattle.std.proofs.lemmas.Option.{slice_get_within, get_or_from_slice_get}
use Rattle.cnf_gates.specs.Meaning.{number_value, clause_value, all_true}
use Rattle.clause_model.specs.Clauses.{literal_value, code_of, codes_of, Satisfies, numbered, SatisfiesLive}
use Rattle.lrat_check.specs.Checking.{State, Starts, HoldsAt, Reached, begun, accepted}
use Rattle.lrat_check.proofs.Accepted.{accepts_sound}

pub code_true : (m : ℕ → Bool) (z : ℤ) → number_value m z ≡ true → literal_value m (code_of z) ≡ true
code_true m (pos zero) e = absurd (true≢false (sym e))
code_true m (pos (suc v)) e = let f : literal_value m (2 * (suc v - 1)) ≡ m v = even v in f ∙ e
  where
    even : (v : ℕ) → literal_value m (2 * (suc v - 1)) ≡ m v
    even v = grind (arith, nat_tests)
code_true m (negsuc v) e = odd v ∙ e
  where
    odd : (v : ℕ) → literal_value m (2 * v + 1) ≡ not (m v)
    odd v = grind (arith, nat_tests)

pub clause_true : (m : ℕ → Bool) (clause : List ℤ) → clause_value m clause ≡ true → Satisfies m (map code_of clause)
clause_true m [] e = absurd (true≢false (sym e))
clause_true m (z ∷ zs) e = elim (either (number_value m z) (clause_value m zs) e) [
  | inl t ↦ (0, code_of z, omega arith, refl, code_true m z t)
  | inr t ↦ let s = clause_true m zs t in (suc s.0, s.1, omega (arith, s.2), s.3, s.4)
]
  where
    either : (a b : Bool) → (a || b) ≡ true → (a ≡ true) ⊎ (b ≡ true)
    either true b e = inl refl
    either false b e = inr e

pub clauses_true : (m : ℕ → Bool) (clauses : List (List ℤ)) → all_true m clauses ≡ true → All (Satisfies m) (codes_of clauses)
clauses_true m [] e = All-nil (Satisfies m)
clauses_true m (c ∷ cs) e = let b = both (clause_value m c) (all_true m cs) e in All-cons (Satisfies m) (map code_of c) (codes_of cs) (clause_true m c b.0) (clauses_true m cs b.1)
  where
    both : (a b : Bool) → (a && b) ≡ true → (a ≡ true) × (b ≡ true)
    both true b e = (refl, e)
    both false b e = absurd (true≢false (sym e))

pub numbered_true : (m : ℕ → Bool) (clauses : List (List ℕ)) → All (Satisfies m) clauses → SatisfiesLive m (numbered clauses)
numbered_true m clauses h id = elim (cases_eq id 0) [
  | inl e ↦ rw e tt
  | inr d ↦ let z : nat_eq id 0 ≡ false = grind (arith, nat_tests) in rw z (at (slice_get clauses (id - 1)) refl)
]
  where
    at : (o : Option (List ℕ)) → slice_get clauses (id - 1) ≡ o → IfSome o (Satisfies m)
    at None e = tt
    at (Some c) e = subst (Satisfies m) (get_or_from_slice_get clauses (id - 1) c c e) (h (id - 1) c (slice_get_within clauses (id - 1) c e))

pub starts_holds : (m : ℕ → Bool) (clauses : List (List ℤ)) (state : State) → Starts (codes_of clauses) state → all_true m clauses ≡ true → HoldsAt m state
starts_holds m clauses state s e =
    let all : All (Satisfies m) (codes_of clauses) = clauses_true m clauses e in
    record {
      live = λ id. rw (s.live id) (numbered_true m (codes_of clauses) all id);
      standing = not_true state.refuted (λ t. empty (s.refuted.0 t) all);
    }
  where
    not_true : (b : Bool) → (b ≡ true → ⊥) → b ≡ false
    not_true true n = absurd (n refl)
    not_true false n = refl

    empty : Any (λ clause. clause ≡ []) (codes_of clauses) → All (Satisfies m) (codes_of clauses) → ⊥
    empty t all = let c : List ℕ = t.1 in let s : Satisfies m [] = subst (Satisfies m) t.4 (All-contains (Satisfies m) (codes_of clauses) c all (t.0, t.2, t.3)) in omega (arith, s.2)

pub reached_holds : (m : ℕ → Bool) (clauses : List (List ℤ)) → all_true m clauses ≡ true → (state : State) → Reached (codes_of clauses) state → HoldsAt m state
reached_holds m clauses e state (begun s) = starts_holds m clauses state s e
reached_holds m clauses e state (accepted old content r a) = accepts_sound m old state content a (reached_holds m clauses e old r)

pub outcome_holds : {E : Type 0} (clauses : List (List ℤ)) (r : Result State E) → IfOk r (Starts (codes_of clauses)) → IfOk r (λ state. (v : ℕ → Bool) → all_true v clauses ≡ true → HoldsAt v state)
outcome_holds clauses (Ok state) s = λ v e. starts_holds v clauses state s e
outcome_holds clauses (Err e) s = tt
