-- A formula of which a proof is accepted has no model.
use Rattle.std.proofs.Common.{◌≡◌, ℕ, ℤ, List, [], ◌∷◌, ◌++◌, map, sym, inl, inr, arith, Option, None, subst, Bool, true, false, append_assoc}
use Rattle.std.specs.Prelude.{All, nat_eq, unsigned_abs}
use Rattle.std.proofs.lemmas.Bool.{cases_eq}
use Rattle.std.proofs.lemmas.Bool.Decides.{nat_tests}
use Rattle.std.proofs.lemmas.List.{append-nil}
use Rattle.std.proofs.lemmas.List.Elements.{All-contains, All-push}
use Rattle.cnf_gates.specs.Meaning.{all_true}
use Rattle.clause_model.specs.Clauses.{codes_of, Satisfies, SatisfiesLive}
use Rattle.clause_model.proofs.Sound.{rup_sound}
use Rattle.lrat_check.specs.Text.{Content, addition, deletion}
use Rattle.lrat_check.proofs.Accepted.{deleted_live}
use Rattle.lrat_check.specs.Proofs.{Known, started, with_clause, without_all, after_line, AllAccepted, additions, HasEmpty, ProofVerdict}
use Rattle.lrat_check.proofs.Checks.{passed_accepted}
use Rattle.lrat_check.proofs.Models.{numbered_true, clauses_true}

with_true : (m : ℕ → Bool) (live : ℕ → Option (List ℕ)) (id : ℕ) (clause : List ℕ) → Satisfies m clause → SatisfiesLive m live → SatisfiesLive m (with_clause live id clause)
with_true m live id clause s h q = elim (cases_eq q id) [
  | inl e ↦ let z : nat_eq q id ≡ true = grind (arith, nat_tests) in rw z s
  | inr d ↦ let z : nat_eq q id ≡ false = grind (arith, nat_tests) in rw z (h q)
]

-- accepted lines add only what is true wherever the live clauses are
lines_true : (m : ℕ → Bool) (known : Known) (lines : List Content) (seen : List (List ℕ)) → AllAccepted known lines → SatisfiesLive m known.live → All (Satisfies m) seen → All (Satisfies m) (seen ++ additions lines)
lines_true m known [] seen a h s = subst (All (Satisfies m)) (sym (append-nil seen)) s
lines_true m known (addition id literals hints ∷ lines) seen a h s =
    let t : Satisfies m literals = rup_sound known.live literals (map unsigned_abs hints) a.0.follows m h in
    subst (All (Satisfies m)) (append_assoc seen (literals ∷ []) (additions lines))
    (lines_true m (after_line known (addition id literals hints)) lines (seen ++ literals ∷ []) a.1 (with_true m known.live id literals t h) (All-push (Satisfies m) seen literals s t))
lines_true m known (deletion id ids ∷ lines) seen a h s = lines_true m (after_line known (deletion id ids)) lines seen a.1 (deleted_live m known.live ids (without_all known.live ids) a.0 h) s

pub proved_unsatisfied : {F : Type 0} (fault : ℕ → F) (unfinished : F) (clauses : List (List ℤ)) (lines : List Content) → ProofVerdict fault unfinished (codes_of clauses) lines None → (m : ℕ → Bool) → all_true m clauses ≡ true → ⊥
proved_unsatisfied fault unfinished clauses lines p m e =
    let all : All (Satisfies m) (codes_of clauses) = clauses_true m clauses e in
    let every : All (Satisfies m) (codes_of clauses ++ additions lines) = lines_true m (started (codes_of clauses)) lines (codes_of clauses) (passed_accepted fault _ 1 lines p.0) (numbered_true m (codes_of clauses) all) all in
    let t : HasEmpty (codes_of clauses) lines = p.1 in
    let s : Satisfies m [] = subst (Satisfies m) t.4 (All-contains (Satisfies m) _ t.1 every (t.0, t.2, t.3)) in
    omega (arith, s.2)
