-- Closed assignments contain what propagation made true, so a conflict refutes the denied literals.
use Rattle.std.proofs.Common.{◌≡◌, ℕ, ◌<◌, ◌≤◌, List, [], length, get_or, take, take-suc, subst, arith, Option, Some, None, zero, suc}
use Rattle.std.specs.Prelude.{All, Contains, slice_get}
use Rattle.std.proofs.lemmas.List.{take_all}
use Rattle.std.proofs.lemmas.List.Elements.{All-push, All-nil, All-contains}
use Rattle.std.proofs.lemmas.Option.{slice_get-get_or}
use Rattle.clause_model.specs.Clauses.{negated, IsFalse, AllFalse, IsConsistent, IsClosed}
use Rattle.clause_model.proofs.Asserted.{AllFalse-grown, unit_true}
use Rattle.clause_model.proofs.LiteralLaws.{negated-negated}
use Rattle.clause_model.proofs.Runs.{Consistent-open}
use Rattle.clause_arena.specs.Contents.{Content, literals_of}
use Rattle.unit_propagation.specs.Watching.{IsReason}
use Rattle.cdcl_core.specs.Implied.{clauses_of, IsConflict, IsJustified, BeginsAtRoot, Level}
use Rattle.cdcl_core.proofs.Roots.{open_at}

module _ (content : Content) (clauses : List (List ℕ)) (is : clauses_of content ≡ clauses) (denied : List ℕ) (reasons : List (Option ℕ)) (trail : List ℕ) (j : IsJustified content denied reasons trail) (a : List ℕ) (h : IsConsistent a) (o : IsClosed clauses a) (f : AllFalse a denied) where
  step : (n : ℕ) → n < length trail → All (Contains a) (take n trail) → (r : Option ℕ) → slice_get reasons n ≡ Some r → Contains a (get_or trail n 0)
  step n b t None e = subst (Contains a) (negated-negated (get_or trail n 0)) (All-contains (IsFalse a) denied (negated (get_or trail n 0)) f (j.given n e))
  step n b t (Some r) e = let w : IsReason content trail n r = j.because n r e in unit_true a (take n trail) (literals_of content r) (get_or trail n 0) h (open_at content clauses a r is w.clause o) t w.unit

  upto : (n : ℕ) → n ≤ length trail → All (Contains a) (take n trail)
  upto zero b = All-nil (Contains a)
  upto (suc n) b =
      let c : n < length trail = omega arith in
      let d : n < length reasons = omega (arith, j.aligned) in
      let t : All (Contains a) (take n trail) = upto n (omega arith) in
      rw (take-suc trail n 0) (All-push (Contains a) (take n trail) (get_or trail n 0) t (step n c t (get_or reasons n None) (slice_get-get_or reasons n None d)))

  -- a closed assignment that makes what is denied false contains the trail
  pub trail_true : All (Contains a) trail
  trail_true = let b : length trail ≤ length trail = omega arith in subst (All (Contains a)) (take_all (length trail) trail b) (upto (length trail) b)

  pub conflict_refutes : (i : ℕ) → IsConflict content trail i → ⊥
  conflict_refutes i w = Consistent-open a (literals_of content i) (open_at content clauses a i is w.0 o) (AllFalse-grown trail a (literals_of content i) trail_true w.1) h

-- and each closed assignment contains what is true before any decision
pub root_forces : (level : Level) (content : Content) (reasons : List (Option ℕ)) (trail : List ℕ) → BeginsAtRoot level content reasons trail → (a : List ℕ) → IsConsistent a → IsClosed level.clauses a → All (Contains a) level.base
root_forces level content reasons trail g a h o = trail_true content level.clauses g.clauses [] (take level.low reasons) level.base g.justified a h o (All-nil (IsFalse a))
