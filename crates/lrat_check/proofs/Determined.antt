-- Each verdict has at most one answer.
use Rattle.std.proofs.Common.{ℕ, ◌≡◌, ◌+◌, ◌∷◌, inl, inr, List, [], Option, Some, None, sym, ◌∙◌, ap, refl, Result, Ok, Err, IfErr}
use Rattle.lrat_check.specs.Text.{Content}
use Rattle.lrat_check.specs.Proofs.{Tests, Then, Passes, InTurn, Answers, Known, started, after_line, Accepts, LinesVerdict, HasEmpty, ProofVerdict}

-- a verdict has one answer at most
pub record IsOne {F : Type 0} (verdict : Option F → Type 0) : Type 0 where
  pub same : (a b : Option F) → verdict a → verdict b → a ≡ b

pub tests_one : {F : Type 0} (P : Type 0) (e : F) → IsOne (Tests P e)
tests_one {F = F} P e = record { same = same } where
  same : (a b : Option F) → Tests P e a → Tests P e b → a ≡ b
  same None None p q = refl
  same None (Some g) p q = absurd (q.1 p)
  same (Some f) None p q = absurd (p.1 q)
  same (Some f) (Some g) p q = ap (λ x. Some x) (p.0 ∙ sym q.0)

pub then_one : {F : Type 0} (first second : Option F → Type 0) → IsOne first → IsOne second → IsOne (Then first second)
then_one {F = F} first second h k = record { same = same } where
  none_some : (f : F) → first None → first (Some f) → ⊥
  none_some f p q = let e : None ≡ Some f = h.same None (Some f) p q in absurd (cc)

  none_other : (f : F) → second None → second (Some f) → ⊥
  none_other f p q = let e : None ≡ Some f = k.same None (Some f) p q in absurd (cc)

  same : (a b : Option F) → Then first second a → Then first second b → a ≡ b
  same None None p q = refl
  same None (Some g) p (inl q) = absurd (none_some g p.0 q)
  same None (Some g) p (inr q) = absurd (none_other g p.1 q.1)
  same (Some f) None (inl p) q = absurd (none_some f q.0 p)
  same (Some f) None (inr p) q = absurd (none_other f q.1 p.1)
  same (Some f) (Some g) (inl p) (inl q) = h.same (Some f) (Some g) p q
  same (Some f) (Some g) (inl p) (inr q) = absurd (none_some f q.0 p)
  same (Some f) (Some g) (inr p) (inl q) = absurd (none_some g p.0 q)
  same (Some f) (Some g) (inr p) (inr q) = k.same (Some f) (Some g) p.1 q.1

passes_one : {F : Type 0} (a b : Option F) → Passes a → Passes b → a ≡ b
passes_one None None p q = refl
passes_one (Some f) b p q = absurd p
passes_one None (Some g) p q = absurd q

pub turn_one : {X F : Type 0} (test : ℕ → X → Option F → Type 0) (m : ℕ) (xs : List X) → ((n : ℕ) (x : X) → IsOne (test n x)) → IsOne (InTurn test m xs)
turn_one test m [] h = record { same = passes_one }
turn_one test m (x ∷ xs) h = let one = then_one (test m x) (InTurn test (m + 1) xs) (h m x) (turn_one test (m + 1) xs h) in record { same = one.same }

pub lines_one : {F : Type 0} (fault : ℕ → F) (known : Known) (n : ℕ) (lines : List Content) → IsOne (LinesVerdict fault known n lines)
lines_one fault known n [] = record { same = passes_one }
lines_one fault known n (line ∷ lines) =
    let one = then_one (Tests (Accepts known line) (fault n)) (LinesVerdict fault (after_line known line) (n + 1) lines) (tests_one (Accepts known line) (fault n)) (lines_one fault (after_line known line) (n + 1) lines) in
    record { same = one.same }

pub proof_one : {F : Type 0} (fault : ℕ → F) (unfinished : F) (clauses : List (List ℕ)) (lines : List Content) → IsOne (ProofVerdict fault unfinished clauses lines)
proof_one fault unfinished clauses lines =
    then_one (LinesVerdict fault (started clauses) 1 lines) (Tests (HasEmpty clauses lines) unfinished) (lines_one fault (started clauses) 1 lines) (tests_one (HasEmpty clauses lines) unfinished)

-- where a verdict has no fault, a call that answers it returns Ok, or memory didn't suffice
pub passing_answers : {A F : Type 0} (memory : F) (verdict : Option F → Type 0) (r : Result A F) → IsOne verdict → verdict None → Answers memory r verdict → IfErr r (λ e. e ≡ memory)
passing_answers memory verdict (Ok a) one p q = tt
passing_answers memory verdict (Err e) one p (inl q) = q
passing_answers memory verdict (Err e) one p (inr q) = let no : None ≡ Some e = one.same None (Some e) p q in absurd (cc)
