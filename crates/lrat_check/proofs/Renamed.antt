-- A verdict whose faults are renamed.
use Rattle.std.proofs.Common.{ℕ, ◌+◌, ◌∷◌, inl, inr, List, [], Option, Some, None, ap}
use Rattle.std.specs.Option.{option_map}
use Rattle.lrat_check.specs.Text.{Content}
use Rattle.lrat_check.specs.Proofs.{Tests, Then, Passes, Known, started, after_line, Accepts, LinesVerdict, HasEmpty, ProofVerdict}

module _ {F G : Type 0} (name : F → G) where
  pub tests_renamed : (P : Type 0) (e : F) (o : Option F) → Tests P e o → Tests P (name e) (option_map name o)
  tests_renamed P e None p = p
  tests_renamed P e (Some f) p = (ap name p.0, p.1)

  pub then_renamed : (a b : Option F → Type 0) (c d : Option G → Type 0) → ((o : Option F) → a o → c (option_map name o)) → ((o : Option F) → b o → d (option_map name o)) → (o : Option F) → Then a b o → Then c d (option_map name o)
  then_renamed a b c d h k None p = (h None p.0, k None p.1)
  then_renamed a b c d h k (Some f) (inl p) = inl (h (Some f) p)
  then_renamed a b c d h k (Some f) (inr p) = inr (h None p.0, k (Some f) p.1)

  passes_renamed : (o : Option F) → Passes o → Passes (option_map name o)
  passes_renamed None p = p
  passes_renamed (Some f) p = p

  pub lines_renamed : (fault : ℕ → F) (known : Known) (n : ℕ) (lines : List Content) (o : Option F) → LinesVerdict fault known n lines o → LinesVerdict (λ i. name (fault i)) known n lines (option_map name o)
  lines_renamed fault known n [] o p = passes_renamed o p
  lines_renamed fault known n (line ∷ lines) o p =
      then_renamed (Tests (Accepts known line) (fault n)) (LinesVerdict fault (after_line known line) (n + 1) lines) (Tests (Accepts known line) (name (fault n))) (LinesVerdict (λ i. name (fault i)) (after_line known line) (n + 1) lines)
      (tests_renamed (Accepts known line) (fault n)) (lines_renamed fault (after_line known line) (n + 1) lines) o p

  pub proof_renamed : (fault : ℕ → F) (unfinished : F) (clauses : List (List ℕ)) (lines : List Content) (o : Option F) → ProofVerdict fault unfinished clauses lines o → ProofVerdict (λ i. name (fault i)) (name unfinished) clauses lines (option_map name o)
  proof_renamed fault unfinished clauses lines o p =
      then_renamed (LinesVerdict fault (started clauses) 1 lines) (Tests (HasEmpty clauses lines) unfinished) (LinesVerdict (λ i. name (fault i)) (started clauses) 1 lines) (Tests (HasEmpty clauses lines) (name unfinished))
      (lines_renamed fault (started clauses) 1 lines) (tests_renamed (HasEmpty clauses lines) unfinished) o p
