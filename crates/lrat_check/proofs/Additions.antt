-- The clauses that the lines of a log add.
use Rattle.std.proofs.Common.{◌≡◌, ◌≢◌, ℕ, ◌+◌, ◌<◌, List, [], ◌∷◌, ◌++◌, length, get_or, take, drop, sym, ◌∙◌, ap, subst, arith, refl, slice_get, Some, true, false, append_assoc}
use Rattle.std.specs.Prelude.{All, Contains, ◌==◌}
use Rattle.std.specs.Option.{option_map}
use Rattle.std.proofs.lemmas.List.{take_more, append-nil, take-append-drop, length_push, nil_from_length}
use Rattle.std.proofs.lemmas.Bool.{eqb-true, true≢false}
use Rattle.std.proofs.lemmas.List.Concat.{flat_map-append}
use Rattle.std.proofs.lemmas.List.Elements.{All-push, All-contains, Contains-append_right}
use Rattle.std.proofs.lemmas.Option.{slice_get_within, get_or_from_slice_get, slice_get-map}
use Rattle.lrat_check.specs.declared.line.Line.{Line}
use Rattle.lrat_check.specs.Text.{Content, content_of}
use Rattle.lrat_check.specs.Proofs.{added, additions}
use Rattle.lrat_check.specs.Runs.{contents_of}
use Rattle.cnf_gates.proofs.Text.{drop_from}
use Rattle.common_lemmas.proofs.Lists.{get_of_or}

pub content_at : (lines : List Line) (i : ℕ) (line : Line) → i < length lines → line ≡ get_or lines i line → slice_get (contents_of lines) i ≡ Some (content_of line)
content_at lines i line b e = slice_get-map content_of lines i ∙ ap (option_map content_of) (get_of_or lines i line b e)

take_got : {X : Type 0} (xs : List X) (i : ℕ) (x : X) → slice_get xs i ≡ Some x → take (i + 1) xs ≡ take i xs ++ x ∷ []
take_got xs i x e = take_more xs i x (slice_get_within xs i x e) ∙ ap (λ y. take i xs ++ y ∷ []) (get_or_from_slice_get xs i x x e)

module _ (lines : List Content) (i : ℕ) (line : Content) (at : slice_get lines i ≡ Some line) where
  pub additions_more : additions (take (i + 1) lines) ≡ additions (take i lines) ++ added line
  additions_more = ap additions (take_got lines i line at) ∙ flat_map-append added (take i lines) (line ∷ []) ∙ ap (λ ys. additions (take i lines) ++ ys) (append-nil (added line))

  -- the clauses before the lines so far, with one more of these
  pub before_clause : (clauses : List (List ℕ)) (clause : List ℕ) → added line ≡ clause ∷ [] → clauses ++ additions (take (i + 1) lines) ≡ (clauses ++ additions (take i lines)) ++ clause ∷ []
  before_clause clauses clause e = ap (λ ys. clauses ++ ys) additions_more ∙ sym (append_assoc clauses (additions (take i lines)) (added line)) ∙ ap (λ ys. (clauses ++ additions (take i lines)) ++ ys) e

  pub before_none : (clauses : List (List ℕ)) → added line ≡ [] → clauses ++ additions (take (i + 1) lines) ≡ clauses ++ additions (take i lines)
  before_none clauses e = ap (λ ys. clauses ++ ys) (additions_more ∙ ap (λ ys. additions (take i lines) ++ ys) e ∙ append-nil (additions (take i lines)))

  pub additions_left : additions (drop i lines) ≡ added line ++ additions (drop (i + 1) lines)
  additions_left = ap additions (drop_from lines i line at)

  pub additions_clause : (clause : List ℕ) → added line ≡ clause ∷ [] → additions (drop i lines) ≡ clause ∷ additions (drop (i + 1) lines)
  additions_clause clause e = additions_left ∙ ap (λ xs. xs ++ additions (drop (i + 1) lines)) e

  pub additions_none : added line ≡ [] → additions (drop i lines) ≡ additions (drop (i + 1) lines)
  additions_none e = additions_left ∙ ap (λ xs. xs ++ additions (drop (i + 1) lines)) e

  -- an added clause is among all
  pub added_within : (clause : List ℕ) → added line ≡ clause ∷ [] → Contains (additions lines) clause
  added_within clause e =
      let whole : additions (take i lines) ++ additions (drop i lines) ≡ additions lines = sym (flat_map-append added (take i lines) (drop i lines)) ∙ ap additions (take-append-drop i lines) in
      let first : Contains (clause ∷ additions (drop (i + 1) lines)) clause = (0, omega arith, refl) in
      let right : Contains (additions (drop i lines)) clause = subst (λ (xs : List (List ℕ)). Contains xs clause) (sym (additions_clause clause e)) first in
      subst (λ (xs : List (List ℕ)). Contains xs clause) whole (Contains-append_right (additions (take i lines)) (additions (drop i lines)) clause right)

  pub empty_added : (clause : List ℕ) → added line ≡ clause ∷ [] → clause ≡ [] → All (λ c. c ≢ []) (additions lines) → ⊥
  empty_added clause e z h = All-contains (λ c. c ≢ []) (additions lines) clause h (added_within clause e) z

-- what is known of the lines so far, with one more
module _ (lines : List Content) (i : ℕ) (line : Content) (at : slice_get lines i ≡ Some line) where
  pub count_added : (clause : List ℕ) (now next : ℕ) → added line ≡ clause ∷ [] → now ≡ length (additions (take i lines)) → next ≡ now + 1 → next ≡ length (additions (take (i + 1) lines))
  count_added clause now next e h k =
      let s : additions (take (i + 1) lines) ≡ additions (take i lines) ++ clause ∷ [] = additions_more lines i line at ∙ ap (λ xs. additions (take i lines) ++ xs) e in
      rw s (rw length_push (rw (k, h) refl))

  pub count_same : (now next : ℕ) → added line ≡ [] → now ≡ length (additions (take i lines)) → next ≡ now → next ≡ length (additions (take (i + 1) lines))
  count_same now next e h k =
      let s : additions (take (i + 1) lines) ≡ additions (take i lines) = additions_more lines i line at ∙ ap (λ xs. additions (take i lines) ++ xs) e ∙ append-nil (additions (take i lines)) in
      rw s (k ∙ h)

  pub all_added : (clause : List ℕ) → added line ≡ clause ∷ [] → (clause ≡ [] → ⊥) → All (λ c. c ≢ []) (additions (take i lines)) → All (λ c. c ≢ []) (additions (take (i + 1) lines))
  all_added clause e n h =
      let s : additions (take (i + 1) lines) ≡ additions (take i lines) ++ clause ∷ [] = additions_more lines i line at ∙ ap (λ xs. additions (take i lines) ++ xs) e in
      subst (All (λ c. c ≢ [])) (sym s) (All-push (λ c. c ≢ []) (additions (take i lines)) clause h n)

  pub all_same : added line ≡ [] → All (λ c. c ≢ []) (additions (take i lines)) → All (λ c. c ≢ []) (additions (take (i + 1) lines))
  all_same e h =
      let s : additions (take (i + 1) lines) ≡ additions (take i lines) = additions_more lines i line at ∙ ap (λ xs. additions (take i lines) ++ xs) e ∙ append-nil (additions (take i lines)) in
      subst (All (λ c. c ≢ [])) (sym s) h

-- a test of emptiness
pub is_nil : (clause : List ℕ) → (length clause == 0) ≡ true → clause ≡ []
is_nil clause e = nil_from_length clause (eqb-true (length clause) 0 e)

pub is_no_nil : (clause : List ℕ) → (length clause == 0) ≡ false → clause ≡ [] → ⊥
is_no_nil [] e z = true≢false e
is_no_nil (x ∷ xs) e z = cc
