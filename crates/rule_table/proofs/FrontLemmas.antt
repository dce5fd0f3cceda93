-- Splitting a line into its first word and the rest is right: the two together are the line again.
use Rattle.std.proofs.Common.{◌≡◌, ℕ, ◌==◌, List, [], ◌∷◌, ◌++◌, refl, sym, ◌∙◌, ap, Option, Some, None, eqb-true, eq-eqb, inl, inr}
use Rattle.std.specs.Prelude.{MatchOption, option_map, ◌≢◌}
use Rattle.std.specs.Borrow.{Bor}
use Rattle.std.specs.Char.{is_ascii_digit}
use Rattle.std.proofs.lemmas.Bool.{cases_Bool}
use Rattle.std.proofs.lemmas.Option.{same_Some}
use Rattle.rule_table.specs.declared.words.FirstWord.{FirstWord}
use Rattle.rule_table.specs.declared.words.FirstWord.TheVariants as word
use Rattle.rule_table.specs.Fronts.{words, word_text, strip, or_else, front_in, front}

pub strip_front : (p t : List ℕ) → strip p (p ++ t) ≡ Some t
strip_front [] t = refl
strip_front (a ∷ p) t = rw (eq-eqb a a refl) (strip_front p t)

pub strip_sound : (p s t : List ℕ) → strip p s ≡ Some t → s ≡ p ++ t
strip_sound [] s t e = same_Some _ _ e
strip_sound (a ∷ p) [] t e = cc
strip_sound (a ∷ p) (b ∷ s) t e = elim (cases_Bool (a == b)) [
  | inl h ↦ (let same : a ≡ b = eqb-true a b h in let rest = strip_sound p s t (rw h at e) in rw (rest, ← same) refl)
  | inr h ↦ absurd (let bad : None ≡ Some t = rw h at e in cc)
]

pub strip_none : (p s : List ℕ) → ((t : List ℕ) → s ≢ p ++ t) → strip p s ≡ None
strip_none p s never = by (strip p s) refl
  where
    by : (o : Option (List ℕ)) → strip p s ≡ o → strip p s ≡ None
    by None e = e
    by (Some t) e = absurd (never t (strip_sound p s t e))

pub strip_is : (p s : List ℕ) (r : Option (Bor (List ℕ))) → MatchOption r ((t : List ℕ) → s ≢ p ++ t) (λ x. s ≡ p ++ x.now) → option_map (λ (x : Bor (List ℕ)). x.now) r ≡ strip p s
strip_is p s None h = sym (strip_none p s h)
strip_is p s (Some x) h = sym (ap (strip p) h ∙ strip_front p x.now)

pub same_pair : (w v : FirstWord) (t u : List ℕ) → ◌≡◌ {A = Option (FirstWord × List ℕ)} (Some (w, t)) (Some (v, u)) → (w ≡ v) × (t ≡ u)
same_pair w v t u e =
    let same = same_Some (w, t) (v, u) e in
    (ap (λ (x : FirstWord × List ℕ). x.0) same, ap (λ (x : FirstWord × List ℕ). x.1) same)

front_in_sound : (ws : List FirstWord) (bs : List ℕ) (w : FirstWord) (t : List ℕ) → front_in ws bs ≡ Some (w, t) → bs ≡ word_text w ++ t
front_in_sound [] bs w t e = cc
front_in_sound (v ∷ ws) bs w t e = by (strip (word_text v) bs) refl e (front_in_sound ws bs w t)
  where
    by : (o : Option (List ℕ)) → strip (word_text v) bs ≡ o → or_else v o (front_in ws bs) ≡ Some (w, t) → (front_in ws bs ≡ Some (w, t) → bs ≡ word_text w ++ t) → bs ≡ word_text w ++ t
    by None h e later = later e
    by (Some u) h e later =
        let same = same_pair v w u t e in
        strip_sound (word_text v) bs u h ∙ ap (λ x. word_text x ++ u) same.0 ∙ ap (λ x. word_text w ++ x) same.1

-- the bytes are the word followed by the rest
pub front_sound : (bs : List ℕ) (w : FirstWord) (t : List ℕ) → front bs ≡ Some (w, t) → bs ≡ word_text w ++ t
unfolding front
front_sound [] w t e = cc
front_sound (b ∷ bs) w t e = elim (cases_Bool (is_ascii_digit b)) [
  | inl h ↦ (let same = same_pair word.Digit w (b ∷ bs) t (rw h at e) in same.1 ∙ ap (λ x. word_text x ++ t) same.0)
  | inr h ↦ front_in_sound words (b ∷ bs) w t (rw h at e)
]
